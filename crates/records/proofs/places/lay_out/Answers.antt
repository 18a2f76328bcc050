use Rattle.std.proofs.Common.{◌≡◌, ℕ, length, refl, ◌∙◌, subst, arith}
use Rattle.records.specs.Places.{Laid, Previous}
use Rattle.records.specs.Records.{track_of}
use Rattle.records.proofs.Counts.{turn, laid_more, tally_of, tallied_none, tallied_more}
use Rattle.records.proofs.places.lay_out.Goals as goal

pub loop-j-init : goal.loop-j-init
loop-j-init g c = (record { earlier = λ k h. absurd (omega arith); sum = λ k h. absurd (omega arith); before = λ k h. absurd (omega arith) }, refl, tallied_none _)

pub bounds-tallies-run : goal.bounds-tallies-run
bounds-tallies-run g c = (turn g.K.Kind.time c.args.runs.now _ _ c.requires.few c.requires.tracks c.loop-j-test.true c.index-runs-j.is).inside

pub overflow_add-sum : goal.overflow_add-sum
overflow_add-sum g c = let h = turn g.K.Kind.time c.args.runs.now _ _ c.requires.few c.requires.tracks c.loop-j-test.true c.index-runs-j.is in omega (arith, c.loop-j.invariant.2.counts _ h.inside)

pub overflow_add-tally : goal.overflow_add-tally
overflow_add-tally g c = let h = turn g.K.Kind.time c.args.runs.now _ _ c.requires.few c.requires.tracks c.loop-j-test.true c.index-runs-j.is in omega (arith, c.loop-j.invariant.2.counts _ h.inside)

pub loop-j-preserved : goal.loop-j-preserved
loop-j-preserved g c =
    let f = track_of g.K.Kind.time c.args.runs.now in
    let h = turn g.K.Kind.time c.args.runs.now _ _ c.requires.few c.requires.tracks c.loop-j-test.true c.index-runs-j.is in
    let tallied = c.loop-j.invariant.2 in
    let here = tallied.counts _ h.inside in
    let P : ℕ → Type 0 = λ x. Previous f x c.loop-j.j (tally_of c.loop-j.tallies c.index-runs-j.result.track).last in (
      laid_more f c.loop-j.j c.loop-j.places _ (omega arith) c.loop-j.invariant.0 (here ∙ h.counted) c.loop-j.invariant.1 (subst P h.on (tallied.lasts _ h.inside)),
      omega (arith, c.loop-j.invariant.1, here, h.counted),
      tallied_more f c.loop-j.j c.loop-j.tallies _ _ h.on h.inside (omega (arith, here)) refl tallied,
    )

pub returns-clause-laid : goal.returns-clause-laid
returns-clause-laid g c =
    let e : c.loop-j.j ≡ length c.args.runs.now = omega arith in
    let P : ℕ → Type 0 = λ n. Laid (track_of g.K.Kind.time c.args.runs.now) n c.loop-j.places in subst P e c.loop-j.invariant.0
