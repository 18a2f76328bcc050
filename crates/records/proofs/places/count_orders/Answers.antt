use Rattle.std.proofs.Common.{ℕ, refl, arith, length-set}
use Rattle.std.proofs.lemmas.List.{get_or-replicate}
use Rattle.records.proofs.Counts.{turn, tally_more}
use Rattle.records.proofs.places.count_orders.Goals as goal

pub loop-run-init : goal.loop-run-init
loop-run-init g c = (refl, (λ x h. get_or-replicate {A = ℕ} 64 x 0 0 h), refl)

pub bounds-counts-run : goal.bounds-counts-run
bounds-counts-run g c = (turn g.K.Kind.time c.args.runs.now _ _ c.requires.few c.requires.tracks c.loop-run-test.true c.run-item.is).inside

pub overflow_add-sum : goal.overflow_add-sum
overflow_add-sum g c = let h = turn g.K.Kind.time c.args.runs.now _ _ c.requires.few c.requires.tracks c.loop-run-test.true c.run-item.is in omega (arith, c.loop-run.invariant.1 _ h.inside)

pub overflow_add-count : goal.overflow_add-count
overflow_add-count g c = let h = turn g.K.Kind.time c.args.runs.now _ _ c.requires.few c.requires.tracks c.loop-run-test.true c.run-item.is in omega (arith, c.loop-run.invariant.1 _ h.inside)

pub loop-run-preserved : goal.loop-run-preserved
loop-run-preserved g c =
    let h = turn g.K.Kind.time c.args.runs.now _ _ c.requires.few c.requires.tracks c.loop-run-test.true c.run-item.is in
    let here = c.loop-run.invariant.1 _ h.inside in (
      omega (arith, c.loop-run.invariant.0),
      tally_more _ _ c.loop-run.counts _ _ h.on (omega (arith, h.inside)) here c.loop-run.invariant.1,
      simp length-set c.loop-run.invariant.2,
    )
