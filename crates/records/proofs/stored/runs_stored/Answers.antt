use Rattle.std.proofs.Common.{sym, refl, subst, arith, below_more}
use Rattle.std.proofs.lemmas.Bool.{false≢true, both_ways}
use Rattle.std.proofs.lemmas.List.{get_or_read}
use Rattle.records.specs.declared.Run.{Run}
use Rattle.records.specs.Records.{run_at}
use Rattle.records.specs.Stored.{RunStored}
use Rattle.records.proofs.stored.runs_stored.Goals as goal

pub returns-then-not-run_stored : goal.returns-then-not-run_stored
returns-then-not-run_stored g c =
    let P : Run g.row.K.Denot → Type 0 = RunStored g.K.Kind.time c.args.tracks c.loop-r.r in
    let e = get_or_read c.args.runs.now c.loop-r.r c.index-runs-r.result c.loop-r-test.true c.index-runs-r.is _ in
    ((λ e. absurd (false≢true e)), λ all. absurd (both_ways _ c.if-not-run_stored.true (c.run_stored.ensures.1 (subst P (sym e) (all.each c.loop-r.r c.loop-r-test.true)))))

pub loop-r-preserved : goal.loop-r-preserved
loop-r-preserved g c =
    let t = g.K.Kind.time in
    let P : Run g.row.K.Denot → Type 0 = RunStored t c.args.tracks c.loop-r.r in
    let e = get_or_read c.args.runs.now c.loop-r.r c.index-runs-r.result c.loop-r-test.true c.index-runs-r.is _ in
    below_more (λ r. RunStored t c.args.tracks r (run_at t c.args.runs.now r)) c.loop-r.r c.loop-r.invariant (subst P e (c.run_stored.ensures.0 c.if-not-run_stored.false))

pub returns : goal.returns
returns g c = ((λ _. record { each = λ k h. c.loop-r.invariant k (omega arith) }), λ _. refl)
