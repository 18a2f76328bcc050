use Rattle.std.proofs.Common.{arith}
use Rattle.std.proofs.lemmas.List.{get_or_read}
use Rattle.records.specs.Entered.{register_in}
use Rattle.force.specs.Added.{OfRun}
use Rattle.force.specs.Force.{run_in}
use Rattle.force.proofs.Adds.{added_more}
use Rattle.force.proofs.Parts.{run_is}
use Rattle.force.proofs.arcs.ArcList.push_runs.Goals as goal

pub loop-r-preserved : goal.loop-r-preserved
loop-r-preserved g c =
    let t = g.K.Kind.time in
    let R = register_in t c.args.e.now in
    let r = c.loop-r.r in (
      added_more t (λ r. OfRun r (run_in t R r)) _ _ _ 0 r (omega arith) c.loop-r.invariant.0
          (run_is t r c.run-item.result (run_in t R r) _ _ (get_or_read c.args.e.now.runs.now r c.run-item.result c.loop-r-test.true c.run-item.is _) c.push_run.ensures.added),
      omega (arith, c.loop-r.invariant.1, c.push_run.ensures.room),
    )
