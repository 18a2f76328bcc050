use Rattle.std.proofs.Common.{arith}
use Rattle.std.proofs.lemmas.List.{get_or_read}
use Rattle.records.specs.Entered.{register_in}
use Rattle.force.specs.Added.{ConnectionOf}
use Rattle.force.proofs.Adds.{added_more}
use Rattle.force.proofs.Parts.{connection_is}
use Rattle.force.proofs.arcs.ArcList.push_connections.Goals as goal

pub loop-i-preserved : goal.loop-i-preserved
loop-i-preserved g c =
    let t = g.K.Kind.time in
    let R = register_in t c.args.e.now in
    let i = c.loop-i.i in (
      added_more t (ConnectionOf t R) _ _ _ 0 i (omega arith) c.loop-i.invariant.0
          (connection_is t R i c.connection-item.result c.run-onward.result _ _ (get_or_read c.args.e.now.connections.now i c.connection-item.result c.loop-i-test.true c.connection-item.is _) c.run-onward.ensures c.push_connection.ensures.added),
      omega (arith, c.loop-i.invariant.1, c.push_connection.ensures.room),
    )
