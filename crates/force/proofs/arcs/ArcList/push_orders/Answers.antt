use Rattle.std.proofs.Common.{length, ◌+◌, arith}
use Rattle.records.specs.Entered.{register_in}
use Rattle.records.proofs.Counts.{total_more, total_mono}
use Rattle.force.specs.Added.{Among, OrderOf}
use Rattle.force.specs.Force.{track_in}
use Rattle.force.proofs.Adds.{added_more}
use Rattle.force.proofs.arcs.ArcList.push_orders.Goals as goal

pub push_orders_of-requires-clause-room : goal.push_orders_of-requires-clause-room
push_orders_of-requires-clause-room g c =
    let f = track_in g.K.Kind.time (register_in g.K.Kind.time c.args.layout.now.entered.now) in
    let more = total_more f c.loop-j.j in
    let mono = total_mono f (c.loop-j.j + 1) (length c.args.layout.now.entered.now.runs.now) (omega arith) in
    omega (arith, c.requires.room, c.loop-j.invariant.0.long, c.loop-j.invariant.1)

pub loop-j-preserved : goal.loop-j-preserved
loop-j-preserved g c =
    let t = g.K.Kind.time in
    let R = register_in t c.args.layout.now.entered.now in
    let more = total_more (track_in t R) c.loop-j.j in (
      added_more t (λ j. Among (OrderOf t R j) 0 j) _ _ _ 0 c.loop-j.j (omega arith) c.loop-j.invariant.0 c.push_orders_of.ensures.added,
      omega (arith, c.push_orders_of.ensures.room, c.loop-j.invariant.1),
    )
