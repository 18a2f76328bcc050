use Rattle.std.proofs.Common.{◌+◌, ◌*◌, ◌≤◌}
use Rattle.records.specs.Entered.{register_in}
use Rattle.records.specs.Places.{count, earlier}
use Rattle.records.proofs.Walks.{past, OnTrack}
use Rattle.force.specs.Force.{track_in}
use Rattle.force.specs.Added.{Added, Among, OrderOf}
use Rattle.force.proofs.arcs.ArcList.push_orders_of.Given as goal

abbrev pub invariant-loop-next : goal.invariant-loop-next
invariant-loop-next g l =
    let t = g.K.Kind.time in
    let f = track_in t (register_in t l.layout.entered.now) in
    Added t (Among (OrderOf t (register_in t l.layout.entered.now) l.j) (past l.next) l.j) l.initial.self l.self
    × (past l.next ≤ l.j)
    × OnTrack f l.j l.next
    × (l.self.count + 2 * count f (f l.j) (past l.next) ≤ l.initial.self.count + 2 * earlier f l.j)

abbrev pub decreases-loop-next : goal.decreases-loop-next
decreases-loop-next g l = past l.next
