use Rattle.std.proofs.Common.{◌+◌, ◌*◌, ◌≤◌}
use Rattle.records.specs.Entered.{register_in}
use Rattle.records.specs.Places.{total}
use Rattle.force.specs.Force.{track_in}
use Rattle.force.specs.Added.{Added, OrderArcs}
use Rattle.force.proofs.arcs.ArcList.push_orders.Given as goal

abbrev pub invariant-loop-j : goal.invariant-loop-j
invariant-loop-j g l =
    Added g.K.Kind.time (OrderArcs g.K.Kind.time (register_in g.K.Kind.time l.layout.entered.now) l.j) l.initial.self l.self
    × (l.self.count ≤ l.initial.self.count + 2 * total (track_in g.K.Kind.time (register_in g.K.Kind.time l.layout.entered.now)) l.j)
