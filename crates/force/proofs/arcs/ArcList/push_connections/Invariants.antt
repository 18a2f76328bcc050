use Rattle.std.proofs.Common.{◌+◌, ◌≤◌}
use Rattle.records.specs.Entered.{register_in}
use Rattle.force.specs.Added.{Added, ConnectionArcs}
use Rattle.force.proofs.arcs.ArcList.push_connections.Given as goal

abbrev pub invariant-loop-i : goal.invariant-loop-i
invariant-loop-i g l =
    Added g.K.Kind.time (ConnectionArcs g.K.Kind.time (register_in g.K.Kind.time l.e) l.i) l.initial.self l.self
    × (l.self.count ≤ l.initial.self.count + l.i)
