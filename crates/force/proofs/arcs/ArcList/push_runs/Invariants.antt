use Rattle.std.proofs.Common.{◌+◌, ◌*◌, ◌≤◌}
use Rattle.records.specs.Entered.{register_in}
use Rattle.force.specs.Added.{Added, RunArcs}
use Rattle.force.proofs.arcs.ArcList.push_runs.Given as goal

abbrev pub invariant-loop-r : goal.invariant-loop-r
invariant-loop-r g l =
    Added g.K.Kind.time (RunArcs g.K.Kind.time (register_in g.K.Kind.time l.e) l.r) l.initial.self l.self
    × (l.self.count ≤ l.initial.self.count + 2 * l.r)
