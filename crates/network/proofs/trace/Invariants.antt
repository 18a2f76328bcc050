use Rattle.std.proofs.Common.{◌-◌, ◌≤◌, length}
use Rattle.network.proofs.Traces.{Traced}
use Rattle.network.proofs.Marks.{Marks}
use Rattle.network.proofs.trace.Given as goal

abbrev pub invariant-loop-seen : goal.invariant-loop-seen
invariant-loop-seen g l =
    Traced g.K.Kind.time l.kept.floors.now l.kept.arcs.now l.rows l.path l.v l.count l.event
    × Marks g.K.Kind.time l.kept.arcs.now (length l.kept.floors.now) l.seen l.path l.count
    × (l.count ≤ length l.kept.floors.now)

abbrev pub decreases-loop-seen : goal.decreases-loop-seen
decreases-loop-seen g l = length l.kept.floors.now - l.count
