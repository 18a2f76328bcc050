use Rattle.std.proofs.Common.{◌<◌, length}
use Rattle.network.specs.Rounds.{Latest, Levels}
use Rattle.network.proofs.settle.Given as goal

abbrev pub invariant-loop-k : goal.invariant-loop-k
invariant-loop-k g l =
    Latest g.K.Kind.time l.kept.floors.now l.kept.arcs.now l.k l.times
    × Levels g.K.Kind.time l.kept.floors.now l.kept.arcs.now l.k l.rows
    × (0 < l.k → l.k < length l.kept.floors.now)
