use Rattle.network.specs.Rounds.{Round}
use Rattle.network.proofs.round.Given as goal

abbrev pub invariant-loop-i : goal.invariant-loop-i
invariant-loop-i g l = Round g.K.Kind.time l.kept.arcs.now l.i l.old l.new l.from
