use Rattle.records.specs.Lent.{lists_in, register_lent}
use Rattle.force.specs.Added.{FloorsOf}
use Rattle.force.proofs.floors.fill_floors.Given as goal

abbrev pub invariant-loop-r : goal.invariant-loop-r
invariant-loop-r g l = FloorsOf g.K.Kind.time (register_lent g.K.Kind.time (lists_in l.records)) l.r l.floors
