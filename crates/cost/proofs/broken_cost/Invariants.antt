use Rattle.std.proofs.Common.{◌≡◌, ◌*◌, ◌≤◌}
use Rattle.records.specs.Entered.{register_in}
use Rattle.cost.specs.Cost.{sum_below, break_cost}
use Rattle.cost.proofs.broken_cost.Given as goal

abbrev pub invariant-loop-c : goal.invariant-loop-c
invariant-loop-c g l = (l.sum ≡ sum_below l.c (break_cost g.K.Kind.time (register_in g.K.Kind.time l.e))) × (l.sum ≤ 1000000 * l.c)
