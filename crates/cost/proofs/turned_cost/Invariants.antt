use Rattle.std.proofs.Common.{◌≡◌, ◌*◌, ◌≤◌}
use Rattle.records.specs.Entered.{register_in}
use Rattle.cost.specs.Cost.{sum_below, turn_costs}
use Rattle.cost.proofs.turned_cost.Given as goal

abbrev pub invariant-loop-j : goal.invariant-loop-j
invariant-loop-j g l = (l.sum ≡ sum_below l.j (turn_costs g.K.Kind.time (register_in g.K.Kind.time l.e))) × (l.sum ≤ 512000000 * l.j)
