use Rattle.std.proofs.Common.{◌≡◌, ◌*◌, ◌≤◌}
use Rattle.network.specs.Reckoning.{at}
use Rattle.records.specs.Entered.{register_in}
use Rattle.cost.specs.Cost.{sum_below, late_cost_lem}
use Rattle.cost.proofs.lateness_cost.Given as goal

abbrev pub invariant-loop-r : goal.invariant-loop-r
invariant-loop-r g l = (l.sum ≡ sum_below l.r (late_cost_lem g.K.Kind.time (register_in g.K.Kind.time l.e) (at g.K.Kind.time l.times))) × (l.sum ≤ 104300000000 * l.r)
