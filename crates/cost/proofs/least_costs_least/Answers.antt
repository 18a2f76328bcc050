use Rattle.cost.proofs.Costs.{cheapest}
use Rattle.cost.proofs.least_costs_least.Goals as goal

pub returns : goal.returns
returns g c = cheapest g.K.Kind.time g.met.K.Kind.laws
