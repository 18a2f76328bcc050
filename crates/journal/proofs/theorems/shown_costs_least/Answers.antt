use Rattle.journal.proofs.Follows.{shown_costs_least_lem}
use Rattle.journal.proofs.theorems.shown_costs_least.Goals as goal

pub returns : goal.returns
returns g c = shown_costs_least_lem g.K.Kind.time g.met.K.Kind.laws
