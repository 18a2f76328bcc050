use Rattle.std.proofs.Common.{arith}
use Rattle.std.proofs.lemmas.Grind.{common_steps}
use Rattle.std.proofs.lemmas.Bool.{eqb-true, eq-eqb}
use Rattle.rules.proofs.records_listed.Goals as goal

pub returns-then-v-eq-CONNECTIONS : goal.returns-then-v-eq-CONNECTIONS
returns-then-v-eq-CONNECTIONS g c =
    ((λ e. record { tracks = grind (arith, common_steps); runs = grind (arith, common_steps); connections = grind (arith, common_steps); settings = eqb-true _ _ e }), λ s. eq-eqb _ _ s.settings)
