use Rattle.registers.proofs.Forces.{force_shared}
use Rattle.registers.proofs.same_force.Goals as goal

pub returns : goal.returns
returns g c = force_shared g.K.Kind.time
