use Rattle.registers.proofs.Agrees.{steps_of}
use Rattle.registers.proofs.steps_agree.Goals as goal

pub returns : goal.returns
returns g c = steps_of g.K.Kind.time
