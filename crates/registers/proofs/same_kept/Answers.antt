use Rattle.registers.proofs.Kept.{same_kept}
use Rattle.registers.proofs.same_kept.Goals as goal

pub returns : goal.returns
returns g c = same_kept g.K.Kind.time
