use Rattle.registers.proofs.Stays.{limits_kept_lem}
use Rattle.registers.proofs.limits_kept.Goals as goal

pub returns : goal.returns
returns g c = limits_kept_lem g.K.Kind.time
