use Rattle.registers.proofs.Rows.{rows_shared}
use Rattle.registers.proofs.same_rows.Goals as goal

pub returns : goal.returns
returns g c = rows_shared g.K.Kind.time
