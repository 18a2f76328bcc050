use Rattle.worked.proofs.Day.{worked_day_lem}
use Rattle.worked.proofs.worked_day.Goals as goal

pub returns : goal.returns
returns c = worked_day_lem
