use Rattle.std.proofs.Common.{◌∙◌, set-set}
use lib.Seq.{set-get_or}
use Rattle.plan.proofs.changes.replace_setting.Goals as goal

pub returns-in-Err-clause-records : goal.returns-in-Err-clause-records
returns-in-Err-clause-records g c = set-set c.args.settings.now c.args.place c.args.setting _ ∙ set-get_or c.args.settings.now c.args.place 0
