use Rattle.records.specs.Entered.{TakenFrom}
use Rattle.records.specs.Register.{Memory}
use Rattle.rules.specs.Rows.{SoundOpen, open_rows}
use Rattle.plan.proofs.Told.{told, sound_of}
use Rattle.plan.proofs.admits.admit_shown.Goals as goal

pub returns-clause-rows : goal.returns-clause-rows
returns-clause-rows g c =
    told (λ (x : Memory g.row.K.Denot). open_rows g.K.Kind.time x c.args.times.now) _ _ c.view.ensures c.check_open.result c.check_open.ensures.rows

pub returns-clause-sound : goal.returns-clause-sound
returns-clause-sound g c =
    let t = g.K.Kind.time in
    sound_of (λ m e. TakenFrom t m e) (λ m. SoundOpen t m c.args.times.now) _ _ c.view.ensures c.check_open.result c.check_open.ensures.taken c.check_open.ensures.sound
