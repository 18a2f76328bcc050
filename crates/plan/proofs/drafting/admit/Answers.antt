use Rattle.records.specs.Entered.{TakenFrom}
use Rattle.records.specs.Register.{Memory}
use Rattle.rules.specs.Rows.{SoundDraft, draft_rows}
use Rattle.plan.proofs.Told.{told, sound_of}
use Rattle.plan.proofs.drafting.admit.Goals as goal

pub returns-clause-rows : goal.returns-clause-rows
returns-clause-rows g c =
    told (λ (x : Memory g.row.K.Denot). draft_rows g.K.Kind.time x) _ _ c.view.ensures c.check_draft.result c.check_draft.ensures.rows

pub returns-clause-sound : goal.returns-clause-sound
returns-clause-sound g c =
    let t = g.K.Kind.time in
    sound_of (λ m e. TakenFrom t m e) (λ m. SoundDraft t m) _ _ c.view.ensures c.check_draft.result c.check_draft.ensures.taken c.check_draft.ensures.sound
