use Rattle.journal.proofs.Openings.{open_taken, open_refused}
use Rattle.journal.proofs.drafting.open_draft.Goals as goal

pub returns-in-Ok-clause-step : goal.returns-in-Ok-clause-step
returns-in-Ok-clause-step g c =
    let m = c.args.memories.now in
    λ B st. open_taken g.K.Kind.time c.args.draft m c.args.work.now c.requires.listed B st c.open.new.times c.open.new.ring m.trial.now c.in-Ok.open c.in-Ok.ensures.plan c.in-Ok.ensures.reckons

pub returns-in-Err-clause-step : goal.returns-in-Err-clause-step
returns-in-Err-clause-step g c =
    let m = c.args.memories.now in
    let u = c.in-Err.field-0 in
    let k = c.in-Err.ensures in
    λ B st. open_refused g.K.Kind.time c.args.draft m c.args.work.now c.requires.listed B st c.open.new.times c.open.new.ring m.trial.now u.draft u.fault k.plan k.reckons
