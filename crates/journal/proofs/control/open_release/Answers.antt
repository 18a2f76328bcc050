use Rattle.std.proofs.Common.{◌≡◌, get_or, Some, None, sym, refl, ap, ◌∙◌}
use Rattle.std.proofs.lemmas.List.{get_or-set_same}
use Rattle.plan.specs.States.{lists}
use Rattle.journal.proofs.Holds.{slot_inside, release_step, release_refused}
use Rattle.journal.proofs.States.{same_lists}
use Rattle.journal.proofs.control.open_release.Goals as goal

pub put_slip-requires-clause-free : goal.put_slip-requires-clause-free
put_slip-requires-clause-free g c =
    let slips = c.args.memories.now.slips.now in
    let was : get_or slips c.args.run None ≡ Some c.in-Some.slip = sym c.pick_slip.ensures.was ∙ c.in-Some.is in
    ap (λ ss. get_or ss c.args.run None) c.pick_slip.ensures.left ∙ get_or-set_same slips c.args.run None None (slot_inside slips c.args.run c.in-Some.slip was)

pub returns-in-Ok-clause-step : goal.returns-in-Ok-clause-step
returns-in-Ok-clause-step g c =
    let m = c.args.memories.now in
    let was : get_or m.slips.now c.args.run None ≡ Some c.in-Some.slip = sym c.pick_slip.ensures.was ∙ c.in-Some.is in
    let k = c.in-Ok.ensures in
    λ B st. release_step g.K.Kind.time g.met.K.Kind.laws c.args.plan.now m c.args.work.now c.requires.listed B st c.release.new.ring m.trial.now c.args.run c.in-Some.slip was (lists m.tracks.now c.release.new.runs m.connections.now m.settings.now) c.release.new.times c.pick_slip.new.slips k.reckons k.records c.pick_slip.ensures.left

pub returns-in-Err-clause-step : goal.returns-in-Err-clause-step
returns-in-Err-clause-step g c =
    let m = c.args.memories.now in
    let was : get_or m.slips.now c.args.run None ≡ Some c.in-Some.slip = sym c.pick_slip.ensures.was ∙ c.in-Some.is in
    let u = c.in-Err.field-0 in
    let k = c.in-Err.ensures in
    λ B st. release_refused g.K.Kind.time g.met.K.Kind.laws c.args.plan.now m c.args.work.now c.requires.listed B st c.release.new.ring m.trial.now c.args.run c.in-Some.slip was (lists m.tracks.now c.release.new.runs m.connections.now m.settings.now) c.release.new.times c.put_slip.new.slips u.slip u.fault c.pick_slip.new.slips k.reckons (same_lists refl k.records refl refl) k.slip c.pick_slip.ensures.left c.put_slip.ensures
