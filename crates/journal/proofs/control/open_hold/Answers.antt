use Rattle.std.proofs.Common.{sym, refl, ◌∙◌, arith}
use Rattle.plan.specs.States.{lists}
use Rattle.journal.proofs.Holds.{hold_again, hold_step, hold_refused}
use Rattle.journal.proofs.States.{same_lists, stepped, passed_on}
use Rattle.journal.proofs.control.open_hold.Goals as goal

pub returns-then-kept_slip-clause-step : goal.returns-then-kept_slip-clause-step
returns-then-kept_slip-clause-step g c =
    let m = c.args.memories.now in
    λ B st. (hold_again g.K.Kind.time g.met.K.Kind.laws c.args.plan.now m c.args.work.now c.requires.listed B st m.ring.now m.trial.now c.args.run c.args.until (sym c.kept_slip.ensures ∙ c.if-kept_slip.true) (λ over. omega (arith, c.size.ensures, c.if-size-gt-TIME_SIZE.false)), st)

pub returns-in_err-slip-clause-step : goal.returns-in_err-slip-clause-step
returns-in_err-slip-clause-step g c =
    let t = g.K.Kind.time in
    let m = c.args.memories.now in
    let k = c.in_err-slip in
    λ B st. stepped t B refl (passed_on _ k.field-0.0 c.from_residual.ensures) (hold_refused t g.met.K.Kind.laws c.args.plan.now m c.args.work.now c.requires.listed B st c.hold.new.ring m.trial.now (lists m.tracks.now c.hold.new.runs m.connections.now m.settings.now) c.hold.new.times c.args.run c.args.until k.field-0.0 k.ensures.reckons (same_lists refl k.ensures.records refl refl))

pub returns-clause-step : goal.returns-clause-step
returns-clause-step g c =
    let m = c.args.memories.now in
    let k = c.in_ok-slip in
    λ B st. hold_step g.K.Kind.time g.met.K.Kind.laws c.args.plan.now m c.args.work.now c.requires.listed B st c.hold.new.ring m.trial.now (lists m.tracks.now c.hold.new.runs m.connections.now m.settings.now) c.hold.new.times c.args.run c.args.until k.slip c.put_slip.new.slips k.ensures.reckons k.ensures.records c.put_slip.ensures k.ensures.slip
