use Rattle.std.proofs.Common.{ap, ◌∙◌}
use Rattle.records.specs.Lent.{register_lent, lists_in}
use Rattle.records.specs.Register.{Register, register_of}
use Rattle.rules.specs.Rows.{open_rows, event_rows}
use Rattle.plan.specs.States.{memory}
use Rattle.plan.proofs.Told.{left_front, passed_behind}
use Rattle.plan.proofs.states.Open.time.Goals as goal

pub returns-in_err-e-clause-rows : goal.returns-in_err-e-clause-rows
returns-in_err-e-clause-rows g c =
    let t = g.K.Kind.time in
    let a = c.args in
    let m = memory a.self.now.numbers (lists_in a.records) in
    left_front _ _ c.from_residual.ensures.1 (open_rows t m a.times.now) (event_rows t (register_of t m) a.event) c.in_err-e.ensures.rows

pub returns-clause-rows : goal.returns-clause-rows
returns-clause-rows g c =
    let t = g.K.Kind.time in
    let a = c.args in
    let m = memory a.self.now.numbers (lists_in a.records) in
    let known = c.in_ok-e.ensures in
    passed_behind (λ (R : Register g.row.K.Denot). event_rows t R a.event) _ _ (ap (register_lent t) c.records.ensures ∙ known.sound.0.register) (open_rows t m a.times.now) known.rows c.in_ok-check_event.ensures
