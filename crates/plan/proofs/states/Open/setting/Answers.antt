use Rattle.std.proofs.Common.{ap, ◌∙◌}
use Rattle.records.specs.Lent.{lists_in}
use Rattle.records.specs.Register.{Register, register_of}
use Rattle.rules.specs.Rows.{open_rows, switch_rows, setting_of}
use Rattle.plan.specs.States.{memory}
use Rattle.plan.proofs.Told.{left_front, left_behind, passed_behind}
use Rattle.plan.proofs.states.Open.setting.Goals as goal

pub returns-in_err-e-clause-rows : goal.returns-in_err-e-clause-rows
returns-in_err-e-clause-rows g c =
    let t = g.K.Kind.time in
    let a = c.args in
    let m = memory a.self.now.numbers (lists_in a.records) in
    left_front _ _ c.from_residual.ensures.1 (open_rows t m a.times.now) (switch_rows t (register_of t m) a.switch) c.in_err-e.ensures.rows

pub returns-in_err-find_setting-clause-rows : goal.returns-in_err-find_setting-clause-rows
returns-in_err-find_setting-clause-rows g c =
    let t = g.K.Kind.time in
    let a = c.args in
    let m = memory a.self.now.numbers (lists_in a.records) in
    let known = c.in_ok-e.ensures in
    left_behind _ _ c.from_residual-in_err-find_setting.ensures.1 (λ (R : Register g.row.K.Denot). switch_rows t R a.switch) _ _ known.sound.0.register (open_rows t m a.times.now) known.rows c.in_err-find_setting.ensures.rows

pub returns-clause-rows : goal.returns-clause-rows
returns-clause-rows g c =
    let t = g.K.Kind.time in
    let a = c.args in
    let m = memory a.self.now.numbers (lists_in a.records) in
    let known = c.in_ok-e.ensures in
    passed_behind (λ (R : Register g.row.K.Denot). switch_rows t R a.switch) _ _ known.sound.0.register (open_rows t m a.times.now) known.rows c.in_ok-find_setting.ensures.rows

pub returns-clause-value : goal.returns-clause-value
returns-clause-value g c =
    let t = g.K.Kind.time in
    c.in_ok-find_setting.ensures.setting ∙ ap (λ (R : Register g.row.K.Denot). setting_of t R c.args.switch) c.in_ok-e.ensures.sound.0.register
