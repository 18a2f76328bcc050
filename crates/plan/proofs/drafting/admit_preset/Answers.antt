use Rattle.records.specs.Lent.{lists_in}
use Rattle.records.specs.Register.{Register, register_of}
use Rattle.rules.specs.Rows.{draft_rows, setting_rows}
use Rattle.plan.specs.States.{memory}
use Rattle.plan.proofs.Told.{left_front, told_behind}
use Rattle.plan.proofs.Entering.{place_known}
use Rattle.plan.proofs.drafting.admit_preset.Goals as goal

pub returns-in_err-e-clause-rows : goal.returns-in_err-e-clause-rows
returns-in_err-e-clause-rows g c =
    let t = g.K.Kind.time in
    let a = c.args in
    let m = memory a.numbers (lists_in a.records.now) in
    left_front _ _ c.from_residual.ensures.1 (draft_rows t m) (setting_rows t (register_of t m) a.switch a.setting) c.in_err-e.ensures.rows

pub returns : goal.returns
returns g c =
    let t = g.K.Kind.time in
    let a = c.args in
    let m = memory a.numbers (lists_in a.records.now) in
    let known = c.in_ok-e.ensures in
    let found = c.check_setting.ensures in
    record {
      rows = told_behind (λ (R : Register g.row.K.Denot). setting_rows t R a.switch a.setting) _ _ known.sound.0.register (draft_rows t m) c.check_setting.result known.rows found.rows;
      known = place_known t m known.sound.1 _ known.sound.0.register a.switch c.check_setting.result found.place;
    }
