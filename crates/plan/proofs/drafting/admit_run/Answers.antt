use Rattle.std.proofs.Common.{sym, ap, ◌∙◌, subst}
use Rattle.records.specs.Stored.{Limits}
use Rattle.records.specs.Lent.{Lists, lists_in, register_lent}
use Rattle.records.specs.Register.{Register, register_of}
use Rattle.rules.specs.Rows.{draft_rows, run_rows}
use Rattle.plan.specs.States.{memory}
use Rattle.plan.proofs.Told.{left_front, told, told_behind}
use Rattle.plan.proofs.Entering.{run_room}
use Rattle.plan.proofs.drafting.admit_run.Goals as goal

pub returns-in_err-e-clause-rows : goal.returns-in_err-e-clause-rows
returns-in_err-e-clause-rows g c =
    let t = g.K.Kind.time in
    let a = c.args in
    let m = memory a.numbers (lists_in a.records.now) in
    left_front _ _ c.from_residual.ensures.1 (draft_rows t m) (run_rows t (register_of t m) a.run) c.in_err-e.ensures.rows

pub returns : goal.returns
returns g c =
    let t = g.K.Kind.time in
    let a = c.args in
    let m = memory a.numbers (lists_in a.records.now) in
    let ys = λ (R : Register g.row.K.Denot). run_rows t R a.run in
    let known = c.in_ok-e.ensures in
    record {
      rows = told_behind ys _ _ (ap (register_lent t) c.records.ensures ∙ known.sound.0.register) (draft_rows t m) c.check_run.result known.rows c.check_run.ensures;
      room = run_room t m known.sound.1 a.run c.check_run.result (told ys _ _ (ap (register_lent t) c.records.ensures ∙ known.sound.0.register) c.check_run.result c.check_run.ensures);
    }

pub check_run-requires : goal.check_run-requires
check_run-requires g c =
    let t = g.K.Kind.time in
    subst (λ (l : Lists g.row.K.Denot). Limits t (register_lent t l)) (sym c.records.ensures) c.in_ok-e.e.limits.limits
