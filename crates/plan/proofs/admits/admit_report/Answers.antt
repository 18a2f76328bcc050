use Rattle.std.proofs.Common.{ap, ◌∙◌, length}
use Rattle.records.specs.Lent.{register_lent, lists_in}
use Rattle.records.specs.Register.{Register, register_of}
use Rattle.force.specs.Work.{work_lengths}
use Rattle.rules.specs.Rows.{report_rows}
use Rattle.plan.specs.States.{memory}
use Rattle.plan.specs.Calls.{lengths, open_call_rows}
use Rattle.plan.proofs.Told.{left_front, told, told_behind}
use Rattle.plan.proofs.Ready.{report_ready}
use Rattle.plan.proofs.admits.admit_report.Goals as goal

pub returns-in_err-e-clause-rows : goal.returns-in_err-e-clause-rows
returns-in_err-e-clause-rows g c =
    let t = g.K.Kind.time in
    let a = c.args in
    let m = memory a.numbers (lists_in a.records.now) in
    left_front _ _ c.from_residual.ensures.1 (open_call_rows t (lengths (length a.times.now) a.ring (work_lengths a.work.now)) m a.times.now) (report_rows t (register_of t m) a.event a.at) c.in_err-e.ensures.rows

pub returns : goal.returns
returns g c =
    let t = g.K.Kind.time in
    let a = c.args in
    let l = lengths (length a.times.now) a.ring (work_lengths a.work.now) in
    let m = memory a.numbers (lists_in a.records.now) in
    let ys = λ (R : Register g.row.K.Denot). report_rows t R a.event a.at in
    let known = c.in_ok-e.ensures in
    record {
      rows = told_behind ys _ _ (ap (register_lent t) c.records.ensures ∙ known.sound.0.register) (open_call_rows t l m a.times.now) c.check_report.result known.rows c.check_report.ensures;
      ready = report_ready t l m a.times.now known.listed known.sound.1 a.event a.at c.check_report.result (told ys _ _ (ap (register_lent t) c.records.ensures ∙ known.sound.0.register) c.check_report.result c.check_report.ensures);
    }
