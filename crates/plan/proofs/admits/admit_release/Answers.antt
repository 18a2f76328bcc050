use Rattle.std.proofs.Common.{ap, ◌∙◌, length}
use Rattle.records.specs.Lent.{register_lent, lists_in}
use Rattle.records.specs.Register.{Register, register_of}
use Rattle.force.specs.Work.{work_lengths}
use Rattle.rules.specs.Rows.{release_rows}
use Rattle.plan.specs.States.{memory}
use Rattle.plan.specs.Calls.{lengths, open_call_rows}
use Rattle.plan.proofs.Told.{left_front, told, told_behind}
use Rattle.plan.proofs.Ready.{release_ready}
use Rattle.plan.proofs.admits.admit_release.Goals as goal

pub returns-in_err-e-clause-rows : goal.returns-in_err-e-clause-rows
returns-in_err-e-clause-rows g c =
    let t = g.K.Kind.time in
    let a = c.args in
    let m = memory a.numbers (lists_in a.records.now) in
    left_front _ _ c.from_residual.ensures.1 (open_call_rows t (lengths (length a.times.now) a.ring (work_lengths a.work.now)) m a.times.now) (release_rows t (register_of t m) a.numbers.number a.slip_plan a.slip_run) c.in_err-e.ensures.rows

pub returns : goal.returns
returns g c =
    let t = g.K.Kind.time in
    let a = c.args in
    let l = lengths (length a.times.now) a.ring (work_lengths a.work.now) in
    let m = memory a.numbers (lists_in a.records.now) in
    let ys = λ (R : Register g.row.K.Denot). release_rows t R a.numbers.number a.slip_plan a.slip_run in
    let known = c.in_ok-e.ensures in
    record {
      rows = told_behind ys _ _ (ap (register_lent t) c.records.ensures ∙ known.sound.0.register) (open_call_rows t l m a.times.now) c.check_release.result known.rows c.check_release.ensures;
      ready = release_ready t l m a.times.now known.listed known.sound.1 a.numbers.number a.slip_plan a.slip_run c.check_release.result (told ys _ _ (ap (register_lent t) c.records.ensures ∙ known.sound.0.register) c.check_release.result c.check_release.ensures);
    }
