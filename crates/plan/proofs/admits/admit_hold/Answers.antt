use Rattle.std.proofs.Common.{ap, ◌∙◌, length}
use Rattle.records.specs.Lent.{register_lent, lists_in}
use Rattle.records.specs.Register.{Register, register_of}
use Rattle.force.specs.Work.{work_lengths}
use Rattle.rules.specs.Rows.{hold_rows}
use Rattle.plan.specs.States.{memory}
use Rattle.plan.specs.Calls.{lengths, open_call_rows}
use Rattle.plan.proofs.Told.{left_front, told, told_behind}
use Rattle.plan.proofs.Ready.{hold_ready}
use Rattle.plan.proofs.admits.admit_hold.Goals as goal

pub returns-in_err-e-clause-rows : goal.returns-in_err-e-clause-rows
returns-in_err-e-clause-rows g c =
    let t = g.K.Kind.time in
    let a = c.args in
    let m = memory a.numbers (lists_in a.records.now) in
    left_front _ _ c.from_residual.ensures.1 (open_call_rows t (lengths (length a.times.now) a.ring (work_lengths a.work.now)) m a.times.now) (hold_rows t (register_of t m) a.run a.until) c.in_err-e.ensures.rows

pub returns : goal.returns
returns g c =
    let t = g.K.Kind.time in
    let a = c.args in
    let l = lengths (length a.times.now) a.ring (work_lengths a.work.now) in
    let m = memory a.numbers (lists_in a.records.now) in
    let ys = λ (R : Register g.row.K.Denot). hold_rows t R a.run a.until in
    let known = c.in_ok-e.ensures in
    record {
      rows = told_behind ys _ _ (ap (register_lent t) c.records.ensures ∙ known.sound.0.register) (open_call_rows t l m a.times.now) c.check_hold.result known.rows c.check_hold.ensures;
      ready = hold_ready t l m a.times.now known.listed known.sound.1 a.run a.until c.check_hold.result (told ys _ _ (ap (register_lent t) c.records.ensures ∙ known.sound.0.register) c.check_hold.result c.check_hold.ensures);
    }
