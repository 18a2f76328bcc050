use Rattle.records.specs.Lent.{lists_in}
use Rattle.records.specs.Register.{Register, register_of}
use Rattle.force.specs.Work.{work_lengths}
use Rattle.rules.specs.Rows.{turning_rows}
use Rattle.plan.specs.States.{memory}
use Rattle.plan.specs.Calls.{lengths, open_call_rows}
use Rattle.plan.proofs.Told.{left_front, told, told_behind}
use Rattle.plan.proofs.Ready.{turning_ready}
use Rattle.plan.proofs.admits.admit_turning.Goals as goal

pub returns-in_err-e-clause-rows : goal.returns-in_err-e-clause-rows
returns-in_err-e-clause-rows g c =
    let t = g.K.Kind.time in
    let a = c.args in
    let m = memory a.numbers (lists_in a.records.now) in
    left_front _ _ c.from_residual.ensures.1 (open_call_rows t (lengths a.written a.ring (work_lengths a.work.now)) m a.times.now) (turning_rows t (register_of t m) a.switch a.setting) c.in_err-e.ensures.rows

pub returns : goal.returns
returns g c =
    let t = g.K.Kind.time in
    let a = c.args in
    let l = lengths a.written a.ring (work_lengths a.work.now) in
    let m = memory a.numbers (lists_in a.records.now) in
    let ys = λ (R : Register g.row.K.Denot). turning_rows t R a.switch a.setting in
    let known = c.in_ok-e.ensures in
    let found = c.check_turning.ensures in
    record {
      rows = told_behind ys _ _ known.sound.0.register (open_call_rows t l m a.times.now) c.check_turning.result known.rows found.rows;
      ready = turning_ready t l m a.times.now known.listed known.sound.1 a.switch a.setting c.check_turning.result (told ys _ _ known.sound.0.register c.check_turning.result found.rows) _ known.sound.0.register found.place;
    }
