use Rattle.network.proofs.Refusals.{answers_more}
use Rattle.rules.specs.Rows.{open_rows}
use Rattle.rules.specs.Faults.{plan_number, plan_place}
use Rattle.records.specs.Lent.{lists_in}
use Rattle.force.specs.Work.{work_lengths}
use Rattle.plan.specs.States.{memory}
use Rattle.plan.specs.Calls.{lengths, length_rows}
use Rattle.plan.proofs.admits.admit.Goals as goal

pub returns-clause-rows : goal.returns-clause-rows
returns-clause-rows g c =
    let a = c.args in
    answers_more plan_number plan_place (length_rows (lengths a.written a.ring (work_lengths a.work.now))) (open_rows g.K.Kind.time (memory a.numbers (lists_in a.records.now)) a.times.now) c.admit_shown.result c.in_ok-check_work.ensures.rows c.admit_shown.ensures.rows
