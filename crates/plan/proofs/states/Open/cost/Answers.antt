use Rattle.records.specs.Lent.{lists_in}
use Rattle.plan.specs.States.{memory}
use Rattle.rules.specs.Rows.{open_rows}
use Rattle.plan.proofs.Told.{left_answers}
use Rattle.plan.proofs.states.Open.cost.Goals as goal

pub returns-in_err-e-clause-rows : goal.returns-in_err-e-clause-rows
returns-in_err-e-clause-rows g c =
    let a = c.args in
    left_answers _ _ c.from_residual.ensures.1 (open_rows g.K.Kind.time (memory a.self.now.numbers (lists_in a.records)) a.times.now) c.in_err-e.ensures.rows
