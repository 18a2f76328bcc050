use Rattle.plan.specs.States.{memory, lists}
use Rattle.plan.specs.Drafting.{connection_call_rows}
use Rattle.plan.proofs.Told.{left_answers}
use Rattle.plan.proofs.states.Draft.connection.Goals as goal

pub returns-in_err-admit_connection-clause-rows : goal.returns-in_err-admit_connection-clause-rows
returns-in_err-admit_connection-clause-rows g c =
    left_answers _ _ c.from_residual.ensures.1 (connection_call_rows g.K.Kind.time (memory c.args.self.now.numbers (lists c.args.tracks.now c.args.runs.now c.args.connections.now c.args.settings.now)) c.args.connection) c.in_err-admit_connection.ensures.rows
