use Rattle.plan.specs.States.{memory, lists}
use Rattle.plan.specs.Drafting.{preset_call_rows}
use Rattle.plan.proofs.Told.{left_answers}
use Rattle.plan.proofs.states.Draft.preset.Goals as goal

pub returns-in_err-place-clause-rows : goal.returns-in_err-place-clause-rows
returns-in_err-place-clause-rows g c =
    left_answers _ _ c.from_residual.ensures.1 (preset_call_rows g.K.Kind.time (memory c.args.self.now.numbers (lists c.args.tracks.now c.args.runs.now c.args.connections.now c.args.settings.now)) c.args.switch c.args.setting) c.in_err-place.ensures.rows
