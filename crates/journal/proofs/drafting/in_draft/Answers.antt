use Rattle.std.proofs.Common.{refl}
use Rattle.plan.specs.States.{lists}
use Rattle.journal.proofs.Drafts.{run_long, track_step, track_refused, run_step, run_refused, connection_step, connection_refused, preset_step, preset_refused, setting_step, setting_refused}
use Rattle.journal.proofs.States.{same_lists, stepped, passed_on}
use Rattle.journal.proofs.drafting.in_draft.Goals as goal

pub returns-in_ok-track-in-Track-clause-step : goal.returns-in_ok-track-in-Track-clause-step
returns-in_ok-track-in-Track-clause-step g c =
    let t = g.K.Kind.time in
    let a = c.args in
    let m = a.memories.now in
    let k = c.in_ok-track-in-Track in
    λ work listed B st. stepped t B c.in-Track.is refl (track_step t a.draft.now m work listed B st m.ring.now m.trial.now c.track.new.self (lists c.track.new.tracks m.runs.now m.connections.now m.settings.now) c.in-Track.track k.field-0 k.ensures.rows k.ensures.writes k.ensures.number)

pub returns-in_err-track-in-Track-clause-step : goal.returns-in_err-track-in-Track-clause-step
returns-in_err-track-in-Track-clause-step g c =
    let t = g.K.Kind.time in
    let a = c.args in
    let m = a.memories.now in
    let k = c.in_err-track-in-Track in
    λ work listed B st. stepped t B c.in-Track.is (passed_on _ k.field-0.0 c.from_residual.ensures) (track_refused t a.draft.now m work listed B st m.ring.now m.trial.now c.track.new.self (lists c.track.new.tracks m.runs.now m.connections.now m.settings.now) c.in-Track.track k.field-0.0 k.ensures.rows (k.ensures.writes.0, same_lists k.ensures.writes.1 refl refl refl))

pub returns-in_ok-run-in-Run-clause-step : goal.returns-in_ok-run-in-Run-clause-step
returns-in_ok-run-in-Run-clause-step g c =
    let t = g.K.Kind.time in
    let a = c.args in
    let m = a.memories.now in
    let k = c.in_ok-run-in-Run in
    λ work listed B st. stepped t B c.in-Run.is refl (run_step t a.draft.now m work listed B st m.ring.now m.trial.now c.run.new.self (lists m.tracks.now c.run.new.runs m.connections.now c.run.new.settings) c.in-Run.run' k.field-0 k.ensures.rows k.ensures.writes k.ensures.number)

pub returns-in_ok-run-in-Run-clause-same : goal.returns-in_ok-run-in-Run-clause-same
returns-in_ok-run-in-Run-clause-same g c =
    let m = c.args.memories.now in
    let k = c.in_ok-run-in-Run.ensures in
    record {
      tracks = refl;
      runs = refl;
      connections = refl;
      settings = refl;
      times = refl;
      trial = refl;
      ring = refl;
      slips = refl;
      long = run_long g.K.Kind.time c.args.draft.now c.run.new.self m (lists m.tracks.now c.run.new.runs m.connections.now c.run.new.settings) c.in-Run.run' c.requires.listed k.rows k.writes.1;
    }

pub returns-in_err-run-in-Run-clause-step : goal.returns-in_err-run-in-Run-clause-step
returns-in_err-run-in-Run-clause-step g c =
    let t = g.K.Kind.time in
    let a = c.args in
    let m = a.memories.now in
    let k = c.in_err-run-in-Run in
    λ work listed B st. stepped t B c.in-Run.is (passed_on _ k.field-0.0 c.from_residual-in_err-run-in-Run.ensures) (run_refused t a.draft.now m work listed B st m.ring.now m.trial.now c.run.new.self (lists m.tracks.now c.run.new.runs m.connections.now c.run.new.settings) c.in-Run.run' k.field-0.0 k.ensures.rows (k.ensures.writes.0, same_lists refl k.ensures.writes.1 refl k.ensures.writes.2))

pub returns-in_ok-connection-in-Connection-clause-step : goal.returns-in_ok-connection-in-Connection-clause-step
returns-in_ok-connection-in-Connection-clause-step g c =
    let t = g.K.Kind.time in
    let a = c.args in
    let m = a.memories.now in
    let k = c.in_ok-connection-in-Connection in
    λ work listed B st. stepped t B c.in-Connection.is refl (connection_step t a.draft.now m work listed B st m.ring.now m.trial.now c.connection.new.self (lists m.tracks.now m.runs.now c.connection.new.connections c.connection.new.settings) c.in-Connection.connection k.field-0 k.ensures.rows k.ensures.writes k.ensures.number)

pub returns-in_err-connection-in-Connection-clause-step : goal.returns-in_err-connection-in-Connection-clause-step
returns-in_err-connection-in-Connection-clause-step g c =
    let t = g.K.Kind.time in
    let a = c.args in
    let m = a.memories.now in
    let k = c.in_err-connection-in-Connection in
    λ work listed B st. stepped t B c.in-Connection.is (passed_on _ k.field-0.0 c.from_residual-in_err-connection-in-Connection.ensures) (connection_refused t a.draft.now m work listed B st m.ring.now m.trial.now c.connection.new.self (lists m.tracks.now m.runs.now c.connection.new.connections c.connection.new.settings) c.in-Connection.connection k.field-0.0 k.ensures.rows (k.ensures.writes.0, same_lists refl refl k.ensures.writes.1 k.ensures.writes.2))

pub returns-in_ok-preset-in-Preset-clause-step : goal.returns-in_ok-preset-in-Preset-clause-step
returns-in_ok-preset-in-Preset-clause-step g c =
    let t = g.K.Kind.time in
    let a = c.args in
    let m = a.memories.now in
    let k = c.in_ok-preset-in-Preset in
    λ work listed B st. stepped t B c.in-Preset.is refl (preset_step t a.draft.now m work listed B st m.ring.now m.trial.now (lists m.tracks.now m.runs.now m.connections.now c.preset.new.settings) c.in-Preset.switch c.in-Preset.setting k.ensures.rows k.ensures.writes)

pub returns-in_err-preset-in-Preset-clause-step : goal.returns-in_err-preset-in-Preset-clause-step
returns-in_err-preset-in-Preset-clause-step g c =
    let t = g.K.Kind.time in
    let a = c.args in
    let m = a.memories.now in
    let k = c.in_err-preset-in-Preset in
    λ work listed B st. stepped t B c.in-Preset.is (passed_on _ k.field-0.0 c.from_residual-in_err-preset-in-Preset.ensures) (preset_refused t a.draft.now m work listed B st m.ring.now m.trial.now (lists m.tracks.now m.runs.now m.connections.now c.preset.new.settings) c.in-Preset.switch c.in-Preset.setting k.field-0.0 k.ensures.rows (same_lists refl refl refl k.ensures.writes))

pub returns-in_ok-setting-in-Setting-clause-step : goal.returns-in_ok-setting-in-Setting-clause-step
returns-in_ok-setting-in-Setting-clause-step g c =
    let t = g.K.Kind.time in
    let a = c.args in
    let m = a.memories.now in
    let k = c.in_ok-setting-in-Setting in
    λ work listed B st. stepped t B c.in-Setting.is refl (setting_step t a.draft.now m work listed B st m.ring.now m.trial.now c.in-Setting.switch k.field-0 k.ensures.rows k.ensures.reads, st)

pub returns-in_err-setting-in-Setting-clause-step : goal.returns-in_err-setting-in-Setting-clause-step
returns-in_err-setting-in-Setting-clause-step g c =
    let t = g.K.Kind.time in
    let a = c.args in
    let m = a.memories.now in
    let k = c.in_err-setting-in-Setting in
    λ work listed B st. stepped t B c.in-Setting.is (passed_on _ k.field-0.0 c.from_residual-in_err-setting-in-Setting.ensures) (setting_refused t a.draft.now m work listed B st m.ring.now m.trial.now c.in-Setting.switch k.field-0.0 k.ensures.rows, st)
