use Rattle.std.proofs.Common.{refl, sym, inl, inr}
use Rattle.plan.specs.States.{lists}
use Rattle.journal.proofs.Controls.{report_step, report_refused, turn_step, turn_refused, trial_step, trial_refused, time_step, time_refused, cost_step, cost_refused, setting_step, setting_refused}
use Rattle.journal.proofs.States.{same_lists, stepped, passed_on}
use Rattle.journal.proofs.control.in_open.Goals as goal

pub returns-in_ok-report-in-Report-clause-step : goal.returns-in_ok-report-in-Report-clause-step
returns-in_ok-report-in-Report-clause-step g c =
    let t = g.K.Kind.time in
    let m = c.args.memories.now in
    let k = c.in_ok-report-in-Report.ensures in
    λ B st. stepped t B c.in-Report.is refl (report_step t g.met.K.Kind.laws c.args.plan.now m c.args.work.now c.requires.listed B st c.report.new.ring m.trial.now (lists m.tracks.now c.report.new.runs m.connections.now m.settings.now) c.report.new.times c.in-Report.event c.in-Report.at k.reckons k.records)

pub returns-in_err-report-in-Report-clause-step : goal.returns-in_err-report-in-Report-clause-step
returns-in_err-report-in-Report-clause-step g c =
    let t = g.K.Kind.time in
    let m = c.args.memories.now in
    let f = c.in_err-report-in-Report.field-0.0 in
    let k = c.in_err-report-in-Report.ensures in
    λ B st. stepped t B c.in-Report.is (passed_on _ f c.from_residual.ensures) (report_refused t g.met.K.Kind.laws c.args.plan.now m c.args.work.now c.requires.listed B st c.report.new.ring m.trial.now (lists m.tracks.now c.report.new.runs m.connections.now m.settings.now) c.report.new.times c.in-Report.event c.in-Report.at f k.reckons (same_lists refl k.records refl refl))

pub returns-in_ok-turn-in-Turn-clause-step : goal.returns-in_ok-turn-in-Turn-clause-step
returns-in_ok-turn-in-Turn-clause-step g c =
    let t = g.K.Kind.time in
    let m = c.args.memories.now in
    let p = c.in-Turn in
    let k = c.in_ok-turn-in-Turn.ensures in
    λ B st. stepped t B p.is refl (turn_step t g.met.K.Kind.laws c.args.plan.now m c.args.work.now c.requires.listed B st c.turn.new.ring m.trial.now (lists m.tracks.now m.runs.now m.connections.now c.turn.new.settings) c.turn.new.times p.switch p.setting k.reckons k.records)

pub returns-in_err-turn-in-Turn-clause-step : goal.returns-in_err-turn-in-Turn-clause-step
returns-in_err-turn-in-Turn-clause-step g c =
    let t = g.K.Kind.time in
    let m = c.args.memories.now in
    let p = c.in-Turn in
    let f = c.in_err-turn-in-Turn.field-0.0 in
    let k = c.in_err-turn-in-Turn.ensures in
    λ B st. stepped t B p.is (passed_on _ f c.from_residual-in_err-turn-in-Turn.ensures) (turn_refused t g.met.K.Kind.laws c.args.plan.now m c.args.work.now c.requires.listed B st c.turn.new.ring m.trial.now (lists m.tracks.now m.runs.now m.connections.now c.turn.new.settings) c.turn.new.times p.switch p.setting f k.reckons (same_lists refl refl refl k.records))

pub returns-in-Hold-clause-step : goal.returns-in-Hold-clause-step
returns-in-Hold-clause-step g c = λ B st. stepped g.K.Kind.time B c.in-Hold.is refl (c.open_hold.ensures.step B st)

pub returns-in-Release-clause-step : goal.returns-in-Release-clause-step
returns-in-Release-clause-step g c = λ B st. stepped g.K.Kind.time B c.in-Release.is refl (c.open_release.ensures.step B st)

pub returns-in_ok-cost-in-Trial-clause-step : goal.returns-in_ok-cost-in-Trial-clause-step
returns-in_ok-cost-in-Trial-clause-step g c =
    let t = g.K.Kind.time in
    let m = c.args.memories.now in
    let k = c.in_ok-cost-in-Trial in
    λ B st. stepped t B c.in-Trial.is refl (trial_step t g.met.K.Kind.laws c.args.plan.now m c.args.work.now c.requires.listed B st c.trial.new.ring c.trial.new.trial (lists m.tracks.now m.runs.now m.connections.now c.trial.new.settings) c.in-Trial.switch c.in-Trial.setting k.cost k.ensures.reckons k.ensures.cost (same_lists refl refl refl k.ensures.records))

pub returns-in_err-cost-in-Trial-clause-step : goal.returns-in_err-cost-in-Trial-clause-step
returns-in_err-cost-in-Trial-clause-step g c =
    let t = g.K.Kind.time in
    let m = c.args.memories.now in
    let f = c.in_err-cost-in-Trial.field-0.0 in
    let k = c.in_err-cost-in-Trial.ensures in
    λ B st. stepped t B c.in-Trial.is (passed_on _ f c.from_residual-in_err-cost-in-Trial.ensures) (trial_refused t g.met.K.Kind.laws c.args.plan.now m c.args.work.now c.requires.listed B st c.trial.new.ring c.trial.new.trial (lists m.tracks.now m.runs.now m.connections.now c.trial.new.settings) c.in-Trial.switch c.in-Trial.setting f k.reckons (same_lists refl refl refl k.records))

pub returns-in_ok-time-in-Time-clause-step : goal.returns-in_ok-time-in-Time-clause-step
returns-in_ok-time-in-Time-clause-step g c =
    let t = g.K.Kind.time in
    let m = c.args.memories.now in
    let k = c.in_ok-time-in-Time in
    λ B st. stepped t B c.in-Time.is refl (time_step t g.met.K.Kind.laws c.args.plan.now m c.args.work.now c.requires.listed B st m.ring.now m.trial.now c.in-Time.event k.field-0 k.ensures.rows k.ensures.value, st)

pub returns-in_err-time-in-Time-clause-step : goal.returns-in_err-time-in-Time-clause-step
returns-in_err-time-in-Time-clause-step g c =
    let t = g.K.Kind.time in
    let m = c.args.memories.now in
    let f = c.in_err-time-in-Time.field-0.0 in
    let k = c.in_err-time-in-Time.ensures in
    λ B st. stepped t B c.in-Time.is (passed_on _ f c.from_residual-in_err-time-in-Time.ensures) (time_refused t g.met.K.Kind.laws c.args.plan.now m c.args.work.now c.requires.listed B st m.ring.now m.trial.now c.in-Time.event f k.rows, st)

pub returns-in_ok-setting-in-Setting-clause-step : goal.returns-in_ok-setting-in-Setting-clause-step
returns-in_ok-setting-in-Setting-clause-step g c =
    let t = g.K.Kind.time in
    let m = c.args.memories.now in
    let k = c.in_ok-setting-in-Setting in
    λ B st. stepped t B c.in-Setting.is refl (setting_step t g.met.K.Kind.laws c.args.plan.now m c.args.work.now c.requires.listed B st m.ring.now m.trial.now c.in-Setting.switch k.field-0 k.ensures.rows k.ensures.value, st)

pub returns-in_err-setting-in-Setting-clause-step : goal.returns-in_err-setting-in-Setting-clause-step
returns-in_err-setting-in-Setting-clause-step g c =
    let t = g.K.Kind.time in
    let m = c.args.memories.now in
    let f = c.in_err-setting-in-Setting.field-0.0 in
    let k = c.in_err-setting-in-Setting.ensures in
    λ B st. stepped t B c.in-Setting.is (passed_on _ f c.from_residual-in_err-setting-in-Setting.ensures) (setting_refused t g.met.K.Kind.laws c.args.plan.now m c.args.work.now c.requires.listed B st m.ring.now m.trial.now c.in-Setting.switch f k.rows, st)

pub returns-in_ok-cost-in-Cost-clause-step : goal.returns-in_ok-cost-in-Cost-clause-step
returns-in_ok-cost-in-Cost-clause-step g c =
    let t = g.K.Kind.time in
    let m = c.args.memories.now in
    let k = c.in_ok-cost-in-Cost in
    λ B st. stepped t B c.in-Cost.is refl (cost_step t g.met.K.Kind.laws c.args.plan.now m c.args.work.now c.requires.listed B st m.ring.now m.trial.now k.field-0 k.ensures.value, st)

pub returns-in_err-cost-in-Cost-clause-step : goal.returns-in_err-cost-in-Cost-clause-step
returns-in_err-cost-in-Cost-clause-step g c =
    let t = g.K.Kind.time in
    let m = c.args.memories.now in
    let k = c.in_err-cost-in-Cost in
    λ B st. absurd (cost_refused t g.met.K.Kind.laws c.args.plan.now m c.args.work.now c.requires.listed B st m.ring.now m.trial.now k.field-0.0 k.ensures.rows)

pub returns-in-Track-clause-step : goal.returns-in-Track-clause-step
returns-in-Track-clause-step g c = λ B st.
    let t = g.K.Kind.time in
    elim c.in-Track.is [
      | inl h ↦ stepped t B h.1 refl (record { answers = inl (sym st.opened, refl, refl); carried = tt; named = tt }, st)
      | inr (inl h) ↦ stepped t B h.1 refl (record { answers = inl (sym st.opened, refl, refl); carried = tt; named = tt }, st)
      | inr (inr (inl h)) ↦ stepped t B h.1 refl (record { answers = inl (sym st.opened, refl, refl); carried = tt; named = tt }, st)
      | inr (inr (inr (inl h))) ↦ stepped t B h.2 refl (record { answers = inl (sym st.opened, refl, refl); carried = tt; named = tt }, st)
      | inr (inr (inr (inr h))) ↦ stepped t B h refl (record { answers = inl (sym st.opened, refl, refl); carried = tt; named = tt }, st)
    ]
