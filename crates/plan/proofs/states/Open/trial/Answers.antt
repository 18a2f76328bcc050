use Rattle.std.proofs.Common.{◌≡◌, ℕ, length, set, ap, ◌∙◌}
use Rattle.std.proofs.lemmas.Result.{IfOk-weaker}
use Rattle.network.specs.Reckoning.{at}
use Rattle.records.specs.Register.{register_of}
use Rattle.force.specs.Work.{work_lengths}
use Rattle.cost.specs.Cost.{delay_cost_lem}
use Rattle.plan.specs.States.{memory, lists}
use Rattle.plan.specs.Steps.{with_settings, switch_memory}
use Rattle.plan.specs.Calls.{lengths, turning_call_rows}
use Rattle.plan.proofs.Reckoned.{refused, reckons, turning_under}
use Rattle.plan.proofs.states.Open.trial.Goals as goal

pub returns-in_err-place-clause-reckons : goal.returns-in_err-place-clause-reckons
returns-in_err-place-clause-reckons g c =
    let t = g.K.Kind.time in
    let a = c.args in
    let m = memory a.self.now.numbers (lists a.tracks.now a.runs.now a.connections.now a.settings.now) in
    let l = lengths (length a.trial.now) (length a.ring.now) (work_lengths a.work.now) in
    refused t (turning_call_rows t l m a.times.now a.switch a.setting) (register_of t (switch_memory t m a.switch a.setting)) (turning_under t l m a.times.now a.switch a.setting) a.trial.now a.ring.now _ _ c.from_residual.ensures.1 c.in_err-place.ensures.rows

pub returns-clause-reckons : goal.returns-clause-reckons
returns-clause-reckons g c =
    let t = g.K.Kind.time in
    let a = c.args in
    let m = memory a.self.now.numbers (lists a.tracks.now a.runs.now a.connections.now a.settings.now) in
    let l = lengths (length a.trial.now) (length a.ring.now) (work_lengths a.work.now) in
    let known = c.in_ok-place.ensures in
    let R = λ (p : ℕ). register_of t (with_settings m (set a.settings.now p a.setting)) in
    reckons t a.trial.now c.try_setting.new.trial a.ring.now c.try_setting.new.ring (turning_call_rows t l m a.times.now a.switch a.setting) (R _) (R _) c.try_setting.result known.rows (ap R known.ready.0) c.try_setting.ensures.reckons

pub returns-clause-cost : goal.returns-clause-cost
returns-clause-cost g c =
    let t = g.K.Kind.time in
    let a = c.args in
    let m = memory a.self.now.numbers (lists a.tracks.now a.runs.now a.connections.now a.settings.now) in
    let new = c.try_setting.new in
    let told = λ (p : ℕ). delay_cost_lem t (register_of t (with_settings m (set a.settings.now p a.setting))) (at t new.trial) in
    IfOk-weaker c.try_setting.result (λ n. n ≡ told _) (λ n. n ≡ told _) (λ n e. e ∙ ap told c.in_ok-place.ensures.ready.0) c.try_setting.ensures.cost
