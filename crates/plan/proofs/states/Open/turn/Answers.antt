use Rattle.std.proofs.Common.{ℕ, length, set, ap, ◌∙◌}
use Rattle.std.proofs.lemmas.Result.{MatchResult-weaker}
use Rattle.records.specs.Register.{register_of}
use Rattle.force.specs.Work.{work_lengths}
use Rattle.plan.specs.States.{memory, lists}
use Rattle.plan.specs.Steps.{with_settings, switch_memory}
use Rattle.plan.specs.Calls.{lengths, turning_call_rows}
use Rattle.plan.proofs.Reckoned.{refused, reckons, turning_under}
use Rattle.plan.proofs.states.Open.turn.Goals as goal

pub returns-in_err-place-clause-reckons : goal.returns-in_err-place-clause-reckons
returns-in_err-place-clause-reckons g c =
    let t = g.K.Kind.time in
    let a = c.args in
    let m = memory a.self.now.numbers (lists a.tracks.now a.runs.now a.connections.now a.settings.now) in
    let l = lengths (length a.times.now) (length a.ring.now) (work_lengths a.work.now) in
    refused t (turning_call_rows t l m a.times.now a.switch a.setting) (register_of t (switch_memory t m a.switch a.setting)) (turning_under t l m a.times.now a.switch a.setting) a.times.now a.ring.now _ _ c.from_residual.ensures.1 c.in_err-place.ensures.rows

pub returns-clause-reckons : goal.returns-clause-reckons
returns-clause-reckons g c =
    let t = g.K.Kind.time in
    let a = c.args in
    let m = memory a.self.now.numbers (lists a.tracks.now a.runs.now a.connections.now a.settings.now) in
    let l = lengths (length a.times.now) (length a.ring.now) (work_lengths a.work.now) in
    let known = c.in_ok-place.ensures in
    let R = λ (p : ℕ). register_of t (with_settings m (set a.settings.now p a.setting)) in
    reckons t a.times.now c.replace_setting.new.times a.ring.now c.replace_setting.new.ring (turning_call_rows t l m a.times.now a.switch a.setting) (R _) (R _) c.replace_setting.result known.rows (ap R known.ready.0) c.replace_setting.ensures.reckons

pub returns-clause-records : goal.returns-clause-records
returns-clause-records g c =
    let a = c.args in
    let m = memory a.self.now.numbers (lists a.tracks.now a.runs.now a.connections.now a.settings.now) in
    MatchResult-weaker c.replace_setting.result c.replace_setting.ensures.records (λ x e. e ∙ ap (λ (p : ℕ). with_settings m (set a.settings.now p a.setting)) c.in_ok-place.ensures.ready.0) (λ x e. e)
