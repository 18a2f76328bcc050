use Rattle.std.proofs.Common.{length, set, ap, ◌∙◌, None, arith}
use Rattle.std.proofs.lemmas.Result.{MatchResult-weaker}
use Rattle.records.specs.declared.Run.{Run}
use Rattle.records.specs.Register.{register_of}
use Rattle.force.specs.Work.{work_lengths}
use Rattle.plan.specs.States.{memory, lists}
use Rattle.plan.specs.Steps.{with_runs, holding, hold_memory}
use Rattle.plan.specs.Calls.{lengths, release_call_rows}
use Rattle.plan.proofs.Told.{written}
use Rattle.plan.proofs.Reckoned.{refused, reckons}
use Rattle.plan.proofs.states.Open.strike.Goals as goal

pub returns-in_err-admit_release-clause-reckons : goal.returns-in_err-admit_release-clause-reckons
returns-in_err-admit_release-clause-reckons g c =
    let t = g.K.Kind.time in
    let a = c.args in
    let m = memory a.self.now.numbers (lists a.tracks.now a.runs.now a.connections.now a.settings.now) in
    let rows = release_call_rows t (lengths (length a.times.now) (length a.ring.now) (work_lengths a.work.now)) m a.times.now a.self.now.numbers.number a.slip_plan a.slip_run in
    refused t rows (register_of t (hold_memory t m a.slip_run None)) (omega arith, (omega arith, (omega arith, (omega arith, (omega arith, (omega arith, (omega arith, (omega arith, tt)))))))) a.times.now a.ring.now _ _ c.from_residual.ensures.1 c.in_err-admit_release.ensures.rows

pub returns-clause-reckons : goal.returns-clause-reckons
returns-clause-reckons g c =
    let t = g.K.Kind.time in
    let a = c.args in
    let m = memory a.self.now.numbers (lists a.tracks.now a.runs.now a.connections.now a.settings.now) in
    let rows = release_call_rows t (lengths (length a.times.now) (length a.ring.now) (work_lengths a.work.now)) m a.times.now a.self.now.numbers.number a.slip_plan a.slip_run in
    let new = c.replace_run.new in
    let known = c.in_ok-admit_release.ensures in
    reckons t a.times.now new.times a.ring.now new.ring rows (register_of t (with_runs m (set a.runs.now (a.slip_run) c.with_hold-free.result))) (register_of t (hold_memory t m a.slip_run None)) c.replace_run.result known.rows (ap (register_of t) (written t m (a.slip_run) (λ (x : Run g.row.K.Denot). holding x None) _ _ known.ready.0 (c.with_hold-free.ensures ∙ ap (λ (x : Run g.row.K.Denot). holding x None) c.index-runs-r.is))) c.replace_run.ensures.reckons

pub returns-clause-records : goal.returns-clause-records
returns-clause-records g c =
    let t = g.K.Kind.time in
    let a = c.args in
    let m = memory a.self.now.numbers (lists a.tracks.now a.runs.now a.connections.now a.settings.now) in
    let known = c.in_ok-admit_release.ensures in
    MatchResult-weaker c.replace_run.result c.replace_run.ensures.records (λ x e. e ∙ written t m (a.slip_run) (λ (x : Run g.row.K.Denot). holding x None) _ _ known.ready.0 (c.with_hold-free.ensures ∙ ap (λ (x : Run g.row.K.Denot). holding x None) c.index-runs-r.is)) (λ x e. e)
