use Rattle.std.proofs.Common.{length, set, ap, ◌∙◌, Some, arith}
use Rattle.records.specs.declared.Run.{Run}
use Rattle.records.specs.Register.{register_of}
use Rattle.force.specs.Work.{work_lengths}
use Rattle.plan.specs.States.{memory, lists}
use Rattle.plan.specs.Steps.{with_runs, holding, hold_memory}
use Rattle.plan.specs.Calls.{lengths, hold_call_rows}
use Rattle.plan.proofs.Told.{written}
use Rattle.plan.proofs.Reckoned.{taken, failed, refused, reckons, reckons_taken, reckons_failed}
use Rattle.plan.proofs.states.Open.hold.Goals as goal

pub returns-in_err-admit_hold-clause-reckons : goal.returns-in_err-admit_hold-clause-reckons
returns-in_err-admit_hold-clause-reckons g c =
    let t = g.K.Kind.time in
    let a = c.args in
    let m = memory a.self.now.numbers (lists a.tracks.now a.runs.now a.connections.now a.settings.now) in
    let rows = hold_call_rows t (lengths (length a.times.now) (length a.ring.now) (work_lengths a.work.now)) m a.times.now a.run a.until in
    refused t rows (register_of t (hold_memory t m a.run (Some a.until))) (omega arith, (omega arith, (omega arith, (omega arith, (omega arith, (omega arith, (omega arith, (omega arith, (omega arith, tt))))))))) a.times.now a.ring.now _ _ c.from_residual.ensures.1 c.in_err-admit_hold.ensures.rows

pub returns-in_err-replace_run-clause-reckons : goal.returns-in_err-replace_run-clause-reckons
returns-in_err-replace_run-clause-reckons g c =
    let t = g.K.Kind.time in
    let a = c.args in
    let m = memory a.self.now.numbers (lists a.tracks.now a.runs.now a.connections.now a.settings.now) in
    let rows = hold_call_rows t (lengths (length a.times.now) (length a.ring.now) (work_lengths a.work.now)) m a.times.now a.run a.until in
    let new = c.replace_run.new in
    let known = c.in_ok-admit_hold.ensures in
    let f = c.in_err-replace_run.field-0.0 in
    reckons_failed t a.times.now new.times a.ring.now new.ring rows (register_of t (hold_memory t m a.run (Some a.until))) f _ c.from_residual-in_err-replace_run.ensures.1
    (reckons t a.times.now new.times a.ring.now new.ring rows (register_of t (with_runs m (set a.runs.now (a.run) c.with_hold-held.result))) (register_of t (hold_memory t m a.run (Some a.until))) (failed (Unit {0}) f) known.rows (ap (register_of t) (written t m (a.run) (λ (x : Run g.row.K.Denot). holding x (Some a.until)) _ _ known.ready.0 (c.with_hold-held.ensures ∙ ap (λ (x : Run g.row.K.Denot). holding x (Some a.until)) c.index-runs-r.is))) c.in_err-replace_run.ensures.reckons)

pub returns-clause-reckons : goal.returns-clause-reckons
returns-clause-reckons g c =
    let t = g.K.Kind.time in
    let a = c.args in
    let m = memory a.self.now.numbers (lists a.tracks.now a.runs.now a.connections.now a.settings.now) in
    let rows = hold_call_rows t (lengths (length a.times.now) (length a.ring.now) (work_lengths a.work.now)) m a.times.now a.run a.until in
    let new = c.replace_run.new in
    let known = c.in_ok-admit_hold.ensures in
    reckons_taken t a.times.now new.times a.ring.now new.ring rows (register_of t (hold_memory t m a.run (Some a.until))) tt _
    (reckons t a.times.now new.times a.ring.now new.ring rows (register_of t (with_runs m (set a.runs.now (a.run) c.with_hold-held.result))) (register_of t (hold_memory t m a.run (Some a.until))) (taken (Unit {0}) tt) known.rows (ap (register_of t) (written t m (a.run) (λ (x : Run g.row.K.Denot). holding x (Some a.until)) _ _ known.ready.0 (c.with_hold-held.ensures ∙ ap (λ (x : Run g.row.K.Denot). holding x (Some a.until)) c.index-runs-r.is))) c.in_ok-replace_run.ensures.reckons)
