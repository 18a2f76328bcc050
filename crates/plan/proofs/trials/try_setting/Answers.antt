use Rattle.std.proofs.Common.{ℕ, ◌*◌, List, [], set, sym, ap, ◌∙◌, subst, arith, set-set}
use lib.Seq.{set-get_or}
use Rattle.network.specs.Reckoning.{at}
use Rattle.records.specs.Register.{register_of}
use Rattle.records.specs.Stored.{Shown}
use Rattle.force.proofs.Sizes.{least_small}
use Rattle.plan.specs.States.{memory, lists}
use Rattle.plan.proofs.Stays.{long_runs}
use Rattle.plan.proofs.Reckoned.{taken, failed, reckons, reckons_taken, reckons_failed}
use Rattle.plan.proofs.trials.try_setting.Goals as goal

pub returns-in_err-put_in_force-clause-reckons : goal.returns-in_err-put_in_force-clause-reckons
returns-in_err-put_in_force-clause-reckons g c =
    let t = g.K.Kind.time in
    let a = c.args in
    let R = λ (s : List ℕ). register_of t (memory a.numbers (lists a.tracks.now a.runs.now a.connections.now s)) in
    let new = c.put_in_force.new in
    let now = R (set a.settings.now a.place a.setting) in
    let f = c.in_err-put_in_force.field-0.0 in
    reckons_failed t a.trial.now new.times a.ring.now new.ring [] now f _ c.from_residual.ensures.1
    (reckons t a.trial.now new.times a.ring.now new.ring [] (R c.bytes.result.now) now (failed (Unit {0}) f) tt (ap R c.bytes.ensures) c.in_err-put_in_force.ensures.reckons)

pub returns-in_err-put_in_force-clause-records : goal.returns-in_err-put_in_force-clause-records
returns-in_err-put_in_force-clause-records g c =
    let a = c.args in
    c.drop-switched.ensures ∙ set-set a.settings.now a.place a.setting _ ∙ set-get_or a.settings.now a.place 0

pub delay_cost-requires-clause-shown : goal.delay_cost-requires-clause-shown
delay_cost-requires-clause-shown g c =
    let t = g.K.Kind.time in
    let a = c.args in
    let R = λ (s : List ℕ). register_of t (memory a.numbers (lists a.tracks.now a.runs.now a.connections.now s)) in
    let new = c.put_in_force.new in
    let now = R (set a.settings.now a.place a.setting) in
    let reckoned = reckons t a.trial.now new.times a.ring.now new.ring [] (R c.bytes.result.now) now (taken (Unit {0}) tt) tt (ap R c.bytes.ensures) c.in_ok-put_in_force.ensures.reckons in
    let long = long_runs t (memory a.numbers (lists a.tracks.now a.runs.now a.connections.now (set a.settings.now a.place a.setting))) c.requires.records.runs c.requires.stored in
    let shown : Shown t new.times (2 * a.numbers.runs) = record { each = λ v h. least_small t now c.requires.stored.limits g.met.K.Kind.laws (at t new.times) reckoned.shows.0 v (omega arith) } in
    subst (λ (n : ℕ). Shown t new.times (2 * n)) (sym (c.of-e.ensures.runs ∙ ap (λ x. x.run_count) c.view.ensures)) shown

pub returns-clause-reckons : goal.returns-clause-reckons
returns-clause-reckons g c =
    let t = g.K.Kind.time in
    let a = c.args in
    let R = λ (s : List ℕ). register_of t (memory a.numbers (lists a.tracks.now a.runs.now a.connections.now s)) in
    let new = c.put_in_force.new in
    let now = R (set a.settings.now a.place a.setting) in
    reckons_taken t a.trial.now new.times a.ring.now new.ring [] now tt c.delay_cost.result
    (reckons t a.trial.now new.times a.ring.now new.ring [] (R c.bytes.result.now) now (taken (Unit {0}) tt) tt (ap R c.bytes.ensures) c.in_ok-put_in_force.ensures.reckons)

pub returns-clause-records : goal.returns-clause-records
returns-clause-records g c =
    let a = c.args in
    c.drop-switched-2.ensures ∙ set-set a.settings.now a.place a.setting _ ∙ set-get_or a.settings.now a.place 0
