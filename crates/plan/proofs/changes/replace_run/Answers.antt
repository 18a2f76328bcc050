use Rattle.std.proofs.Common.{◌≡◌, List, [], get_or, set, ap, ◌∙◌, set-set}
use lib.Seq.{set-get_or}
use Rattle.records.specs.declared.Run.{Run}
use Rattle.records.specs.Register.{register_of}
use Rattle.plan.specs.States.{memory, lists}
use Rattle.plan.proofs.Reckoned.{taken, failed, reckons}
use Rattle.plan.proofs.changes.replace_run.Goals as goal

pub returns-in-Ok-clause-reckons : goal.returns-in-Ok-clause-reckons
returns-in-Ok-clause-reckons g c =
    let t = g.K.Kind.time in
    let a = c.args in
    let R = λ (x : List (Run g.row.K.Denot)). register_of t (memory a.numbers (lists a.tracks.now x a.connections.now a.settings.now)) in
    let new = c.put_in_force.new in
    reckons t a.times.now new.times a.ring.now new.ring [] (R c.put.new.items) (R (set a.runs.now a.r a.run)) (taken (Unit {0}) tt) tt (ap R c.put.ensures) c.in-Ok.ensures.reckons

pub returns-in-Err-clause-reckons : goal.returns-in-Err-clause-reckons
returns-in-Err-clause-reckons g c =
    let t = g.K.Kind.time in
    let a = c.args in
    let R = λ (x : List (Run g.row.K.Denot)). register_of t (memory a.numbers (lists a.tracks.now x a.connections.now a.settings.now)) in
    let new = c.put_in_force.new in
    reckons t a.times.now new.times a.ring.now new.ring [] (R c.put.new.items) (R (set a.runs.now a.r a.run)) (failed (Unit {0}) c.in-Err.fault) tt (ap R c.put.ensures) c.in-Err.ensures.reckons

pub returns-in-Err-clause-records : goal.returns-in-Err-clause-records
returns-in-Err-clause-records g c =
    let a = c.args in
    let x : c.index-runs-r.result ≡ get_or a.runs.now a.r c.index-runs-r.result = c.index-runs-r.is in
    c.put-in-Err.ensures ∙ ap (λ (y : Run g.row.K.Denot). set c.put.new.items a.r y) x ∙ ap (λ (xs : List (Run g.row.K.Denot)). set xs a.r (get_or a.runs.now a.r c.index-runs-r.result)) c.put.ensures ∙ set-set a.runs.now a.r a.run _ ∙ set-get_or a.runs.now a.r c.index-runs-r.result
