use Rattle.std.proofs.Common.{◌≡◌, ℕ, ◌+◌, ◌-◌, ◌<◌, List, set, sym, refl, ap, ◌∙◌, subst, arith}
use Rattle.records.specs.declared.Run.{Run}
use Rattle.records.specs.Records.{track_of}
use Rattle.plan.specs.States.{memory, lists}
use Rattle.plan.specs.Steps.{unused, cleared, orders_entered, orders_added}
use Rattle.plan.specs.Drafting.{run_call_rows}
use Rattle.plan.proofs.Told.{left_answers}
use Rattle.plan.proofs.Entering.{on_tracks, on_tracks_more, orders_parts}
use Rattle.plan.proofs.states.Draft.run.Goals as goal
use Rattle.plan.proofs.states.Draft.run.Goals.{After-orders_below}
use Rattle.plan.proofs.states.Draft.run.Given.{Over}

pub returns-in_err-admit_run-clause-rows : goal.returns-in_err-admit_run-clause-rows
returns-in_err-admit_run-clause-rows g c =
    left_answers _ _ c.from_residual.ensures.1 (run_call_rows g.K.Kind.time (memory c.args.self.now.numbers (lists c.args.tracks.now c.args.runs.now c.args.connections.now c.args.settings.now)) c.args.run) c.in_err-admit_run.ensures.rows

pub orders_below-first-requires-clause-tracks : goal.orders_below-first-requires-clause-tracks
orders_below-first-requires-clause-tracks g c =
    let t = g.K.Kind.time in
    let a = c.args in
    let n = a.self.now.numbers in
    (on_tracks t (memory n (lists a.tracks.now a.runs.now a.connections.now a.settings.now)) c.in_ok-admit_run.ensures.room.0)

pub orders_below-requires-clause-tracks : goal.orders_below-requires-clause-tracks
orders_below-requires-clause-tracks g c =
    let t = g.K.Kind.time in
    let a = c.args in
    let n = a.self.now.numbers in
    let room = c.in_ok-admit_run.ensures.room in
    subst (λ (xs : List (Run g.row.K.Denot)). (k : ℕ) → k < n.runs + 1 → track_of t xs k < 64) (sym c.put.ensures) (on_tracks_more t (memory n (lists a.tracks.now a.runs.now a.connections.now a.settings.now)) room.0 (unused a.run) room.1.0 room.1.1.0)

parts : (g : Over) (c : After-orders_below g) → (c.orders_below-first.result ≡ orders_entered g.K.Kind.time (memory c.args.self.now.numbers (lists c.args.tracks.now c.args.runs.now c.args.connections.now c.args.settings.now))) × (c.orders_below.result ≡ orders_entered g.K.Kind.time (memory c.args.self.now.numbers (lists c.args.tracks.now c.args.runs.now c.args.connections.now c.args.settings.now)) + orders_added g.K.Kind.time (memory c.args.self.now.numbers (lists c.args.tracks.now c.args.runs.now c.args.connections.now c.args.settings.now)) c.args.run.track)
parts g c =
    let a = c.args in
    let m = memory a.self.now.numbers (lists a.tracks.now a.runs.now a.connections.now a.settings.now) in
    let room = c.in_ok-admit_run.ensures.room in
    orders_parts g.K.Kind.time m room.0 (unused a.run) room.1.0 _ _ _ _ refl c.orders_below-first.ensures c.put.ensures c.orders_below.ensures

pub overflow_sub-number : goal.overflow_sub-number
overflow_sub-number g c = let h = parts g c in omega arith

pub clear-requires : goal.clear-requires
clear-requires g c =
    let room = c.in_ok-admit_run.ensures.room in
    let h = parts g (goal.at.clear-requires g c).After-orders_below in omega (arith, h.0, h.1, room.1.1.1, room.0.listed.settings)

pub returns-clause-writes : goal.returns-clause-writes
returns-clause-writes g c =
    let t = g.K.Kind.time in
    let a = c.args in
    let m = memory a.self.now.numbers (lists a.tracks.now a.runs.now a.connections.now a.settings.now) in
    let h = parts g (goal.at.returns-clause-writes g c).After-orders_below in
    let new : c.orders_below.result - c.orders_below-first.result ≡ orders_added t m a.run.track = omega arith in
    let settings = c.clear.ensures ∙ ap (λ (i : ℕ). cleared a.settings.now i (c.orders_below.result - c.orders_below-first.result)) h.0 ∙ ap (cleared a.settings.now (orders_entered t m)) new in
    (refl, ap (λ (x : List (Run g.row.K.Denot)). record m { runs = x; settings = c.clear.new.bytes; run_count = m.run_count + 1 }) c.put.ensures ∙ ap (λ (x : List ℕ). record m { runs = set m.runs m.run_count (unused a.run); settings = x; run_count = m.run_count + 1 }) settings)
