-- What is stored stays within its rules when one run or one setting changes.
use Rattle.std.proofs.Common.{◌≡◌, ℕ, ◌+◌, ◌<◌, ◌≤◌, true, List, length, get_or, take, set, IfSome, None, Option, sym, ap, ◌∙◌, subst, inl, inr, arith, MatchOption}
use lib.Seq.{set_out}
use Rattle.std.proofs.lemmas.Bool.{cases_eq, cases_lt}
use Rattle.std.proofs.lemmas.List.{get_or-set_same, get_or-set_other, get_or-take, length-take-le, length-set}
use Rattle.kinds.specs.Time.{Time}
use Rattle.records.specs.declared.Run.{Run}
use Rattle.records.specs.Records.{run_at, track_of}
use Rattle.records.specs.Places.{total, place, Ordered}
use Rattle.records.specs.Register.{Memory}
use Rattle.records.specs.Stored.{Stored, ConnectionsStored, RunStored, SizedIfAny}
use Rattle.records.proofs.Counts.{total_kept, place_kept}
use Rattle.plan.specs.Steps.{with_runs, with_settings, reported, holding}

-- a byte that is 0 or 1 in the place of another leaves each 0 or 1
pub flag_set : (xs : List ℕ) (p s q : ℕ) → s ≤ 1 → get_or xs q 0 ≤ 1 → get_or (set xs p s) q 0 ≤ 1
flag_set xs p s q small h =
    elim (cases_eq q p) [
      | inl e ↦ elim (cases_lt p (length xs)) [
        | inl l ↦ (let z = ap (λ i. get_or (set xs p s) i 0) e ∙ get_or-set_same xs p s 0 l in omega arith)
        | inr l ↦ (let z = ap (λ ys. get_or ys q 0) (set_out xs p s l) in omega arith)
      ]
      | inr ne ↦ (let z = get_or-set_other xs p q s 0 ne in omega arith)
    ]

module _ {K : Type 0} (t : Time K) where
  pub long_runs : (m : Memory K) → length m.runs ≡ 512 → Stored t m → length (take m.run_count m.runs) ≡ m.run_count
  long_runs m long stored = length-take-le m.run_count m.runs (omega (arith, stored.few_runs))

  pub stored_settings : (m : Memory K) (p s : ℕ) → s ≤ 1 → Stored t m → Stored t (with_settings m (set m.settings p s))
  stored_settings m p s small h = record {
    few_tracks = h.few_tracks;
    few_runs = h.few_runs;
    few_connections = h.few_connections;
    limits = record {
      few_tracks = h.limits.few_tracks;
      few_runs = h.limits.few_runs;
      few_connections = h.limits.few_connections;
      few_orders = h.limits.few_orders;
      tracks = h.limits.tracks;
      runs = h.limits.runs;
      connections = h.limits.connections;
      orders = λ i j o. flag_set m.settings p s (place (track_of t (take m.run_count m.runs)) i j) small (h.limits.orders i j o);
      links = λ c l. flag_set m.settings p s (4096 + c) small (h.limits.links c l);
    };
  }

  -- one run in the place of another on the same track
  module _ (m : Memory K) (r : ℕ) (x : Run K) (long : length m.runs ≡ 512) (stored : Stored t m) (inside : r < m.run_count) (same_track : x.track ≡ (run_at t m.runs r).track) where
    few : m.run_count ≤ 512
    few = stored.few_runs

    long_was : length (take m.run_count m.runs) ≡ m.run_count
    long_was = long_runs m long stored

    long_now : length (take m.run_count (set m.runs r x)) ≡ m.run_count
    long_now = let f = few in let e = length-set m.runs r x in length-take-le m.run_count (set m.runs r x) (omega arith)

    pub run_here : run_at t (take m.run_count (set m.runs r x)) r ≡ x
    run_here = let f = few in get_or-take m.run_count (set m.runs r x) r _ inside ∙ get_or-set_same m.runs r x _ (omega arith)

    pub run_there : (k : ℕ) → k < m.run_count → (k ≡ r → ⊥) → run_at t (take m.run_count (set m.runs r x)) k ≡ run_at t (take m.run_count m.runs) k
    run_there k h ne = get_or-take m.run_count (set m.runs r x) k _ h ∙ get_or-set_other m.runs r k x _ ne ∙ sym (get_or-take m.run_count m.runs k _ h)

    pub track_kept : (k : ℕ) → k < m.run_count → track_of t (take m.run_count (set m.runs r x)) k ≡ track_of t (take m.run_count m.runs) k
    track_kept k h =
        elim (cases_eq k r) [
          | inl e ↦ ap (λ i. track_of t (take m.run_count (set m.runs r x)) i) e ∙ ap (λ y. y.track) run_here ∙ same_track ∙ ap (λ y. y.track) (sym (get_or-take m.run_count m.runs r _ inside)) ∙ ap (λ i. track_of t (take m.run_count m.runs) i) (sym e)
          | inr ne ↦ ap (λ y. y.track) (run_there k h ne)
        ]

    pub place_same : (i j : ℕ) → i < j → j < m.run_count → place (track_of t (take m.run_count (set m.runs r x))) i j ≡ place (track_of t (take m.run_count m.runs)) i j
    place_same i j h l = place_kept _ _ i j h (λ k b. track_kept k (omega arith))

    pub ordered_was : (i j : ℕ) → Ordered (track_of t (take m.run_count (set m.runs r x))) (length (take m.run_count (set m.runs r x))) i j → Ordered (track_of t (take m.run_count m.runs)) (length (take m.run_count m.runs)) i j
    ordered_was i j o =
        let b = o.below in
        let e = long_now in
        let f = long_was in
        let in_j = o.inside in
        record {
          below = o.below;
          inside = omega arith;
          shared = sym (track_kept i (omega arith)) ∙ o.shared ∙ track_kept j (omega arith);
        }

    pub stored_run : RunStored t (length (take m.track_count m.tracks)) r x → Stored t (with_runs m (set m.runs r x))
    stored_run good =
        let e = long_now in
        let f = long_was in
        record {
          few_tracks = stored.few_tracks;
          few_runs = stored.few_runs;
          few_connections = stored.few_connections;
          limits = record {
            few_tracks = stored.limits.few_tracks;
            few_runs = let l = stored.few_runs in omega arith;
            few_connections = stored.limits.few_connections;
            few_orders =
                let z = total_kept (track_of t (take m.run_count (set m.runs r x))) (track_of t (take m.run_count m.runs)) m.run_count track_kept in
                let y = ap (total (track_of t (take m.run_count (set m.runs r x)))) e in
                let w = ap (total (track_of t (take m.run_count m.runs))) f in
                let l = stored.limits.few_orders in
                omega arith;
            tracks = stored.limits.tracks;
            runs = record {
              each = λ k h. (
                  let in_k : k < m.run_count = omega arith in
                  elim (cases_eq k r) [
                    | inl q ↦ (let P : Run K → Type 0 = RunStored t (length (take m.track_count m.tracks)) r in let Q : ℕ → Type 0 = λ i. RunStored t (length (take m.track_count m.tracks)) i (run_at t (take m.run_count (set m.runs r x)) i) in subst Q (sym q) (subst P (sym run_here) good))
                    | inr ne ↦ (let P : Run K → Type 0 = RunStored t (length (take m.track_count m.tracks)) k in subst P (sym (run_there k in_k ne)) (stored.limits.runs.each k (omega arith)))
                  ]);
            };
            connections = let g : length (take m.run_count m.runs) ≡ length (take m.run_count (set m.runs r x)) = f ∙ sym e in let P : ℕ → Type 0 = λ n. ConnectionsStored t n (take m.connection_count m.connections) in subst P g stored.limits.connections;
            orders = λ i j o. (
                let b = o.below in
                let in_j = o.inside in
                let p = place_same i j b (omega arith) in
                let z = ap (λ k. get_or m.settings k 0) p in
                let l = stored.limits.orders i j (ordered_was i j o) in
                omega arith);
            links = stored.limits.links;
          };
        }

  -- a run with another report
  pub reported_stored : (tracks r side : ℕ) (x : Run K) (at : K) → side < 2 → t.size at ≤ 1000000 → (side ≡ 0 → x.arrived ≡ None) → (side ≡ 1 → MatchOption x.departed ⊥ (λ d. t.before d at ≡ true)) → RunStored t tracks r x → RunStored t tracks r (reported x side at)
  reported_stored tracks r side x at two sized first second good =
      let P : ℕ → Type 0 = λ i. RunStored t tracks r (reported x i at) in
      let was = good.1.1 in
      elim (cases_eq side 0) [
        | inl e ↦ (
            let Q : Option K → Type 0 = λ a. IfSome a (λ y. t.before at y ≡ true) in
            subst P (sym e) (good.0, (good.1.0, (sized, (was.1.0, (was.1.1.0, subst Q (sym (first e)) tt))))))
        | inr ne ↦ (
            let e : side ≡ 1 = omega arith in
            subst P (sym e) (good.0, (good.1.0, (was.0, (sized, (was.1.1.0, second e))))))
      ]

  -- a run with another hold
  pub holding_stored : (tracks r : ℕ) (x : Run K) (hold : Option K) → SizedIfAny t hold → RunStored t tracks r x → RunStored t tracks r (holding x hold)
  holding_stored tracks r x hold sized good = (good.0, (good.1.0, (good.1.1.0, (good.1.1.1.0, (sized, good.1.1.1.1.1)))))
