-- What the rules let through keeps the limits.
use Rattle.std.proofs.Common.{◌≡◌, ℕ, ◌+◌, ◌/◌, ◌%◌, ◌<◌, ◌≤◌, ◌&&◌, eqb, List, [], ◌∷◌, ◌++◌, length, get_or, set, Some, None, sym, refl, ap, subst, inl, inr, arith}
use Rattle.std.proofs.lemmas.List.{get_or-set_same, get_or-set_other, get_or_append_left, get_or_push, length-set, length_push}
use Rattle.std.proofs.lemmas.Bool.{cases_eq, cases_lt, eq-eqb, ne_eqb, cond-true, cond-false, cond_both}
use Rattle.kinds.specs.Time.{Time}
use Rattle.network.specs.Refusals.{Passed}
use Rattle.records.specs.declared.Track.{Track}
use Rattle.records.specs.declared.Run.{Run}
use Rattle.records.specs.declared.Connection.{Connection}
use Rattle.records.specs.Records.{run_at, connection_at, track_of}
use Rattle.records.specs.Places.{count, total}
use Rattle.records.specs.Register.{Register}
use Rattle.records.specs.Stored.{Limits, Drafted, Unused, TrackStored, RunStored, ConnectionStored, ConnectionsStored}
use Rattle.records.proofs.Counts.{count_kept, total_kept, total_more}
use Rattle.rules.specs.declared.switches.Switch.{Switch}
use Rattle.rules.specs.declared.switches.Switch.TheVariants as switch
use Rattle.rules.specs.Rows.{orders_with, track_rows, run_rows, connection_rows, report_rows, hold_rows, release_rows}
use Rattle.rules.proofs.Rows.{track_passed, run_passed, connection_passed, setting_flag, turning_set, report_passed, hold_passed, release_passed}
use Rattle.plan.specs.Steps.{unused, reported, holding}
use Rattle.plan.proofs.Stays.{reported_stored, holding_stored}
use Rattle.registers.specs.Steps.{empty, enter_track, enter_run, enter_connection, set_switch, with_run, report, hold}
use Rattle.registers.specs.Stays.{StepsLimited, StepsDrafted, LimitsKept}
use Rattle.registers.proofs.Kept.{track_before, ordered_before, track_still, ordered_still}

-- what holds of each of a list and of one more holds of each of the longer list
each_more : {X : Type 0} (P : ℕ → X → Type 0) (xs : List X) (x d : X) → ((k : ℕ) → k < length xs → P k (get_or xs k d)) → P (length xs) x → (k : ℕ) → k < length (xs ++ x ∷ []) → P k (get_or (xs ++ x ∷ []) k d)
each_more P xs x d old new k h =
    let n = length_push xs x in
    elim (cases_lt k (length xs)) [
      | inl l ↦ subst (P k) (sym (get_or_append_left xs (x ∷ []) d k l)) (old k l)
      | inr l ↦
          (let e : length xs ≡ k = omega arith in
          let Q : ℕ → Type 0 = λ i. P i x in
          subst (P k) (sym (get_or_push xs x d k e)) (subst Q e new))
    ]

module _ {K : Type 0} (t : Time K) where
  pub empty_limits : Limits t empty
  empty_limits = record {
    few_tracks = omega arith;
    few_runs = omega arith;
    few_connections = omega arith;
    few_orders = omega arith;
    tracks = record { each = λ k h. absurd (omega arith) };
    runs = record { each = λ k h. absurd (omega arith) };
    connections = record { each = λ k h. absurd (omega arith) };
    orders = λ i j o. (let l = o.inside in absurd (omega arith));
    links = λ c l. absurd (omega arith);
  }

  pub empty_drafted : Drafted t empty
  empty_drafted = record { each = λ k h. absurd (omega arith) }

  -- more tracks or runs to name
  run_wider : (n m r : ℕ) (x : Run K) → n ≤ m → RunStored t n r x → RunStored t m r x
  run_wider n m r x le h = ((h.0.0, (omega (arith, h.0.1.0), h.0.1.1)), h.1)

  connection_wider : (n m : ℕ) (x : Connection K) → n ≤ m → ConnectionStored t n x → ConnectionStored t m x
  connection_wider n m x le h = (omega (arith, h.0), (omega (arith, h.1.0), h.1.1))

  module _ (R : Register K) (limits : Limits t R) where
    pub track_limits : (x : Track K) → Passed (track_rows t R x) → Limits t (enter_track R x)
    track_limits x p =
        let h = track_passed t R x p in
        let n = length_push R.tracks x in
        let P : ℕ → Track K → Type 0 = λ k y. TrackStored t y in
        record {
          few_tracks = omega (arith, h.1);
          few_runs = limits.few_runs;
          few_connections = limits.few_connections;
          few_orders = limits.few_orders;
          tracks = record { each = each_more P R.tracks x _ limits.tracks.each h.0 };
          runs = record { each = λ r l. run_wider (length R.tracks) (length (R.tracks ++ x ∷ [])) r (run_at t R.runs r) (omega arith) (limits.runs.each r l) };
          connections = limits.connections;
          orders = limits.orders;
          links = limits.links;
        }

    -- one run more
    module _ (x : Run K) where
      track_new : track_of t (R.runs ++ unused x ∷ []) (length R.runs) ≡ x.track
      track_new = ap (λ (y : Run K). y.track) (get_or_push R.runs (unused x) _ (length R.runs) refl)

      pub orders_more : total (track_of t (R.runs ++ unused x ∷ [])) (length (R.runs ++ unused x ∷ [])) ≡ orders_with t R x.track
      orders_more =
          let n = length R.runs in
          let f : ℕ → ℕ = track_of t R.runs in
          let g : ℕ → ℕ = track_of t (R.runs ++ unused x ∷ []) in
          let same : (k : ℕ) → k < n → g k ≡ f k = track_before t R.runs (unused x) in
          let long : total g (length (R.runs ++ unused x ∷ [])) ≡ total g (n + 1) = ap (total g) (length_push R.runs (unused x)) in
          let a = total_more g n in
          let b = total_kept g f n same in
          let c : count g (g n) n ≡ count g x.track n = ap (λ (y : ℕ). count g y n) track_new in
          let d = count_kept g f x.track n same in omega arith

      pub run_limits : Passed (run_rows t R x) → Limits t (enter_run R x)
      run_limits p =
          let h = run_passed t R x p in
          let n = length_push R.runs (unused x) in
          let P : ℕ → Run K → Type 0 = RunStored t (length R.tracks) in
          let F : ℕ → Type 0 = λ b. b ≤ 1 in
          let none : 0 ≤ 1 = omega arith in
          record {
            few_tracks = limits.few_tracks;
            few_runs = omega (arith, h.room);
            few_connections = limits.few_connections;
            few_orders = omega (arith, orders_more, h.orders);
            tracks = limits.tracks;
            runs = record { each = each_more P R.runs (unused x) _ limits.runs.each (h.linked, (h.scheduled, (tt, (tt, (tt, tt))))) };
            connections = record { each = λ c l. connection_wider (length R.runs) (length (R.runs ++ unused x ∷ [])) (connection_at t R.connections c) (omega arith) (limits.connections.each c l) };
            orders = λ i j o. elim (cases_eq j (length R.runs)) [
              | inl e ↦ subst F (sym (cond-true (eqb j (length R.runs)) 0 (R.order i j) (eq-eqb j (length R.runs) e))) none
              | inr ne ↦
                  (let l = o.inside in
                  subst F (sym (cond-false (eqb j (length R.runs)) 0 (R.order i j) (ne_eqb j (length R.runs) ne))) (limits.orders i j (ordered_before t R.runs (unused x) i j (omega arith) o)))
            ];
            links = limits.links;
          }

    pub connection_limits : (x : Connection K) → Passed (connection_rows t R x) → Limits t (enter_connection R x)
    connection_limits x p =
        let h = connection_passed t R x p in
        let n = length_push R.connections x in
        let P : ℕ → Connection K → Type 0 = λ k. ConnectionStored t (length R.runs) in
        let F : ℕ → Type 0 = λ b. b ≤ 1 in
        let none : 0 ≤ 1 = omega arith in
        record {
          few_tracks = limits.few_tracks;
          few_runs = limits.few_runs;
          few_connections = omega (arith, h.1);
          few_orders = limits.few_orders;
          tracks = limits.tracks;
          runs = limits.runs;
          connections = record { each = each_more P R.connections x _ limits.connections.each h.0 };
          orders = limits.orders;
          links = λ c l. elim (cases_eq c (length R.connections)) [
            | inl e ↦ subst F (sym (cond-true (eqb c (length R.connections)) 0 (R.link c) (eq-eqb c (length R.connections) e))) none
            | inr ne ↦ subst F (sym (cond-false (eqb c (length R.connections)) 0 (R.link c) (ne_eqb c (length R.connections) ne))) (limits.links c (omega arith))
          ];
        }

    pub flag_limits : (s : Switch) (v : ℕ) → v ≤ 1 → Limits t (set_switch R s v)
    flag_limits (switch.Order i j) v small =
        let F : ℕ → Type 0 = λ b. b ≤ 1 in
        record {
          few_tracks = limits.few_tracks;
          few_runs = limits.few_runs;
          few_connections = limits.few_connections;
          few_orders = limits.few_orders;
          tracks = limits.tracks;
          runs = limits.runs;
          connections = limits.connections;
          orders = λ k l o. cond_both (eqb k i && eqb l j) v (R.order k l) F (λ _. small) (λ _. limits.orders k l o);
          links = limits.links;
        }
    flag_limits (switch.Connection c) v small =
        let F : ℕ → Type 0 = λ b. b ≤ 1 in
        record {
          few_tracks = limits.few_tracks;
          few_runs = limits.few_runs;
          few_connections = limits.few_connections;
          few_orders = limits.few_orders;
          tracks = limits.tracks;
          runs = limits.runs;
          connections = limits.connections;
          orders = limits.orders;
          links = λ d l. cond_both (eqb d c) v (R.link d) F (λ _. small) (λ _. limits.links d l);
        }

    -- another run on the same track
    pub with_run_limits : (r : ℕ) (x : Run K) → r < length R.runs → x.track ≡ track_of t R.runs r → RunStored t (length R.tracks) r x → Limits t (with_run R r x)
    with_run_limits r x inside e good =
        let n = length-set R.runs r x in
        let f : ℕ → ℕ = track_of t R.runs in
        let g : ℕ → ℕ = track_of t (set R.runs r x) in
        let here : run_at t (set R.runs r x) r ≡ x = get_or-set_same R.runs r x _ inside in
        let there : (k : ℕ) → (k ≡ r → ⊥) → run_at t (set R.runs r x) k ≡ run_at t R.runs k = λ k ne. get_or-set_other R.runs r k x _ ne in
        let P : ℕ → Run K → Type 0 = RunStored t (length R.tracks) in
        let Q : ℕ → Type 0 = λ k. P k (run_at t (set R.runs r x) k) in
        let C : ℕ → Type 0 = λ m. ConnectionsStored t m R.connections in
        record {
          few_tracks = limits.few_tracks;
          few_runs = omega (arith, limits.few_runs);
          few_connections = limits.few_connections;
          few_orders =
              let a : total g (length (set R.runs r x)) ≡ total g (length R.runs) = ap (total g) n in
              let b = total_kept g f (length R.runs) (λ k l. track_still t R.runs r x e k) in
              omega (arith, limits.few_orders);
          tracks = limits.tracks;
          runs = record {
            each = λ k l. elim (cases_eq k r) [
              | inl same ↦ subst Q (sym same) (subst (P r) (sym here) good)
              | inr ne ↦ subst (P k) (sym (there k ne)) (limits.runs.each k (omega arith))
            ];
          };
          connections = subst C (sym n) limits.connections;
          orders = λ i j o. limits.orders i j (ordered_still t R.runs r x e i j o);
          links = limits.links;
        }

    pub report_limits : (v : ℕ) (at : K) → Passed (report_rows t R v at) → Limits t (report t R v at)
    report_limits v at p =
        let h = report_passed t R v at p in
        let k = h.known in
        let inside : v / 2 < length R.runs = omega arith in
        let side : v % 2 < 2 = omega arith in
        let x = run_at t R.runs (v / 2) in
        with_run_limits (v / 2) (reported x (v % 2) at) inside refl (reported_stored t (length R.tracks) (v / 2) (v % 2) x at side h.sized h.departure h.arrival (limits.runs.each (v / 2) inside))

    pub hold_limits : (r : ℕ) (until : K) → Passed (hold_rows t R r until) → Limits t (hold t R r (Some until))
    hold_limits r until p =
        let h = hold_passed t R r until p in
        let x = run_at t R.runs r in
        with_run_limits r (holding x (Some until)) h.known refl (holding_stored t (length R.tracks) r x (Some until) h.sized (limits.runs.each r h.known))

    pub release_limits : (plan slip_plan slip_run : ℕ) → Passed (release_rows t R plan slip_plan slip_run) → Limits t (hold t R slip_run None)
    release_limits plan slip_plan r p =
        let h = release_passed t R plan slip_plan r p in
        let x = run_at t R.runs r in
        with_run_limits r (holding x None) h.known refl (holding_stored t (length R.tracks) r x None tt (limits.runs.each r h.known))

    pub steps_limited : StepsLimited t R
    steps_limited = record {
      track = track_limits;
      run = run_limits;
      connection = connection_limits;
      setting = λ s v p. flag_limits s v (setting_flag t R s v p);
      turning = λ s v p. flag_limits s v (setting_flag t R s v (turning_set t R s v p));
      reporting = report_limits;
      holding = hold_limits;
      releasing = release_limits;
    }

  module _ (R : Register K) (drafted : Drafted t R) where
    pub run_drafted : (x : Run K) → Drafted t (enter_run R x)
    run_drafted x = let P : ℕ → Run K → Type 0 = λ k. Unused in record { each = each_more P R.runs (unused x) _ drafted.each (refl, (refl, refl)) }

    pub switch_drafted : (s : Switch) (v : ℕ) → Drafted t (set_switch R s v)
    switch_drafted (switch.Order i j) v = record { each = drafted.each }
    switch_drafted (switch.Connection c) v = record { each = drafted.each }

    pub steps_drafted : StepsDrafted t R
    steps_drafted = record {
      track = λ x. record { each = drafted.each };
      run = run_drafted;
      connection = λ x. record { each = drafted.each };
      switch = switch_drafted;
    }

  pub limits_kept_lem : LimitsKept t
  limits_kept_lem = record { none = empty_limits; none_drafted = empty_drafted; steps = steps_limited; drafted = steps_drafted }
