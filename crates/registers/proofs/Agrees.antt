-- Each step on a memory is the step on the register that the memory stands for.
use Rattle.std.proofs.Common.{◌≡◌, ℕ, ◌+◌, ◌-◌, ◌/◌, ◌%◌, ◌<◌, ◌≤◌, cond, ◌&&◌, eqb, List, [], ◌∷◌, ◌++◌, length, get_or, take, set, replicate, Option, sym, refl, ap, ◌∙◌, subst, inl, inr, arith}
use lib.Seq.{take-set-lt}
use Rattle.std.proofs.lemmas.List.{get_or-set_same, get_or-set_other, get_or-take, length-take-le, take_more_set, get_or_append_left, get_or-append_right, get_or_push, get_or-drop, get_or-replicate, length-replicate, length_push}
use Rattle.std.proofs.lemmas.Bool.{cases_eq, eq-eqb, ne_eqb, and_left, and_right, cond-true, cond-false}
use Rattle.kinds.specs.Time.{Time}
use Rattle.network.specs.Refusals.{Passed}
use Rattle.records.specs.declared.Track.{Track}
use Rattle.records.specs.declared.Run.{Run}
use Rattle.records.specs.declared.Connection.{Connection}
use Rattle.records.specs.Records.{track_of}
use Rattle.records.specs.Places.{count, earlier, total, place, Ordered}
use Rattle.records.specs.Register.{Memory, register_of}
use Rattle.records.specs.Stored.{Stored}
use Rattle.records.proofs.Counts.{count_below, place_below, place_kept, count_kept, total_kept, one_written}
use Rattle.rules.specs.declared.switches.Switch.{Switch}
use Rattle.rules.specs.declared.switches.Switch.TheVariants as switch
use Rattle.rules.specs.Rows.{RecordsListed, orders_with, switch_rows}
use Rattle.rules.proofs.Rows.{order_passed, link_passed}
use Rattle.plan.specs.Steps.{cleared, with_runs, unused, reported, holding, track_memory, connection_memory, orders_entered, orders_added, run_memory, report_memory, hold_memory, switch_memory}
use Rattle.registers.specs.Steps.{Same, empty, enter_track, enter_run, enter_connection, set_switch, with_run, report, hold}
use Rattle.registers.specs.Memories.{StepsOf}
use Rattle.registers.proofs.Kept.{track_before, ordered_before, track_still}

-- reading among cleared bytes
module _ (xs : List ℕ) (a k : ℕ) (room : a + k ≤ length xs) where
  long_front : length (take a xs) ≡ a
  long_front = length-take-le a xs (omega arith)

  pub cleared_below : (p : ℕ) → p < a → get_or (cleared xs a k) p 0 ≡ get_or xs p 0
  cleared_below p l = let e = long_front in get_or_append_left (take a xs) _ 0 p (omega arith) ∙ get_or-take a xs p 0 l

  pub cleared_inside : (p : ℕ) → a ≤ p → p < a + k → get_or (cleared xs a k) p 0 ≡ 0
  cleared_inside p low high =
      let e = length-replicate {A = ℕ} k 0 in
      get_or-append_right (take a xs) _ a p 0 long_front low ∙ get_or_append_left (replicate k 0) _ 0 (p - a) (omega arith) ∙ get_or-replicate k (p - a) 0 0 (omega arith)

  pub cleared_above : (p : ℕ) → a + k ≤ p → get_or (cleared xs a k) p 0 ≡ get_or xs p 0
  cleared_above p low =
      let e : a + k + (p - a - k) ≡ p = omega arith in
      get_or-append_right (take a xs) _ a p 0 long_front (omega arith) ∙ get_or-append_right (replicate k 0) _ k (p - a) 0 (length-replicate k 0) (omega arith) ∙ get_or-drop (a + k) xs (p - a - k) 0 ∙ ap (λ (q : ℕ). get_or xs q 0) e

module _ {K : Type 0} (t : Time K) (m : Memory K) where
  -- nothing is entered
  pub empty_agrees : m.track_count ≡ 0 → m.run_count ≡ 0 → m.connection_count ≡ 0 → Same t (register_of t m) empty
  empty_agrees tracks runs connections =
      let no_run : take m.run_count m.runs ≡ [] = ap (λ n. take n m.runs) runs in
      let no_connection : take m.connection_count m.connections ≡ [] = ap (λ n. take n m.connections) connections in
      record {
        tracks = ap (λ n. take n m.tracks) tracks;
        runs = no_run;
        connections = no_connection;
        orders = λ i j o. (let e = ap length no_run in let l = o.inside in absurd (omega arith));
        links = λ c l. (let e = ap length no_connection in absurd (omega arith));
      }

  -- another run on the same track
  pub run_agrees : (r : ℕ) (x : Run K) → r < m.run_count → x.track ≡ track_of t (take m.run_count m.runs) r → Same t (register_of t (with_runs m (set m.runs r x))) (with_run (register_of t m) r x)
  run_agrees r x inside e =
      let n = m.run_count in
      let made = take-set-lt n m.runs r x inside in
      record {
        tracks = refl;
        runs = made;
        connections = refl;
        orders = λ i j o. ap (λ (p : ℕ). get_or m.settings p 0) (place_kept _ _ i j o.below (λ k l. ap (λ ys. track_of t ys k) made ∙ track_still t (take n m.runs) r x e k));
        links = λ c l. refl;
      }

  pub report_agrees : (v : ℕ) (at : K) → v / 2 < m.run_count → Same t (register_of t (report_memory t m v at)) (report t (register_of t m) v at)
  report_agrees v at inside =
      let P : Run K → Type 0 = λ y. Same t (register_of t (with_runs m (set m.runs (v / 2) (reported y (v % 2) at)))) (report t (register_of t m) v at) in
      subst P (get_or-take m.run_count m.runs (v / 2) _ inside) (run_agrees (v / 2) _ inside refl)

  pub hold_agrees : (r : ℕ) (until : Option K) → r < m.run_count → Same t (register_of t (hold_memory t m r until)) (hold t (register_of t m) r until)
  hold_agrees r until inside =
      let P : Run K → Type 0 = λ y. Same t (register_of t (with_runs m (set m.runs r (holding y until)))) (hold t (register_of t m) r until) in
      subst P (get_or-take m.run_count m.runs r _ inside) (run_agrees r _ inside refl)

  module _ (stored : Stored t m) (listed : RecordsListed m) where
    long_runs : length (take m.run_count m.runs) ≡ m.run_count
    long_runs = length-take-le m.run_count m.runs (omega (arith, stored.few_runs, listed.runs))

    long_connections : length (take m.connection_count m.connections) ≡ m.connection_count
    long_connections = length-take-le m.connection_count m.connections (omega (arith, stored.few_connections, listed.connections))

    -- what a run's rows count as orders
    pub orders_counted : (x : ℕ) → orders_with t (register_of t m) x ≡ orders_entered t m + orders_added t m x
    orders_counted x = ap (λ (n : ℕ). total (track_of t (take m.run_count m.runs)) n + count (track_of t (take m.run_count m.runs)) x n) long_runs

    -- the byte of an order lies before those of the connections
    order_low : (i j : ℕ) → Ordered (track_of t (take m.run_count m.runs)) (length (take m.run_count m.runs)) i j → place (track_of t (take m.run_count m.runs)) i j < 4096
    order_low i j o = let h = place_below _ _ i j o in omega (arith, stored.limits.few_orders)

    pub switch_agrees : (s : Switch) (setting : ℕ) → Passed (switch_rows t (register_of t m) s) → Same t (register_of t (switch_memory t m s setting)) (set_switch (register_of t m) s setting)
    switch_agrees (switch.Order i j) setting p =
        let f : ℕ → ℕ = track_of t (take m.run_count m.runs) in
        let o : Ordered f (length (take m.run_count m.runs)) i j = order_passed t (register_of t m) i j p in
        let low = order_low i j o in
        record {
          tracks = refl;
          runs = refl;
          connections = refl;
          orders = λ k l q. elim (one_written f (length (take m.run_count m.runs)) i j k l setting m.settings o q (omega (arith, stored.limits.few_orders, listed.settings))) [
            | inl h ↦ (let a = eq-eqb k i h.0.0 in let b = eq-eqb l j h.0.1 in h.1 ∙ (rw (a, b) refl))
            | inr h ↦ h.1 ∙ sym (cond-false (eqb k i && eqb l j) setting _ (elim (cases_eq k i) [
              | inl e ↦ and_right (eqb k i) (eqb l j) (ne_eqb l j (λ d. h.0 (e, d)))
              | inr ne ↦ and_left (eqb k i) (eqb l j) (ne_eqb k i ne)
            ]))
          ];
          links = λ c l. get_or-set_other m.settings (place f i j) (4096 + c) setting 0 (omega arith);
        }
    switch_agrees (switch.Connection c) setting p =
        let inside = link_passed t (register_of t m) c p in
        let e = long_connections in
        record {
          tracks = refl;
          runs = refl;
          connections = refl;
          orders = λ k l q. (let low = order_low k l q in get_or-set_other m.settings (4096 + c) _ setting 0 (omega arith));
          links = λ d l. elim (cases_eq d c) [
            | inl same ↦ (let b = eq-eqb d c same in let P : ℕ → Type 0 = λ k. get_or (set m.settings (4096 + c) setting) (4096 + k) 0 ≡ setting in subst P (sym same) (get_or-set_same m.settings (4096 + c) setting 0 (omega (arith, stored.few_connections, listed.settings))) ∙ sym (cond-true (eqb d c) setting _ b))
            | inr ne ↦ get_or-set_other m.settings (4096 + c) (4096 + d) setting 0 (omega arith) ∙ sym (cond-false (eqb d c) setting _ (ne_eqb d c ne))
          ];
        }

    pub track_agrees : (x : Track K) → m.track_count < 64 → Same t (register_of t (track_memory m x)) (enter_track (register_of t m) x)
    track_agrees x room = record {
      tracks = take_more_set m.tracks m.track_count x (omega (arith, listed.tracks));
      runs = refl;
      connections = refl;
      orders = λ i j o. refl;
      links = λ c l. refl;
    }

    pub connection_agrees : (x : Connection K) → m.connection_count < 512 → Same t (register_of t (connection_memory m x)) (enter_connection (register_of t m) x)
    connection_agrees x room =
        let n = m.connection_count in
        let long = long_connections in
        let made = take_more_set m.connections n x (omega (arith, listed.connections)) in
        record {
          tracks = refl;
          runs = refl;
          connections = made;
          orders = λ i j o. (let low = order_low i j o in get_or-set_other m.settings (4096 + n) _ 0 0 (omega arith));
          links = λ c l. elim (cases_eq c n) [
            | inl same ↦
                (let P : ℕ → Type 0 = λ k. get_or (set m.settings (4096 + n) 0) (4096 + k) 0 ≡ 0 in
                subst P (sym same) (get_or-set_same m.settings (4096 + n) 0 0 (omega (arith, listed.settings)))
                ∙ sym (cond-true (eqb c (length (take n m.connections))) 0 _ (eq-eqb _ _ (same ∙ sym long))))
            | inr ne ↦ get_or-set_other m.settings (4096 + n) (4096 + c) 0 0 (omega arith) ∙ sym (cond-false (eqb c (length (take n m.connections))) 0 _ (ne_eqb _ _ (λ e. ne (e ∙ long))))
          ];
        }

    -- one more run
    module _ (x : Run K) (few : m.run_count < 512) (room : orders_entered t m + orders_added t m x.track ≤ 4096) where
      runs_now : take (m.run_count + 1) (set m.runs m.run_count (unused x)) ≡ take m.run_count m.runs ++ unused x ∷ []
      runs_now = take_more_set m.runs m.run_count (unused x) (omega (arith, listed.runs))

      -- at the runs as they are entered
      track_was : (k : ℕ) → k < m.run_count → track_of t (take m.run_count m.runs ++ unused x ∷ []) k ≡ track_of t (take m.run_count m.runs) k
      track_was k l = let e = long_runs in track_before t (take m.run_count m.runs) (unused x) k (omega arith)

      track_new : track_of t (take m.run_count m.runs ++ unused x ∷ []) m.run_count ≡ x.track
      track_new = ap (λ (y : Run K). y.track) (get_or_push (take m.run_count m.runs) (unused x) _ m.run_count long_runs)

      settings_room : orders_entered t m + orders_added t m x.track ≤ length m.settings
      settings_room = let r = room in omega (arith, listed.settings)

      -- the byte of an order of earlier runs is as it was
      order_was : (i j : ℕ) → i < j → j < m.run_count → track_of t (take m.run_count m.runs) i ≡ track_of t (take m.run_count m.runs) j → get_or (cleared m.settings (orders_entered t m) (orders_added t m x.track)) (place (track_of t (take m.run_count m.runs ++ unused x ∷ [])) i j) 0 ≡ get_or m.settings (place (track_of t (take m.run_count m.runs)) i j) 0
      order_was i j b l shared =
          let same = place_kept (track_of t (take m.run_count m.runs ++ unused x ∷ [])) (track_of t (take m.run_count m.runs)) i j b (λ k h. track_was k (omega arith)) in
          let low = place_below (track_of t (take m.run_count m.runs)) m.run_count i j (record { below = b; inside = l; shared = shared }) in
          ap (λ (p : ℕ). get_or (cleared m.settings (orders_entered t m) (orders_added t m x.track)) p 0) same ∙ cleared_below m.settings (orders_entered t m) (orders_added t m x.track) settings_room _ low

      -- the byte of an order of the new run is cleared
      order_new : (i : ℕ) → i < m.run_count → track_of t (take m.run_count m.runs ++ unused x ∷ []) i ≡ track_of t (take m.run_count m.runs ++ unused x ∷ []) m.run_count → get_or (cleared m.settings (orders_entered t m) (orders_added t m x.track)) (place (track_of t (take m.run_count m.runs ++ unused x ∷ [])) i m.run_count) 0 ≡ 0
      order_new i b shared =
          let n = m.run_count in
          let f : ℕ → ℕ = track_of t (take m.run_count m.runs) in
          let g : ℕ → ℕ = track_of t (take m.run_count m.runs ++ unused x ∷ []) in
          let sum : total g n ≡ total f n = total_kept g f n track_was in
          let fewer : earlier g i < earlier g n = count_below g i n b shared in
          let many : earlier g n ≡ count f x.track n = ap (λ (y : ℕ). count g y n) track_new ∙ count_kept g f x.track n track_was in
          cleared_inside m.settings (orders_entered t m) (orders_added t m x.track) settings_room _ (omega arith) (omega arith)

      pub run_entered_agrees : Same t (register_of t (run_memory t m x)) (enter_run (register_of t m) x)
      run_entered_agrees =
          let n = m.run_count in
          let long = long_runs in
          let bytes : List ℕ = cleared m.settings (orders_entered t m) (orders_added t m x.track) in
          let O : List (Run K) → Type 0 = λ rs. (i j : ℕ) → Ordered (track_of t rs) (length rs) i j → get_or bytes (place (track_of t rs) i j) 0 ≡ cond (eqb j (length (take n m.runs))) 0 (get_or m.settings (place (track_of t (take n m.runs)) i j) 0) in
          let orders_now : O (take n m.runs ++ unused x ∷ []) = λ i j o.
          (let longer = length_push (take n m.runs) (unused x) in
          let b = o.below in
          let l = o.inside in
          elim (cases_eq j n) [
            | inl e ↦
                (let g : ℕ → ℕ = track_of t (take n m.runs ++ unused x ∷ []) in
                let P : ℕ → Type 0 = λ k. get_or bytes (place g i k) 0 ≡ 0 in
                subst P (sym e) (order_new i (omega arith) (o.shared ∙ ap g e)) ∙ sym (cond-true (eqb j (length (take n m.runs))) 0 _ (eq-eqb _ _ (e ∙ sym long))))
            | inr ne ↦
                (let q = ordered_before t (take n m.runs) (unused x) i j (omega arith) o in
                order_was i j b (omega arith) q.shared ∙ sym (cond-false (eqb j (length (take n m.runs))) 0 _ (ne_eqb _ _ (λ e. ne (e ∙ long)))))
          ]) in
          record {
            tracks = refl;
            runs = runs_now;
            connections = refl;
            orders = subst O (sym runs_now) orders_now;
            links = λ c l. cleared_above m.settings (orders_entered t m) (orders_added t m x.track) settings_room (4096 + c) (let r = room in omega arith);
          }

    pub steps_of : StepsOf t m
    steps_of = record {
      none = empty_agrees;
      track = track_agrees;
      run = run_entered_agrees;
      connection = connection_agrees;
      switch = switch_agrees;
      report = report_agrees;
      hold = hold_agrees;
    }
