-- What is known once no row of a call on a draft applies, and the orders that a new run brings.
use Rattle.std.proofs.Common.{◌≡◌, ℕ, ◌+◌, ◌<◌, ◌≤◌, List, length, take, set, IfOk, OnOk, Ok, Err, Result, sym, ap, ◌∙◌, subst, inl, inr, arith}
use Rattle.std.proofs.lemmas.Bool.{cases_lt}
use Rattle.std.proofs.lemmas.List.{get_or-set_same, get_or-set_other, get_or-take}
use Rattle.kinds.specs.Time.{Time}
use Rattle.network.specs.Refusals.{Answers, Passed}
use Rattle.records.specs.declared.Run.{Run}
use Rattle.records.specs.declared.Track.{Track}
use Rattle.records.specs.declared.Connection.{Connection}
use Rattle.records.specs.Records.{track_of}
use Rattle.records.specs.Places.{total, count}
use Rattle.records.specs.Register.{Register, Memory, register_of}
use Rattle.records.proofs.Counts.{total_more, total_kept, count_kept}
use Rattle.rules.specs.declared.faults.PlanFault.{PlanFault}
use Rattle.rules.specs.Faults.{plan_number, plan_place}
use Rattle.rules.specs.declared.switches.Switch.{Switch}
use Rattle.rules.specs.Rows.{SoundDraft, track_rows, run_rows, connection_rows, switch_rows, setting_rows, setting_place, PlaceOf}
use Rattle.plan.specs.Steps.{orders_entered, orders_added}
use Rattle.plan.proofs.Stays.{long_runs}
use Rattle.rules.proofs.Rows.{run_passed, setting_named}

-- no more records are entered than there are
abbrev pub Fits : {K : Type 0} → Memory K → Type 0
Fits m = (m.track_count ≤ length m.tracks) × ((m.run_count ≤ length m.runs) × (m.connection_count ≤ length m.connections))

module _ {K : Type 0} (t : Time K) where
  -- there is room for what is taken
  pub track_room : (S : Type 0) (R : Register K) (x : Track K) (n : ℕ) (r : Result (Unit {0}) PlanFault) → S → length R.tracks ≡ n → Answers plan_number plan_place (track_rows t R x) r → OnOk r (S × (n < 64))
  track_room S R x n (Err f) s e a = tt
  track_room S R x n (Ok u) s e a = (s, elim (cases_lt n 64) [ inl l ↦ l | inr h ↦ absurd (a.1.0 (omega arith)) ])

  pub connection_room : (S : Type 0) (R : Register K) (x : Connection K) (n : ℕ) (r : Result (Unit {0}) PlanFault) → S → length R.connections ≡ n → Answers plan_number plan_place (connection_rows t R x) r → OnOk r (S × (n < 512))
  connection_room S R x n (Err f) s e a = tt
  connection_room S R x n (Ok u) s e a = (s, elim (cases_lt n 512) [ inl l ↦ l | inr h ↦ absurd (a.1.1.1.1.0 (omega arith)) ])

  module _ (m : Memory K) (sound : SoundDraft t m) where
    long : length (take m.run_count m.runs) ≡ m.run_count
    long = long_runs t m sound.listed.runs sound.stored

    pub run_room : (x : Run K) (r : Result (Unit {0}) PlanFault) → Answers plan_number plan_place (run_rows t (register_of t m) x) r → IfOk r (λ _. SoundDraft t m × ((m.run_count < 512) × ((x.track < 64) × (orders_entered t m + orders_added t m x.track ≤ 4096))))
    run_room x (Err f) a = tt
    run_room x (Ok u) a =
        let h = run_passed t (register_of t m) x a in
        let f = track_of t (take m.run_count m.runs) in
        let e = ap (λ (i : ℕ). total f i + count f x.track i) long in
        (sound, (omega (arith, h.room, long), (omega (arith, h.linked.1.0, sound.stored.limits.few_tracks), omega (arith, h.orders))))

    pub fits : Fits m
    fits =
        let s = sound.stored in
        let l = sound.listed in (omega (arith, s.few_tracks, l.tracks), (omega (arith, s.few_runs, l.runs), omega (arith, s.few_connections, l.connections)))

    -- what is taken names what is entered
    pub switch_known : {X : Type 0} (s : Switch) (r : Result X PlanFault) → Answers plan_number plan_place (switch_rows t (register_of t m) s) r → IfOk r (λ _. SoundDraft t m × Passed (switch_rows t (register_of t m) s))
    switch_known s (Err f) a = tt
    switch_known s (Ok u) a = (sound, a)

    pub preset_known : {X : Type 0} (s : Switch) (v : ℕ) (r : Result X PlanFault) → Answers plan_number plan_place (setting_rows t (register_of t m) s v) r → IfOk r (λ _. SoundDraft t m × Passed (switch_rows t (register_of t m) s))
    preset_known s v (Err f) a = tt
    preset_known s v (Ok u) a = (sound, setting_named t (register_of t m) s v a)

    -- where the byte of a switch lies that is named in what is entered
    pub place_known : (R : Register K) → R ≡ register_of t m → (s : Switch) (a : Result ℕ PlanFault) → IfOk a (PlaceOf t R s) → IfOk a (λ p. (p ≡ setting_place t (register_of t m) s) × (p < length m.settings))
    place_known R is s (Err f) at = tt
    place_known R is s (Ok p) at =
        let there = subst (λ (S : Register K). PlaceOf t S s p) is at in
        let inside = there.inside in
        let whole = sound.listed.settings in
        (there.is, omega arith)

    -- the track of an entered run
    pub track_was : (k : ℕ) → k < m.run_count → track_of t (take m.run_count m.runs) k ≡ track_of t m.runs k
    track_was k h = ap (λ y. y.track) (get_or-take m.run_count m.runs k _ h)

    pub on_tracks : (k : ℕ) → k < m.run_count → track_of t m.runs k < 64
    on_tracks k h =
        let e = long in
        let s = track_was k h in
        omega (arith, (sound.stored.limits.runs.each k (omega arith)).0.1.0, sound.stored.limits.few_tracks)

    pub orders_was : total (track_of t m.runs) m.run_count ≡ orders_entered t m
    orders_was = total_kept (track_of t m.runs) (track_of t (take m.run_count m.runs)) m.run_count (λ k h. sym (track_was k h))

    -- one run more
    module _ (x : Run K) (room : m.run_count < 512) where
      inside : m.run_count < length m.runs
      inside = omega (arith, sound.listed.runs, room)

      track_new : track_of t (set m.runs m.run_count x) m.run_count ≡ x.track
      track_new = ap (λ y. y.track) (get_or-set_same m.runs m.run_count x _ inside)

      track_old : (k : ℕ) → k < m.run_count → track_of t (set m.runs m.run_count x) k ≡ track_of t m.runs k
      track_old k h = ap (λ y. y.track) (get_or-set_other m.runs m.run_count k x _ (omega arith))

      pub on_tracks_more : x.track < 64 → (k : ℕ) → k < m.run_count + 1 → track_of t (set m.runs m.run_count x) k < 64
      on_tracks_more small k h =
          elim (cases_lt k m.run_count) [
            | inl l ↦ (let e = track_old k l in let s = on_tracks k l in omega arith)
            | inr l ↦ (let q : k ≡ m.run_count = omega arith in let z = ap (track_of t (set m.runs m.run_count x)) q in let e = track_new in omega arith)
          ]

      pub orders_more : total (track_of t (set m.runs m.run_count x)) (m.run_count + 1) ≡ orders_entered t m + orders_added t m x.track
      orders_more =
          let n = m.run_count in
          let f = track_of t (take n m.runs) in
          let g = track_of t (set m.runs n x) in
          let same : (k : ℕ) → k < n → g k ≡ f k = λ k h. track_old k h ∙ sym (track_was k h) in
          let a = total_more g n in
          let b = total_kept g f n same in
          let c : count g (g n) n ≡ count g x.track n = ap (λ (y : ℕ). count g y n) track_new in
          let d = count_kept g f x.track n same in omega arith

      -- the orders before the run, and with those that it brings, counted in the lists as they are then
      pub orders_parts : (first all : ℕ) (runs runs' : List (Run K)) → runs ≡ m.runs → first ≡ total (track_of t runs) m.run_count → runs' ≡ set m.runs m.run_count x → all ≡ total (track_of t runs') (m.run_count + 1) → (first ≡ orders_entered t m) × (all ≡ orders_entered t m + orders_added t m x.track)
      orders_parts first all runs runs' is before written after = (
        before ∙ ap (λ xs. total (track_of t xs) m.run_count) is ∙ orders_was,
        after ∙ ap (λ xs. total (track_of t xs) (m.run_count + 1)) written ∙ orders_more,
      )
