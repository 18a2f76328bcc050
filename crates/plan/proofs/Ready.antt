-- What is known once no row before the ring applies.
use Rattle.std.proofs.Common.{◌≡◌, ℕ, ◌*◌, ◌/◌, ◌%◌, ◌<◌, ◌≤◌, true, false, List, length, take, set, IfSome, IfOk, Some, None, Ok, Err, Option, Result, refl, subst, inl, inr, arith, MatchOption}
use Rattle.std.proofs.lemmas.Bool.{cases_lt, cases_Bool}
use Rattle.std.proofs.lemmas.List.{get_or-take}
use Rattle.kinds.specs.Time.{Time}
use Rattle.network.specs.Refusals.{Answers, Passed}
use Rattle.records.specs.declared.Run.{Run}
use Rattle.records.specs.Records.{run_at}
use Rattle.records.specs.Register.{Register, Memory, register_of}
use Rattle.records.specs.Stored.{RunStored}
use Rattle.rules.specs.declared.faults.PlanFault.{PlanFault}
use Rattle.rules.specs.Faults.{plan_number, plan_place}
use Rattle.rules.specs.Rows.{SoundOpen, Over, Untimely, Given, report_rows, hold_rows, release_rows, turning_rows, setting_place, PlaceOf}
use Rattle.rules.proofs.Rows.{setting_flag, turning_set}
use Rattle.rules.specs.declared.switches.Switch.{Switch}
use Rattle.plan.specs.Steps.{with_runs, reported, holding, report_memory, hold_memory, switch_memory}
use Rattle.plan.specs.Calls.{Lengths, Listed, Ready}
use Rattle.plan.proofs.Stays.{long_runs, stored_settings, stored_run, reported_stored, holding_stored}

not_given : {X : Type 0} (o : Option X) → (Given o → ⊥) → o ≡ None
not_given None f = refl
not_given (Some x) f = absurd (f tt)

module _ {K : Type 0} (t : Time K) where
  not_over : (y : K) → (Over t y → ⊥) → t.size y ≤ 1000000
  not_over y f = elim (cases_lt 1000000 (t.size y)) [ inl l ↦ absurd (f l) | inr l ↦ l ]

  arrival_fits : (d : Option K) (at : K) → (IfSome d (λ y. t.before y at ≡ false) → ⊥) → MatchOption d ⊥ (λ y. t.before y at ≡ true)
  arrival_fits None at f = f tt
  arrival_fits (Some y) at f = elim (cases_Bool (t.before y at)) [ inl h ↦ h | inr h ↦ absurd (f h) ]

  module _ (l : Lengths) (m : Memory K) (shown : List K) (listed : Listed l) (sound : SoundOpen t m shown) where
    long : length (take m.run_count m.runs) ≡ m.run_count
    long = long_runs t m sound.listed.runs sound.stored

    run_is : (r : ℕ) → r < m.run_count → run_at t (take m.run_count m.runs) r ≡ run_at t m.runs r
    run_is r h = get_or-take m.run_count m.runs r _ h

    run_good : (r : ℕ) → r < m.run_count → RunStored t (length (take m.track_count m.tracks)) r (run_at t m.runs r)
    run_good r h = let e = long in let P : Run K → Type 0 = RunStored t (length (take m.track_count m.tracks)) r in subst P (run_is r h) (sound.stored.limits.runs.each r (omega arith))

    changed : (r : ℕ) (x : Run K) → r < m.run_count → x.track ≡ (run_at t m.runs r).track → RunStored t (length (take m.track_count m.tracks)) r x → Ready t l m (with_runs m (set m.runs r x))
    changed r x h e good = record { listed = listed; records = sound.listed; stored = stored_run t m r x sound.listed.runs sound.stored h e good }

    pub report_ready : (v : ℕ) (at : K) (r : Result (Unit {0}) PlanFault) → Answers plan_number plan_place (report_rows t (register_of t m) v at) r → IfOk r (λ _. (v / 2 < length m.runs) × Ready t l m (report_memory t m v at))
    report_ready v at (Err f) a = tt
    report_ready v at (Ok x) a =
        let e = long in
        let few = sound.stored.few_runs in
        let whole = sound.listed.runs in
        let known : v < 2 * m.run_count = elim (cases_lt v (2 * length (take m.run_count m.runs))) [ inl h ↦ omega arith | inr h ↦ absurd (a.0 h) ] in
        let inside : v / 2 < m.run_count = omega arith in
        let sized = not_over at a.1.0 in
        let is = run_is (v / 2) inside in
        let timely : Untimely t (run_at t m.runs (v / 2)) (v % 2) at → ⊥ = (let P : Run K → Type 0 = λ y. Untimely t y (v % 2) at → ⊥ in subst P is a.1.1.0) in
        let side : v % 2 < 2 = omega arith in (
          omega arith,
          changed (v / 2) (reported (run_at t m.runs (v / 2)) (v % 2) at) inside refl
              (reported_stored t (length (take m.track_count m.tracks)) (v / 2) (v % 2) (run_at t m.runs (v / 2)) at side sized
              (λ z. not_given (run_at t m.runs (v / 2)).arrived (λ h. timely (inl (z, h))))
              (λ z. arrival_fits (run_at t m.runs (v / 2)).departed at (λ h. timely (inr (z, h))))
              (run_good (v / 2) inside)),
        )

    pub hold_ready : (r : ℕ) (until : K) (a : Result (Unit {0}) PlanFault) → Answers plan_number plan_place (hold_rows t (register_of t m) r until) a → IfOk a (λ _. (r < length m.runs) × Ready t l m (hold_memory t m r (Some until)))
    hold_ready r until (Err f) a = tt
    hold_ready r until (Ok x) a =
        let e = long in
        let few = sound.stored.few_runs in
        let whole = sound.listed.runs in
        let inside : r < m.run_count = elim (cases_lt r (length (take m.run_count m.runs))) [ inl h ↦ omega arith | inr h ↦ absurd (a.0 h) ] in
        (omega arith, changed r (holding (run_at t m.runs r) (Some until)) inside refl (holding_stored t _ r (run_at t m.runs r) (Some until) (not_over until a.1.0) (run_good r inside)))

    pub release_ready : (plan slip_plan r : ℕ) (a : Result (Unit {0}) PlanFault) → Answers plan_number plan_place (release_rows t (register_of t m) plan slip_plan r) a → IfOk a (λ _. (r < length m.runs) × Ready t l m (hold_memory t m r None))
    release_ready plan slip_plan r (Err f) a = tt
    release_ready plan slip_plan r (Ok x) a =
        let e = long in
        let few = sound.stored.few_runs in
        let whole = sound.listed.runs in
        let inside : r < m.run_count = elim (cases_lt r (length (take m.run_count m.runs))) [ inl h ↦ omega arith | inr h ↦ absurd (a.1.0 h) ] in
        (omega arith, changed r (holding (run_at t m.runs r) None) inside refl (holding_stored t _ r (run_at t m.runs r) None tt (run_good r inside)))

    turned_ready : (s : Switch) (setting p : ℕ) → Passed (turning_rows t (register_of t m) s setting) → PlaceOf t (register_of t m) s p → (p ≡ setting_place t (register_of t m) s) × (p < length m.settings) × Ready t l m (switch_memory t m s setting)
    turned_ready s setting p passed at =
        let small = setting_flag t (register_of t m) s setting (turning_set t (register_of t m) s setting passed) in
        let long = sound.listed.settings in
        let inside = at.inside in
        (at.is, omega arith, record { listed = listed; records = sound.listed; stored = stored_settings t m (setting_place t (register_of t m) s) setting small sound.stored })

    pub turning_ready : (s : Switch) (setting : ℕ) (a : Result ℕ PlanFault) → Answers plan_number plan_place (turning_rows t (register_of t m) s setting) a → (R : Register K) → R ≡ register_of t m → IfOk a (PlaceOf t R s) → IfOk a (λ p. (p ≡ setting_place t (register_of t m) s) × (p < length m.settings) × Ready t l m (switch_memory t m s setting))
    turning_ready s setting (Err f) a R is at = tt
    turning_ready s setting (Ok p) a R is at = turned_ready s setting p a (subst (λ (S : Register K). PlaceOf t S s p) is at)
