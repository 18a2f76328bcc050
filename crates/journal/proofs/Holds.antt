-- Holds and releases as steps from books to books: the slip of a held run lies in its slot.
use Rattle.std.proofs.Common.{◌≡◌, ℕ, zero, suc, ◌<◌, ◌≤◌, true, false, List, [], ◌∷◌, ◌++◌, map, length, get_or, take, set, is_some, Some, None, Ok, Err, Option, sym, refl, ap, ◌∙◌, subst, inl, inr, arith, length-set, set-set}
use Rattle.std.proofs.lemmas.Bool.{false≢true, cases_eq}
use Rattle.std.proofs.lemmas.List.{length-take, get_or-set_same, get_or-set_other, map-set}
use lib.Seq.{set-get_or}
use Rattle.kinds.specs.Time.{Time, Laws}
use Rattle.network.specs.Network.{Least}
use Rattle.network.specs.Reckoning.{at}
use Rattle.network.specs.Refusals.{Row, Passed, First}
use Rattle.records.specs.declared.Run.{Run}
use Rattle.records.specs.Lent.{Lists}
use Rattle.records.specs.Records.{run_at}
use Rattle.records.specs.Register.{Register, Memory, register_of}
use Rattle.records.specs.Stored.{Stored, Limits}
use Rattle.force.specs.Constraints.{in_force}
use Rattle.force.specs.declared.work.Work.{Work}
use Rattle.force.specs.Work.{work_lengths}
use Rattle.rules.specs.Rows.{Given, hold_rows, release_rows, Over}
use Rattle.rules.specs.declared.faults.PlanFault.{PlanFault}
use Rattle.rules.specs.declared.faults.PlanFault.TheVariants as refused
use Rattle.rules.proofs.Rows.{passed_front, passed_back, hold_passed}
use Rattle.plan.specs.declared.states.Open.{Open}
use Rattle.plan.specs.declared.states.Slip.{Slip}
use Rattle.plan.specs.States.{memory}
use Rattle.plan.specs.Steps.{holding, hold_memory}
use Rattle.plan.specs.Calls.{Lengths, lengths, open_call_rows, ring_rows, Reckons}
use Rattle.plan.proofs.Reckoned.{failed, taken as took}
use Rattle.registers.specs.Steps.{Same, hold}
use Rattle.registers.proofs.Sames.{same_trans}
use Rattle.registers.proofs.Kept.{hold_kept}
use Rattle.registers.proofs.Agrees.{steps_of}
use Rattle.registers.proofs.Rows.{hold_match}
use Rattle.registers.proofs.Stays.{limits_kept_lem}
use Rattle.journal.specs.declared.calls.Call.TheVariants as call
use Rattle.journal.specs.declared.calls.Answer.TheVariants as answer
use Rattle.journal.specs.declared.calls.CallFault.TheVariants as fault
use Rattle.journal.specs.declared.calls.Plan.TheVariants as stage
use Rattle.journal.specs.declared.memories.Memories.{Memories}
use Rattle.journal.specs.Books.{Books, taken}
use Rattle.journal.specs.Memories.{AllListed, sizes, lists_held, state}
use Rattle.journal.specs.Rows.{call_rows}
use Rattle.journal.specs.Promise.{Stands, Told}
use Rattle.network.proofs.Refusals.{passed_more}
use Rattle.journal.proofs.Rules.{hold_under}
use Rattle.journal.proofs.Reckonings.{reckoned_taken, reckoned_refused}
use Rattle.journal.proofs.States.{state_of, same_state}
use Rattle.journal.proofs.Controls.{records, opened, limits, shared, long_was, long_runs, off, fronts_pass, fronts_first, open_kept, stored_by, control_refused}

length_map : {X Y : Type 0} (f : X → Y) (xs : List X) → length (map f xs) ≡ length xs
length_map f [] = refl
length_map f (x ∷ xs) = ap suc (length_map f xs)

pub get_or_map : (xs : List (Option Slip)) (i : ℕ) → get_or (map is_some xs) i false ≡ is_some (get_or xs i None)
get_or_map [] i = refl
get_or_map (x ∷ xs) zero = refl
get_or_map (x ∷ xs) (suc i) = get_or_map xs i

some_same : {X : Type 0} {x y : X} → Some x ≡ Some y → x ≡ y
some_same e = cc

none_some : {X : Type 0} {x : X} → None ≡ Some x → ⊥
none_some e = let z : ◌≡◌ {A = ℕ} 0 1 = cc in omega arith

pub some_of : {X : Type 0} (o : Option X) → is_some o ≡ true → (x : X) × (o ≡ Some x)
some_of None e = absurd (false≢true e)
some_of (Some x) e = (x, refl)

pub none_of : {X : Type 0} (o : Option X) → is_some o ≡ false → o ≡ None
none_of None e = refl
none_of (Some x) e = absurd (false≢true (sym e))

-- a run that is entered has a slot
pub kept_inside : {X : Type 0} (n : ℕ) (xs : List X) (r slots : ℕ) → r < length (take n xs) → length xs ≡ 512 → slots ≡ 512 → r < slots
kept_inside n xs r slots h e f = let z = length-take n xs in omega (arith, z)

-- an empty slot that is emptied stays as it is
pub emptied : {X : Type 0} (xs : List (Option X)) (i : ℕ) → get_or xs i None ≡ None → set xs i None ≡ xs
emptied xs i e = ap (set xs i) (sym e) ∙ set-get_or xs i None

pub slot_inside : {X : Type 0} (xs : List (Option X)) (i : ℕ) (x : X) → get_or xs i None ≡ Some x → i < length xs
slot_inside [] i x e = absurd (none_some e)
slot_inside (y ∷ ys) zero x e = omega arith
slot_inside (y ∷ ys) (suc i) x e = let h = slot_inside ys i x e in omega arith

module _ {K : Type 0} (t : Time K) (laws : Laws t) (o : Open) (m : Memories K) (work : Work K) (listed : AllListed (sizes m work)) (B : Books K) (st : Stands t B (state (stage.Open o) m)) (ring : List ℕ) (trial : List K) where
  abbrev before : Memory K
  before = memory o.numbers (lists_held m)

  abbrev was : Register K
  was = register_of t before

  abbrev w : Lengths
  w = lengths (length m.times.now) (length m.ring.now) (work_lengths work)

  abbrev rows : List Row
  rows = open_call_rows t w before m.times.now

  yes_open : B.opened ≡ true
  yes_open = opened t laws o m work listed B st

  passes : Passed rows
  passes = off t laws o m work listed B st w listed.work

  good_limits : Limits t B.register
  good_limits = limits t laws o m work listed B st

  long : length B.register.runs ≡ o.numbers.runs
  long = long_runs t laws o m work listed B st

  length_was : length was.runs ≡ o.numbers.runs
  length_was = long_was t laws o m work listed B st

  few_runs : o.numbers.runs ≤ 512
  few_runs = st.stored.few_runs

  long_slips : length m.slips.now ≡ 512
  long_slips = listed.slips

  long_books : length B.slips ≡ 512
  long_books = ap length (sym st.slips) ∙ length_map is_some m.slips.now ∙ long_slips

  pub held_same : (r : ℕ) (until : Option K) → r < o.numbers.runs → Same t (register_of t (hold_memory t before r until)) (hold t B.register r until)
  held_same r until h = same_trans t _ _ _ ((steps_of t before st.stored (records t laws o m work listed B st)).hold r until h) (hold_kept t was B.register st.same r until)

  -- the plan with run r held until a time or free, and its slot so
  slot_stands : (r : ℕ) (until : Option K) (slot : Option Slip) (r' : Lists K) (times' : List K) (slips' : List (Option Slip)) → memory o.numbers r' ≡ hold_memory t before r until → slips' ≡ set m.slips.now r slot
      → r < o.numbers.runs → Limits t (hold t B.register r until) → Least t (in_force t (hold t B.register r until)) (at t times')
      → (is_some slot ≡ true → Given until) × (Given until → is_some slot ≡ true) → ((x : Slip) → slot ≡ Some x → (x.plan ≡ B.number) × (x.run ≡ r))
      → Stands t (record { number = B.number; opened = B.opened; register = hold t B.register r until; slips = set B.slips r (is_some slot) }) (state_of (stage.Open o) r' times' slips')
  slot_stands r until slot r' times' slips' written put h good least both mine =
      let z = long in
      let y = few_runs in
      let x = long_books in
      let u = long_slips in
      let slips = m.slips.now in
      let same = held_same r until h in
      let stored = stored_by t laws o m work listed B st (hold_memory t before r until) (hold t B.register r until) refl refl refl same good in
      let P : Memory K → Type 0 = λ v. Stored t v × Same t (register_of t v) (hold t B.register r until) in
      let here : P (memory o.numbers r') = subst P (sym written) (stored, same) in
      record {
        number = st.number;
        opened = st.opened;
        stored = here.0;
        same = here.1;
        drafted = λ e. absurd (false≢true (sym e ∙ yes_open));
        shows = λ _. least;
        slips = ap (map is_some) put ∙ map-set is_some slips r slot ∙ ap (λ bs. set bs r (is_some slot)) st.slips;
        held = λ _ i g. elim (cases_eq i r) [
          | inl q ↦ (
              let P : ℕ → Type 0 = λ k. (get_or (set B.slips r (is_some slot)) k false ≡ true → Given (run_at t (hold t B.register r until).runs k).hold) × (Given (run_at t (hold t B.register r until).runs k).hold → get_or (set B.slips r (is_some slot)) k false ≡ true) in
              let slot_is = get_or-set_same B.slips r (is_some slot) false (omega arith) in
              let hold_is = ap (λ y. y.hold) (get_or-set_same B.register.runs r (holding (run_at t B.register.runs r) until) (run_at t [] 0) (omega arith)) in
              let G : Option K → Type 0 = Given in
              subst P (sym q) ((λ e. subst G (sym hold_is) (both.0 (sym slot_is ∙ e))), (λ given. slot_is ∙ both.1 (subst G hold_is given))))
          | inr ne ↦ (
              let inside : i < length B.register.runs = omega (arith, length-set B.register.runs r (holding (run_at t B.register.runs r) until)) in
              let old = st.held yes_open i inside in
              let slot_is = get_or-set_other B.slips r i (is_some slot) false ne in
              let hold_is = ap (λ y. y.hold) (get_or-set_other B.register.runs r i (holding (run_at t B.register.runs r) until) (run_at t [] 0) ne) in
              let G : Option K → Type 0 = Given in
              ((λ e. subst G (sym hold_is) (old.0 (sym slot_is ∙ e))), (λ given. slot_is ∙ old.1 (subst G hold_is given))))
        ];
        own = λ i x e₀. (
            let e = ap (λ ss. get_or ss i None) (sym put) ∙ e₀ in
            let long' = length-set B.register.runs r (holding (run_at t B.register.runs r) until) in
            elim (cases_eq i r) [
              | inl q ↦ (
                  let here = get_or-set_same slips r slot None (omega arith) in
                  let is : slot ≡ Some x = sym here ∙ ap (λ k. get_or (set slips r slot) k None) (sym q) ∙ e in
                  let f = mine x is in
                  (f.0, f.1 ∙ sym q, omega arith))
              | inr ne ↦ (let f = st.own i x (sym (get_or-set_other slips r i slot None ne) ∙ e) in let g = f.2 in (f.0, f.1, omega arith))
            ]);
      }

  -- a taken hold names a run that is entered
  hold_known : (r : ℕ) (until : K) → Passed (hold_rows t was r until) → r < o.numbers.runs
  hold_known r until fine = let a = length_was in let known = (hold_passed t was r until fine).known in omega arith

  module _ (r' : Lists K) (times' : List K) where
    pub hold_step : (r : ℕ) (until : K) (s : Slip) (slips' : List (Option Slip)) → Reckons t (rows ++ hold_rows t was r until) (register_of t (hold_memory t before r (Some until))) m.times.now times' m.ring.now ring (took Slip s) → memory o.numbers r' ≡ hold_memory t before r (Some until) → slips' ≡ set m.slips.now r (Some s) → (s.plan ≡ o.numbers.number) × (s.run ≡ r)
        → Told t (sizes m work) B (call.Hold r until) (Ok answer.Done) ring trial × Stands t (taken t B (call.Hold r until)) (state_of (stage.Open o) r' times' slips')
    hold_step r until s slips' k written put mine =
        let fine = passed_back rows (hold_rows t was r until) (passed_front (rows ++ hold_rows t was r until) (ring_rows t (register_of t (hold_memory t before r (Some until)))) k.answers) in
        let inside = hold_known r until fine in
        let res = reckoned_taken t rows (hold_rows t was r until) (hold_rows t B.register r until) (register_of t (hold_memory t before r (Some until))) (hold t B.register r (Some until)) passes (hold_match t was B.register st.same r until) (λ _. held_same r (Some until) inside) m.times.now times' m.ring.now ring Slip s k in
        let good = ((limits_kept_lem t).steps B.register good_limits).holding r until (((shared t laws o m work listed B st).hold r until).passed fine) in (
          record { answers = fronts_pass t laws o m work listed B st (hold_rows t B.register r until ++ ring_rows t (hold t B.register r (Some until))) res.0; carried = refl; named = tt },
          slot_stands r (Some until) (Some s) r' times' slips' written put inside good res.1 ((λ _. tt), (λ _. refl)) (λ x e. (let q = some_same e in (ap (λ y. y.plan) (sym q) ∙ mine.0 ∙ st.number, ap (λ y. y.run) (sym q) ∙ mine.1))),
        )

    pub hold_refused : (r : ℕ) (until : K) (f : PlanFault) → Reckons t (rows ++ hold_rows t was r until) (register_of t (hold_memory t before r (Some until))) m.times.now times' m.ring.now ring (failed Slip f) → r' ≡ lists_held m
        → Told t (sizes m work) B (call.Hold r until) (Err (fault.Plan f)) ring trial × Stands t B (state_of (stage.Open o) r' times' m.slips.now)
    hold_refused r until f k e =
        let own : Register K → List Row = λ R. hold_rows t R r until in (
          control_refused t laws o m work listed B st ring trial w listed.work (call.Hold r until) own (register_of t (hold_memory t before r (Some until))) (hold t B.register r (Some until)) refl refl (hold_match t was B.register st.same r until) (hold_under t was r until) (λ fine. held_same r (Some until) (hold_known r until fine)) Slip f m.times.now times' k,
          open_kept t laws o m work listed B st r' times' e k.shows,
        )

  module _ (r : ℕ) (s : Slip) (slot : get_or m.slips.now r None ≡ Some s) where
    mine : (s.plan ≡ B.number) × (s.run ≡ r) × (r < length B.register.runs)
    mine = st.own r s slot

    full : get_or B.slips r false ≡ true
    full = ap (λ bs. get_or bs r false) (sym st.slips) ∙ get_or_map m.slips.now r ∙ ap is_some slot

    inside : r < o.numbers.runs
    inside = let z = long in let h = mine.2 in omega arith

    given : Given (run_at t was.runs s.run).hold
    given =
        let P : ℕ → Type 0 = λ k. Given (run_at t was.runs k).hold in
        let Q : List (Run K) → Type 0 = λ rs. Given (run_at t rs r).hold in
        subst P (sym mine.1) (subst Q (sym st.same.runs) ((st.held yes_open r mine.2).0 full))

    pub release_passes : Passed (release_rows t was o.numbers.number s.plan s.run)
    release_passes =
        let z = length_was in
        let h = inside in
        let e = mine.1 in
        ((λ ne. ne (mine.0 ∙ sym st.number)), ((λ past. omega arith), ((λ none. none given), tt)))

    pub release_off : Passed (rows ++ release_rows t was o.numbers.number s.plan s.run)
    release_off = passed_more rows (release_rows t was o.numbers.number s.plan s.run) passes release_passes

    freed : Same t (register_of t (hold_memory t before s.run None)) (hold t B.register r None)
    freed =
        let P : ℕ → Type 0 = λ k. Same t (register_of t (hold_memory t before k None)) (hold t B.register r None) in
        subst P (sym mine.1) (held_same r None inside)

    passes_on : Passed (ring_rows t (hold t B.register r None)) → Passed (call_rows t (sizes m work) B (call.Release r))
    passes_on p = ((λ e. false≢true (sym e ∙ yes_open)), ((λ e. false≢true (sym e ∙ full)), ((λ no_lists. no_lists listed), p)))

    first_on : (n p : ℕ) → First (ring_rows t (hold t B.register r None)) n p → First (call_rows t (sizes m work) B (call.Release r)) n p
    first_on n p f = inr ((λ e. false≢true (sym e ∙ yes_open)), inr ((λ e. false≢true (sym e ∙ full)), inr ((λ no_lists. no_lists listed), f)))

    module _ (r' : Lists K) (times' : List K) (slips' : List (Option Slip)) where
      pub release_step : Reckons t (rows ++ release_rows t was o.numbers.number s.plan s.run) (register_of t (hold_memory t before s.run None)) m.times.now times' m.ring.now ring (took (Unit {0}) tt) → memory o.numbers r' ≡ hold_memory t before s.run None → slips' ≡ set m.slips.now r None
          → Told t (sizes m work) B (call.Release r) (Ok answer.Done) ring trial × Stands t (taken t B (call.Release r)) (state_of (stage.Open o) r' times' slips')
      release_step k written left =
          let res = reckoned_taken t (rows ++ release_rows t was o.numbers.number s.plan s.run) [] [] (register_of t (hold_memory t before s.run None)) (hold t B.register r None) release_off tt (λ _. freed) m.times.now times' m.ring.now ring (Unit {0}) tt k in
          let good = ((limits_kept_lem t).steps B.register good_limits).releasing o.numbers.number s.plan r (((shared t laws o m work listed B st).release o.numbers.number s.plan r).passed (let P : ℕ → Type 0 = λ q. Passed (release_rows t was o.numbers.number s.plan q) in subst P mine.1 release_passes)) in (
            record { answers = passes_on res.0; carried = refl; named = tt },
            slot_stands r None None r' times' slips' (written ∙ ap (λ q. hold_memory t before q None) mine.1) left inside good res.1 ((λ e. absurd (false≢true e)), (λ none. absurd none)) (λ x e. absurd (none_some e)),
          )

      -- refused, the slip is back in its slot
      pub release_refused : (x : Slip) (f : PlanFault) (picked : List (Option Slip)) → Reckons t (rows ++ release_rows t was o.numbers.number s.plan s.run) (register_of t (hold_memory t before s.run None)) m.times.now times' m.ring.now ring (failed (Unit {0}) f) → r' ≡ lists_held m → x ≡ s → picked ≡ set m.slips.now r None → slips' ≡ set picked r (Some x)
          → Told t (sizes m work) B (call.Release r) (Err (fault.Plan f)) ring trial × Stands t B (state_of (stage.Open o) r' times' slips')
      release_refused x f picked k e is left put =
          let res = reckoned_refused t (rows ++ release_rows t was o.numbers.number s.plan s.run) [] [] (register_of t (hold_memory t before s.run None)) (hold t B.register r None) release_off tt (λ _. freed) m.times.now times' m.ring.now ring tt (Unit {0}) f k in
          let back = put ∙ ap (λ ss. set ss r (Some x)) left ∙ ap (λ y. set (set m.slips.now r None) r (Some y)) is ∙ set-set m.slips.now r None (Some s) ∙ ap (set m.slips.now r) (sym slot) ∙ set-get_or m.slips.now r None in (
            record { answers = first_on _ _ res.0; carried = tt; named = res.1 },
            subst (Stands t B) (same_state refl (sym e) (sym k.shows) (sym back)) st,
          )

  -- a run whose slot is empty is not released
  pub release_misused : (r : ℕ) → get_or m.slips.now r None ≡ None → Told t (sizes m work) B (call.Release r) (Err fault.Misuse) ring trial
  release_misused r e = record {
    answers = inr ((λ c. false≢true (sym c ∙ yes_open)), inl (ap (λ bs. get_or bs r false) (sym st.slips) ∙ get_or_map m.slips.now r ∙ ap is_some e, refl, refl));
    carried = tt;
    named = tt;
  }

  -- a run whose slip is kept is held already, and a time over its size is told first
  pub hold_over : (r : ℕ) (until : K) → is_some (get_or m.slips.now r None) ≡ true → Over t until → Told t (sizes m work) B (call.Hold r until) (Err (fault.Plan refused.Time)) ring trial
  hold_over r until some over =
      let s = some_of (get_or m.slips.now r None) some in
      let inside = (mine r s.0 s.1).2 in
      let own = hold_rows t B.register r until ++ ring_rows t (hold t B.register r (Some until)) in
      record {
        answers = fronts_first t laws o m work listed B st own 4 0 (inr ((λ past. omega arith), inl (over, refl, refl)));
        carried = tt;
        named = tt;
      }

  pub hold_again : (r : ℕ) (until : K) → is_some (get_or m.slips.now r None) ≡ true → (Over t until → ⊥) → Told t (sizes m work) B (call.Hold r until) (Err (fault.Plan refused.Already)) ring trial
  hold_again r until some fits =
      let s = some_of (get_or m.slips.now r None) some in
      let inside = (mine r s.0 s.1).2 in
      let own = hold_rows t B.register r until ++ ring_rows t (hold t B.register r (Some until)) in
      record {
        answers = fronts_first t laws o m work listed B st own 8 0 (inr ((λ past. omega arith), inr (fits, inl ((st.held yes_open r inside).0 (full r s.0 s.1), refl, refl))));
        carried = tt;
        named = tt;
      }
