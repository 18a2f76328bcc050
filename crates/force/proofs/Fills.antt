-- Floors, run by run and event by event.
use Rattle.std.proofs.Common.{◌≡◌, ℕ, ◌+◌, ◌*◌, ◌/◌, ◌%◌, ◌<◌, List, length, set, sym, refl, ap, ◌∙◌, inl, inr, arith, length-set, below_more}
use Rattle.std.proofs.lemmas.List.{get_or-set_same, get_or-set_other}
use Rattle.std.proofs.lemmas.Bool.{cases_eq, eq-eqb, ne_eqb}
use Rattle.kinds.specs.Time.{Time}
use Rattle.network.specs.Reckoning.{at}
use Rattle.records.specs.Register.{Register}
use Rattle.force.specs.Force.{run_in}
use Rattle.force.specs.Floors.{departure_floor_lem, arrival_floor_lem, floor_of}
use Rattle.force.specs.Added.{FloorsOf, Filled}

module _ {K : Type 0} (t : Time K) (R : Register K) where
  pub floors_more : (r : ℕ) (xs : List K) (d a : K) → 2 * r + 1 < length xs → d ≡ departure_floor_lem t (run_in t R r) → a ≡ arrival_floor_lem t (run_in t R r) → FloorsOf t R r xs → FloorsOf t R (r + 1) (set (set xs (2 * r) d) (2 * r + 1) a)
  floors_more r xs d a room is_d is_a old =
      let ys = set xs (2 * r) d in
      let long : length ys ≡ length xs = length-set xs (2 * r) d in
      let other : (k : ℕ) → k < 2 * r → at t (set ys (2 * r + 1) a) k ≡ at t xs k =
      λ k h. get_or-set_other ys (2 * r + 1) k a _ (omega arith) ∙ get_or-set_other xs (2 * r) k d _ (omega arith) in
      record {
        departures = below_more (λ k. at t (set ys (2 * r + 1) a) (2 * k) ≡ departure_floor_lem t (run_in t R k)) r
            (λ k h. other (2 * k) (omega arith) ∙ old.departures k h)
            (get_or-set_other ys (2 * r + 1) (2 * r) a _ (omega arith) ∙ get_or-set_same xs (2 * r) d _ (omega arith) ∙ is_d);
        arrivals = below_more (λ k. at t (set ys (2 * r + 1) a) (2 * k + 1) ≡ arrival_floor_lem t (run_in t R k)) r
            (λ k h. other (2 * k + 1) (omega arith) ∙ old.arrivals k h)
            (get_or-set_same ys (2 * r + 1) a _ (omega arith) ∙ is_a);
      }

  -- the floor of an even event, and of an odd one
  pub floor_even : (v : ℕ) → v % 2 ≡ 0 → floor_of t R v ≡ departure_floor_lem t (run_in t R (v / 2))
  floor_even v e = rw (eq-eqb (v % 2) 0 e) refl

  pub floor_odd : (v : ℕ) → (v % 2 ≡ 0 → ⊥) → floor_of t R v ≡ arrival_floor_lem t (run_in t R (v / 2))
  floor_odd v e = rw (ne_eqb (v % 2) 0 e) refl

  pub filled : (floors : List K) → FloorsOf t R (length R.runs) floors → Filled t R floors
  filled floors h = record {
    each = λ v inside. elim (cases_eq (v % 2) 0) [
      | inl e ↦ (let s : v ≡ 2 * (v / 2) = omega arith in ap (at t floors) s ∙ h.departures (v / 2) (omega arith) ∙ sym (floor_even v e))
      | inr e ↦ (let s : v ≡ 2 * (v / 2) + 1 = omega arith in ap (at t floors) s ∙ h.arrivals (v / 2) (omega arith) ∙ sym (floor_odd v e))
    ];
  }
