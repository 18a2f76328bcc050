-- From what a call on a plan promises of its memory to what the list promises of its books.
use Rattle.std.proofs.Common.{ℕ, ◌⊎◌, List, [], ◌∷◌, ◌++◌, Err, inl, inr}
use Rattle.kinds.specs.Time.{Time}
use Rattle.network.specs.declared.faults.NetworkFault.TheVariants as network
use Rattle.network.specs.Network.{Least, NoTable}
use Rattle.network.specs.Reckoning.{at}
use Rattle.network.specs.Refusals.{Row, row, Passed, First}
use Rattle.network.proofs.Refusals.{Under, first_front}
use Rattle.rules.proofs.Rows.{passed_front}
use Rattle.journal.proofs.Told.{none_told}
use Rattle.records.specs.Register.{Register}
use Rattle.force.specs.Constraints.{in_force}
use Rattle.rules.specs.declared.faults.PlanFault.{PlanFault}
use Rattle.rules.specs.declared.faults.PlanFault.TheVariants as refused
use Rattle.rules.specs.Faults.{plan_number, plan_place}
use Rattle.plan.specs.Calls.{ring_rows, RingLeft, Reckons}
use Rattle.plan.proofs.Reckoned.{failed, taken}
use Rattle.registers.specs.Steps.{Same}
use Rattle.registers.proofs.Matches.{Matching, matching_refl, matching_more, matching_first}
use Rattle.registers.proofs.Reckons.{reckons_there}
use Rattle.journal.specs.declared.calls.CallFault.TheVariants as fault
use Rattle.journal.specs.Promise.{RingTold}

passed_drop : (a b c : List Row) → Passed ((a ++ b) ++ c) → Passed (b ++ c)
passed_drop [] b c p = p
passed_drop (x ∷ a) b c p = passed_drop a b c p.1

first_drop : (a b c : List Row) (n p : ℕ) → Passed a → First ((a ++ b) ++ c) n p → First (b ++ c) n p
first_drop [] b c n p off f = f
first_drop (x ∷ a) b c n p off (inl f) = absurd (off.0 f.0)
first_drop (x ∷ a) b c n p off (inr f) = first_drop a b c n p off.1 f.1

module _ {K : Type 0} (t : Time K) where
  ring_told : (R : Register K) (was ring : List ℕ) (f : PlanFault) → RingLeft t R was ring f → RingTold t R ring (Err (fault.Plan f))
  ring_told R was ring (refused.Network (network.Ring count)) h = h.0
  ring_told R was ring _ h = tt

  -- a refusal of a call's own rows, or a ring behind them
  first_split : (xs : List Row) (y : Row) (n p : ℕ) → First (xs ++ y ∷ []) n p → First xs n p ⊎ Passed xs
  first_split [] y n p f = inr tt
  first_split (x ∷ xs) y n p (inl f) = inl (inl f)
  first_split (x ∷ xs) y n p (inr f) = elim (first_split xs y n p f.1) [ inl g ↦ inl (inr (f.0, g)) | inr g ↦ inr (f.0, g) ]

  -- the rows of a call stand behind those of every call; its register in memory says the same as that of the books where they pass
  module _ (fronts own own' : List Row) (R R' : Register K) (off : Passed fronts) (match : Matching own own') (same : Passed own → Same t R R') (was times : List K) (ring_was ring : List ℕ) where
    pub reckoned_taken : (X : Type 0) (x : X) → Reckons t (fronts ++ own) R was times ring_was ring (taken X x) → Passed (own' ++ ring_rows t R') × Least t (in_force t R') (at t times)
    reckoned_taken X x k =
        let fine = passed_front own (ring_rows t R) (passed_drop fronts own (ring_rows t R) k.answers) in
        let there = reckons_there t R R' (same fine) (fronts ++ own) (fronts ++ own') was times ring_was ring (taken X x) (matching_more fronts fronts own own' (matching_refl fronts) (λ _. match)) k in
        (passed_drop fronts own' (ring_rows t R') there.answers, there.shows.0)

    pub reckoned_refused : Under 12 own → (X : Type 0) (f : PlanFault) → Reckons t (fronts ++ own) R was times ring_was ring (failed X f) → First (own' ++ ring_rows t R') (plan_number f) (plan_place f) × RingTold t R' ring (Err (fault.Plan f))
    reckoned_refused under X f k =
        elim (first_split own (row 12 0 (NoTable t (in_force t R))) (plan_number f) (plan_place f) (first_drop fronts own (ring_rows t R) _ _ off k.answers)) [
          | inl first ↦ (first_front own' (ring_rows t R') _ _ (matching_first own own' match _ _ first), none_told t R' ring own under f first)
          | inr fine ↦ (
              let there = reckons_there t R R' (same fine) (fronts ++ own) (fronts ++ own') was times ring_was ring (failed X f) (matching_more fronts fronts own own' (matching_refl fronts) (λ _. match)) k in
              (first_drop fronts own' (ring_rows t R') _ _ off there.answers, ring_told R' ring_was ring f there.names))
        ]
