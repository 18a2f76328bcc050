-- Which row answers a call that reckons: its own, or the ring's behind those that do not apply.
use Rattle.std.proofs.Common.{◌≡◌, ℕ, true, ◌⊎◌, List, [], ◌∷◌, refl, inl, inr, arith}
use Rattle.kinds.specs.Time.{Time}
use Rattle.network.specs.Network.{NoTable}
use Rattle.network.specs.Refusals.{Row, row, Passed}
use Rattle.network.proofs.Refusals.{passed_more, first_more}
use Rattle.records.specs.Register.{Register}
use Rattle.force.specs.Constraints.{in_force}
use Rattle.rules.specs.declared.switches.Switch.TheVariants.{Order}
use Rattle.rules.specs.Rows.{Departed, TooLate, setting_rows, turning_rows}
use Rattle.plan.specs.Calls.{ring_rows}
use Rattle.worked.specs.Words.{Shows, Taken, Refused}
use Rattle.worked.proofs.Rings.{is_order, ordered}

pub neither : {A B : Type 0} → (A → ⊥) → (B → ⊥) → A ⊎ B → ⊥
neither f g (inl a) = f a
neither f g (inr b) = g b

module _ {K : Type 0} (t : Time K) where
  -- where least times are shown there is no ring
  pub taken_by : {times : List K} {cost : ℕ} (rows : List Row) (R : Register K) → Passed rows → Shows t R times cost → Taken t rows R
  taken_by rows R passed shows = passed_more rows (ring_rows t R) passed ((λ none. none _ shows.least.table shows.least.meets), tt)

  pub ring_refuses : (rows : List Row) (R : Register K) → Passed rows → NoTable t (in_force t R) → Refused t rows R 12
  ring_refuses rows R passed none = first_more rows (ring_rows t R) 12 0 passed (inl (none, refl, refl))

  -- an order that is not turned yet
  pub setting_by : (R : Register K) (i j : ℕ) → is_order t R i j ≡ true → R.order i j ≡ 0 → Passed (setting_rows t R (Order i j) 1)
  setting_by R i j h e =
      let o = ordered t R i j h in
      let l = o.below in
      let m = o.inside in
      ((λ p. omega arith), ((λ p. omega arith), ((λ p. omega arith), ((λ p. p o.shared), ((λ p. omega arith), ((λ p. omega arith), tt))))))

  -- and neither of the runs has departed
  pub turning_by : (R : Register K) (i j : ℕ) → is_order t R i j ≡ true → R.order i j ≡ 0 → (Departed t R i → ⊥) → (Departed t R j → ⊥) → Passed (turning_rows t R (Order i j) 1)
  turning_by R i j h e f g = passed_more (setting_rows t R (Order i j) 1) (row 9 0 (TooLate t R (Order i j)) ∷ []) (setting_by R i j h e) (neither f g, tt)
