-- An element that is looked for, found at a place or not at all.
use Rattle.std.proofs.Common.{◌≡◌, ℕ, zero, suc, ◌<◌, ◌≤◌, cond, ltb, List, [], ◌∷◌, length, get_or, sym, subst, ◌∙◌, inl, inr, arith}
use Rattle.std.proofs.lemmas.Bool.Decides.{nat_tests}
use Rattle.std.proofs.lemmas.Bool.{cases_lt}
use Rattle.std.specs.List.{Any}
use Rattle.std.proofs.lemmas.List.{get_or_default}
use Rattle.network.specs.declared.Arc.{Arc}
use Rattle.network.specs.Reckoning.{Stray, first_stray}

pub some_none : {X : Type 0} (P : X → Type 0) (d : X) (xs : List X) → ((k : ℕ) → k < length xs → P (get_or xs k d) → ⊥) → Any P xs → ⊥
some_none P d xs f s = f s.0 s.2 (subst P (sym s.3 ∙ get_or_default xs s.0 s.1 d s.2) s.4)

pub some_at : {X : Type 0} (P : X → Type 0) (d : X) (xs : List X) (k : ℕ) → k < length xs → P (get_or xs k d) → Any P xs
some_at P d xs k h p = (k, get_or xs k d, h, get_or_default xs k (get_or xs k d) d h, p)

module _ {K : Type 0} (n : ℕ) (d : Arc K) where
  le_or : (x : ℕ) → (n ≤ x → ⊥) → x < n
  le_or x f = elim (cases_lt x n) [ inl h ↦ h | inr h ↦ absurd (f h) ]

  passes : (a : Arc K) (p : ℕ) → (Stray n a → ⊥) → cond (ltb a.from n) (cond (ltb a.to n) p a.to) a.from ≡ p
  passes a p f =
      let h : a.from < n = le_or a.from (λ l. f (inl l)) in
      let i : a.to < n = le_or a.to (λ l. f (inr l)) in
      grind (arith, nat_tests)

  pub stray_from : (xs : List (Arc K)) (k : ℕ) → ((j : ℕ) → j < k → Stray n (get_or xs j d) → ⊥) → k < length xs → n ≤ (get_or xs k d).from → first_stray n xs ≡ (get_or xs k d).from
  stray_from [] k f h l = absurd (omega arith)
  stray_from (a ∷ xs) zero f h l = grind (arith, nat_tests)
  stray_from (a ∷ xs) (suc k) f h l = passes a _ (f 0 (omega arith)) ∙ stray_from xs k (λ j i. f (suc j) (omega arith)) (omega arith) l

  pub stray_to : (xs : List (Arc K)) (k : ℕ) → ((j : ℕ) → j < k → Stray n (get_or xs j d) → ⊥) → k < length xs → (get_or xs k d).from < n → n ≤ (get_or xs k d).to → first_stray n xs ≡ (get_or xs k d).to
  stray_to [] k f h i l = absurd (omega arith)
  stray_to (a ∷ xs) zero f h i l = grind (arith, nat_tests)
  stray_to (a ∷ xs) (suc k) f h i l = passes a _ (f 0 (omega arith)) ∙ stray_to xs k (λ j r. f (suc j) (omega arith)) (omega arith) i l
