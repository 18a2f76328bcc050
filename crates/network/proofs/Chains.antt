-- Chains of arcs put together and taken apart.
use Rattle.std.proofs.Common.{◌≡◌, ℕ, zero, suc, ◌+◌, ◌*◌, ◌<◌, ◌≤◌, List, [], ◌∷◌, ◌++◌, length, get_or, sym, refl, ap, ◌∙◌, arith}
use Rattle.std.specs.List.{AllByRecursion}
use Rattle.kinds.specs.Time.{Time, Laws}
use Rattle.network.specs.declared.Arc.{Arc}
use Rattle.network.specs.Network.{UpTo, Arcs, Chain, along, ends}
use Rattle.network.specs.Reckoning.{placed}

module _ {K : Type 0} (t : Time K) (A : Arcs K) where
  pub along_append : (x : K) (p q : List A.Name) → along t A x (p ++ q) ≡ along t A (along t A x q) p
  along_append x [] q = refl
  along_append x (k ∷ p) q = ap (λ y. t.join y (A.arc k).duration) (along_append x p q)

  pub chain_append : (u w v : ℕ) (p q : List A.Name) → Chain t A w p v → Chain t A u q w → Chain t A u (p ++ q) v
  chain_append u w v [] q c d = rw (sym c) d
  chain_append u w v (k ∷ p) q c d = (c.0, c.1, chain_append u w (A.arc k).from p q c.2 d)

  pub chain_split : (u v : ℕ) (p q : List A.Name) → Chain t A u (p ++ q) v → (w : ℕ) × Chain t A w p v × Chain t A u q w
  chain_split u v [] q c = (v, refl, c)
  chain_split u v (k ∷ p) q c =
      let r = chain_split u (A.arc k).from p q c.2 in
      (r.0, (c.0, c.1, r.1), r.2)

  pub length_ends : (ks : List A.Name) → length (ends t A ks) ≡ length ks
  length_ends [] = refl
  length_ends (k ∷ ks) = ap suc (length_ends ks)

-- arcs that join events below n and have short durations
pub record Fit {K : Type 0} (t : Time K) (n : ℕ) (A : Arcs K) : Type 0 where
  pub starts : (k : A.Name) → A.Has k → (A.arc k).from < n
  pub ends : (k : A.Name) → A.Has k → (A.arc k).to < n
  pub short : (k : A.Name) → A.Has k → t.size (A.arc k).duration ≤ 100000

module _ {K : Type 0} {t : Time K} (laws : Laws t) (n : ℕ) (A : Arcs K) (fit : Fit t n A) where
  -- a chain's value grows by at most 100,000 with each arc
  pub grows : (x : K) (b u : ℕ) (ks : List A.Name) (v : ℕ) → Chain t A u ks v → t.size x ≤ b → b + length ks * 100000 ≤ 399000000 → t.size (along t A x ks) ≤ b + length ks * 100000
  grows x b u [] v c h f = omega arith
  grows x b u (k ∷ ks) v c h f =
      let p : t.size (along t A x ks) ≤ b + length ks * 100000 = grows x b u ks (A.arc k).from c.2 h (omega arith) in
      let q = fit.short k c.0 in
      omega (arith, laws.join_size (along t A x ks) (A.arc k).duration (omega arith))

  pub along_mono : (x y : K) (b u : ℕ) (ks : List A.Name) (v : ℕ) → Chain t A u ks v → t.size x ≤ b → t.size y ≤ b → b + length ks * 100000 ≤ 399000000 → UpTo t x y → UpTo t (along t A x ks) (along t A y ks)
  along_mono x y b u [] v c h i f up = up
  along_mono x y b u (k ∷ ks) v c h i f up =
      let p = grows x b u ks (A.arc k).from c.2 h (omega arith) in
      let q = grows y b u ks (A.arc k).from c.2 i (omega arith) in
      let d = fit.short k c.0 in
      laws.mono_left _ _ _ (omega arith) (omega arith) (along_mono x y b u ks (A.arc k).from c.2 h i (omega arith) up)

  -- joined along a chain from x is x then the chain's own total
  pub along_join : (x : K) (b u : ℕ) (ks : List A.Name) (v : ℕ) → Chain t A u ks v → t.size x ≤ b → b + length ks * 100000 ≤ 399000000 → along t A x ks ≡ t.join x (along t A t.none ks)
  along_join x b u [] v c h f = let z = laws.none_size in sym (laws.none_right x (omega arith))
  along_join x b u (k ∷ ks) v c h f =
      let z = laws.none_size in
      let p = grows t.none 100000 u ks (A.arc k).from c.2 z (omega arith) in
      let d = fit.short k c.0 in
      let e = along_join x b u ks (A.arc k).from c.2 h (omega arith) in
      ap (λ y. t.join y (A.arc k).duration) e ∙ laws.assoc x (along t A t.none ks) (A.arc k).duration (omega arith)

  pub ends_inside : (u v : ℕ) (ks : List A.Name) → Chain t A u ks v → AllByRecursion (λ e. e < n) (ends t A ks)
  ends_inside u v [] c = tt
  ends_inside u v (k ∷ ks) c = (fit.ends k c.0, ends_inside u (A.arc k).from ks c.2)

  pub starts_inside : (u v : ℕ) (ks : List A.Name) → Chain t A u ks v → 0 < length ks → u < n
  starts_inside u v [] c h = absurd (omega arith)
  starts_inside u v (k ∷ []) c h = rw c.2 (fit.starts k c.0)
  starts_inside u v (k ∷ (j ∷ ks)) c h = starts_inside u (A.arc k).from (j ∷ ks) c.2 (omega arith)

-- the places of a chain name arcs of the list
pub chain_known : {K : Type 0} (t : Time K) (arcs : List (Arc K)) (u v : ℕ) (ks : List ℕ) → Chain t (placed t arcs) u ks v → (j : ℕ) → j < length ks → get_or ks j 0 < length arcs
chain_known t arcs u v [] c j h = absurd (omega arith)
chain_known t arcs u v (k ∷ ks) c zero h = c.0
chain_known t arcs u v (k ∷ ks) c (suc j) h = chain_known t arcs u ((placed t arcs).arc k).from ks c.2 j (omega arith)
