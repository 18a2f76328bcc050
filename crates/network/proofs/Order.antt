-- What the laws give of the order alone.
use Rattle.std.proofs.Common.{◌≡◌, Bool, true, false, refl}
use Rattle.std.proofs.lemmas.Bool.{both_ways}
use Rattle.kinds.specs.Time.{Time, Laws}
use Rattle.network.specs.Network.{UpTo, After}

pub is_false : (b : Bool) → (b ≡ true → ⊥) → b ≡ false
is_false true h = absurd (h refl)
is_false false h = refl

pub is_true : (b : Bool) → (b ≡ false → b ≡ true) → b ≡ true
is_true true h = refl
is_true false h = h refl

module _ {K : Type 0} {t : Time K} (laws : Laws t) where
  pub upto_refl : (a : K) → UpTo t a a
  upto_refl a = is_true _ (laws.total a a)

  pub upto_same : {a b : K} → a ≡ b → UpTo t a b
  upto_same {a} {b} e = rw e (upto_refl b)

  -- a ≤ b < x
  pub after_upto : {a b x : K} → UpTo t a b → After t x b → After t x a
  after_upto {a} {b} {x} p q = is_false _ (λ h. both_ways _ q (laws.trans x a b h p))

  -- a < b ≤ x
  pub upto_after : {a b x : K} → After t b a → UpTo t b x → After t x a
  upto_after {a} {b} {x} p q = is_false _ (λ h. both_ways _ p (laws.trans b x a q h))
