-- What a test decided.
use Rattle.std.proofs.Common.{◌≡◌, Bool, true, false, Decides, subst}
use Rattle.std.proofs.lemmas.Bool.{both_ways}

-- a test that failed
pub unless : {b : Bool} {P : Type 0} → Decides b P → b ≡ false → P → ⊥
unless d e p = both_ways _ e (d.1 p)

-- a test that held, where its failure is what a row names
pub holds : {b : Bool} {P : Type 0} → Decides b P → b ≡ true → (P → ⊥) → ⊥
holds d e n = n (d.0 e)

-- a decision about a value is one about its equal
pub decides_at : {X : Type 0} (P : X → Type 0) {b : Bool} {x y : X} → x ≡ y → Decides b (P x) → Decides b (P y)
decides_at P {b} e d = let Q : _ → Type 0 = λ z. Decides b (P z) in subst Q e d
