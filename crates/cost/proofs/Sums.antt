-- Laws of sums. Assumes nothing.
use Rattle.std.proofs.Common.{◌≡◌, ℕ, zero, suc, ◌+◌, ◌<◌, ◌≤◌, refl, inl, inr, add-one, arith}
use Rattle.std.proofs.lemmas.Bool.{cases_lt}
use Rattle.cost.specs.Cost.{sum_below}

pub sum_more : (f : ℕ → ℕ) (n : ℕ) → sum_below (n + 1) f ≡ f n + sum_below n f
sum_more f n = rw add-one refl

pub sum_same : (f g : ℕ → ℕ) (n : ℕ) → ((k : ℕ) → k < n → f k ≡ g k) → sum_below n f ≡ sum_below n g
sum_same f g zero same = refl
sum_same f g (suc n) same =
    let e = same n (omega arith) in
    let m = sum_same f g n (λ k h. same k (omega arith)) in omega arith

pub sum_mono : (f g : ℕ → ℕ) (n : ℕ) → ((k : ℕ) → k < n → f k ≤ g k) → sum_below n f ≤ sum_below n g
sum_mono f g zero up = omega arith
sum_mono f g (suc n) up =
    let e = up n (omega arith) in
    let m = sum_mono f g n (λ k h. up k (omega arith)) in omega arith

-- nothing between adds nothing
pub sum_still : (f : ℕ → ℕ) (p n : ℕ) → p ≤ n → ((k : ℕ) → p ≤ k → k < n → f k ≡ 0) → sum_below n f ≡ sum_below p f
sum_still f p zero l none = let e : p ≡ 0 = omega arith in rw e refl
sum_still f p (suc n) l none =
    elim (cases_lt p (suc n)) [
      | inl h ↦ (let m = sum_still f p n (omega arith) (λ k a b. none k a (omega arith)) in let z = none n (omega arith) (omega arith) in omega arith)
      | inr h ↦ (let e : p ≡ suc n = omega arith in rw e refl)
    ]
