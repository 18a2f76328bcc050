-- How numbers and the values of a kind of time are spelt in bytes, and what reading bytes answers. Assumes nothing.
use Rattle.std.specs.Prelude.{◌≡◌, ℕ, suc, ◌-◌, ◌/◌, ◌%◌, ◌<◌, ◌≤◌, List, [], ◌∷◌, length, ℤ, pos, negsuc, Some, None, Option, FitsSigned, ◌≢◌}
use Rattle.std.specs.Int.{w32}
use Rattle.kinds.specs.Time.{Time}

-- a number as two bytes and as four, the high byte first
abbrev pub two : ℕ → List ℕ
two n = (n / 256 % 256) ∷ (n % 256) ∷ []

abbrev pub four : ℕ → List ℕ
four n = (n / 16777216 % 256) ∷ (n / 65536 % 256) ∷ (n / 256 % 256) ∷ (n % 256) ∷ []

-- the number that stands for a signed one in four bytes: the two's complement, so that -1 is 2 ^ 32 - 1
abbrev pub complement : ℤ → ℕ
complement (pos n) = n
complement (negsuc n) = 4294967296 - suc n

abbrev pub signed : ℤ → List ℕ
signed z = four (complement z)

-- What reading bytes answers: the value that fits and is spelt so, or none if there is none.
abbrev pub ReadsBy : {V : Type 0} → (V → Type 0) → (V → List ℕ) → List ℕ → Option V → Type 0
ReadsBy fits spelt bytes None = (v : _) → fits v → spelt v ≢ bytes
ReadsBy fits spelt bytes (Some v) = fits v × (spelt v ≡ bytes)

abbrev pub ReadsTwo : List ℕ → Option ℕ → Type 0
ReadsTwo = ReadsBy (λ n. n < 65536) two

abbrev pub ReadsFour : List ℕ → Option ℕ → Type 0
ReadsFour = ReadsBy (λ n. n < 4294967296) four

abbrev pub ReadsSigned : List ℕ → Option ℤ → Type 0
ReadsSigned = ReadsBy (FitsSigned w32) signed

-- How a kind of time is spelt: the code that a book names it by, how many bytes each value takes, and which.
pub record Spelling (K : Type 0) : Type 0 where
  pub code : ℕ
  pub width : ℕ
  pub spelt : K → List ℕ

-- The laws of a spelling: the code is one byte, no value takes more than 8 bytes, every value takes the same number of them, and
-- no two values of a size up to 400,000,000 are spelt alike.
pub record Spells {K : Type 0} (t : Time K) (s : Spelling K) : Type 0 where
  pub coded : s.code < 256
  pub narrow : s.width ≤ 8
  pub wide : (v : K) → length (s.spelt v) ≡ s.width
  pub once : (v w : K) → t.size v ≤ 400000000 → t.size w ≤ 400000000 → s.spelt v ≡ s.spelt w → v ≡ w

-- What reading a value answers: the one of a size up to 400,000,000 that is spelt so, or none if there is none.
abbrev pub Reads : {K : Type 0} → Time K → Spelling K → List ℕ → Option K → Type 0
Reads t s = ReadsBy (λ v. t.size v ≤ 400000000) s.spelt
