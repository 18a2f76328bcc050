-- Which refusal a call returns. A call's table lists its rows by rising number. Assumes nothing.
use Rattle.std.specs.Prelude.{◌≡◌, ℕ, ◌⊎◌, List, [], ◌∷◌, Ok, Err, Result}

-- a row of the table: the number and the place that it returns, and when it applies
pub record Row : Type 1 where
  pub number : ℕ
  pub place : ℕ
  pub when : Type 0

abbrev pub row : ℕ → ℕ → Type 0 → Row
row n p w = record { number = n; place = p; when = w }

-- no row applies
abbrev pub Passed : List Row → Type 0
Passed [] = Unit {0}
Passed (x ∷ rest) = (x.when → ⊥) × Passed rest

-- the first row that applies has this number and this place
abbrev pub First : List Row → ℕ → ℕ → Type 0
First [] n p = ⊥
First (x ∷ rest) n p = (x.when × (n ≡ x.number) × (p ≡ x.place)) ⊎ ((x.when → ⊥) × First rest n p)

-- taken: no row applies; refused: the fault tells the first row that applies
abbrev pub Answers : {X E : Type 0} → (E → ℕ) → (E → ℕ) → List Row → Result X E → Type 0
Answers number place rows (Ok x) = Passed rows
Answers number place rows (Err f) = First rows (number f) (place f)
