-- Lists of rows that match, one by one, answer alike.
use Rattle.std.proofs.Common.{◌≡◌, ℕ, List, [], ◌∷◌, ◌++◌, Ok, Err, Result, sym, refl, ◌∙◌, inl, inr}
use Rattle.network.specs.Refusals.{Row, Passed, First, Answers}
use Rattle.registers.specs.Rows.{Answered}

-- two rows tell the same, and one applies where the other does
pub record RowMatches (x y : Row) : Type 0 where
  pub number : x.number ≡ y.number
  pub place : x.place ≡ y.place
  pub there : x.when → y.when
  pub back : y.when → x.when

-- each row matches the one at its place, where no earlier row applies
abbrev pub Matching : List Row → List Row → Type 0
Matching [] [] = Unit {0}
Matching [] (y ∷ ys) = ⊥
Matching (x ∷ xs) [] = ⊥
Matching (x ∷ xs) (y ∷ ys) = RowMatches x y × ((x.when → ⊥) → Matching xs ys)

pub matching_refl : (xs : List Row) → Matching xs xs
matching_refl [] = tt
matching_refl (x ∷ xs) = (record { number = refl; place = refl; there = λ w. w; back = λ w. w }, λ _. matching_refl xs)

pub matching_sym : (xs ys : List Row) → Matching xs ys → Matching ys xs
matching_sym [] [] m = tt
matching_sym [] (y ∷ ys) m = m
matching_sym (x ∷ xs) [] m = m
matching_sym (x ∷ xs) (y ∷ ys) m =
    (record { number = sym m.0.number; place = sym m.0.place; there = m.0.back; back = m.0.there }, λ off. matching_sym xs ys (m.1 (λ w. off (m.0.there w))))

-- the rows behind need match only where none in front applies
pub matching_more : (xs ys us vs : List Row) → Matching xs ys → (Passed xs → Matching us vs) → Matching (xs ++ us) (ys ++ vs)
matching_more [] [] us vs m k = k tt
matching_more [] (y ∷ ys) us vs m k = absurd m
matching_more (x ∷ xs) [] us vs m k = absurd m
matching_more (x ∷ xs) (y ∷ ys) us vs m k = (m.0, λ off. matching_more xs ys us vs (m.1 off) (λ p. k (off, p)))

pub matching_passed : (xs ys : List Row) → Matching xs ys → Passed xs → Passed ys
matching_passed [] [] m p = tt
matching_passed [] (y ∷ ys) m p = absurd m
matching_passed (x ∷ xs) [] m p = absurd m
matching_passed (x ∷ xs) (y ∷ ys) m p = ((λ w. p.0 (m.0.back w)), matching_passed xs ys (m.1 p.0) p.1)

pub matching_first : (xs ys : List Row) → Matching xs ys → (n p : ℕ) → First xs n p → First ys n p
matching_first [] [] m n p f = f
matching_first [] (y ∷ ys) m n p f = absurd m
matching_first (x ∷ xs) [] m n p f = absurd m
matching_first (x ∷ xs) (y ∷ ys) m n p (inl f) = inl (m.0.there f.0, f.1 ∙ m.0.number, f.2 ∙ m.0.place)
matching_first (x ∷ xs) (y ∷ ys) m n p (inr f) = inr ((λ w. f.0 (m.0.back w)), matching_first xs ys (m.1 f.0) n p f.1)

pub matching_answered : (xs ys : List Row) → Matching xs ys → Answered xs ys
matching_answered xs ys m = record { passed = matching_passed xs ys m; first = matching_first xs ys m }

-- for the answer of any call
pub answered : {X E : Type 0} (number place : E → ℕ) (xs ys : List Row) (r : Result X E) → Answered xs ys → Answers number place xs r → Answers number place ys r
answered number place xs ys (Ok x) a h = a.passed h
answered number place xs ys (Err f) a h = a.first (number f) (place f) h

pub matching_answers : {X E : Type 0} (number place : E → ℕ) (xs ys : List Row) (r : Result X E) → Matching xs ys → Answers number place xs r → Answers number place ys r
matching_answers number place xs ys r m h = answered number place xs ys r (matching_answered xs ys m) h

-- where no row in front applies the answer is that of the rows behind
pub first_behind : (xs ys : List Row) (n p : ℕ) → Passed xs → First (xs ++ ys) n p → First ys n p
first_behind [] ys n p off f = f
first_behind (x ∷ xs) ys n p off (inl f) = absurd (off.0 f.0)
first_behind (x ∷ xs) ys n p off (inr f) = first_behind xs ys n p off.1 f.1
