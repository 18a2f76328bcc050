-- Laws of refusal rows: more rows behind those that do not apply.
use Rattle.std.proofs.Common.{ℕ, ◌<◌, List, [], ◌∷◌, ◌++◌, Ok, Err, Result, inl, inr, arith}
use Rattle.network.specs.Refusals.{Row, Passed, First, Answers}

pub passed_more : (xs ys : List Row) → Passed xs → Passed ys → Passed (xs ++ ys)
passed_more [] ys p q = q
passed_more (x ∷ xs) ys p q = (p.0, passed_more xs ys p.1 q)

pub first_more : (xs ys : List Row) (n p : ℕ) → Passed xs → First ys n p → First (xs ++ ys) n p
first_more [] ys n p a f = f
first_more (x ∷ xs) ys n p a f = inr (a.0, first_more xs ys n p a.1 f)

pub first_front : (xs ys : List Row) (n p : ℕ) → First xs n p → First (xs ++ ys) n p
first_front [] ys n p f = absurd f
first_front (x ∷ xs) ys n p (inl h) = inl h
first_front (x ∷ xs) ys n p (inr h) = inr (h.0, first_front xs ys n p h.1)

pub first_not_passed : (xs : List Row) (n p : ℕ) → First xs n p → Passed xs → ⊥
first_not_passed [] n p f a = f
first_not_passed (x ∷ xs) n p (inl h) a = a.0 h.0
first_not_passed (x ∷ xs) n p (inr h) a = first_not_passed xs n p h.1 a.1

pub answers_more : {X E : Type 0} (number place : E → ℕ) (xs ys : List Row) (r : Result X E) → Passed xs → Answers number place ys r → Answers number place (xs ++ ys) r
answers_more number place xs ys (Ok x) p a = passed_more xs ys p a
answers_more number place xs ys (Err f) p a = first_more xs ys (number f) (place f) p a

-- each row has a number below n
abbrev pub Under : ℕ → List Row → Type 0
Under n [] = Unit {0}
Under n (x ∷ rest) = (x.number < n) × Under n rest

pub first_under : (n : ℕ) (xs : List Row) (p : ℕ) → Under n xs → First xs n p → ⊥
first_under n [] p u f = f
first_under n (x ∷ xs) p u (inl h) = omega (arith, u.0, h.1)
first_under n (x ∷ xs) p u (inr h) = first_under n xs p u.1 h.1
