-- From the answers of a call's parts to that of the call.
use Rattle.std.proofs.Common.{◌≡◌, ℕ, ◌<◌, List, ◌++◌, length, get_or, Ok, Err, Result, IfOk, OnOk, set, ap, ◌∙◌, subst}
use Rattle.std.specs.Result.{IsErrAnd}
use Rattle.std.proofs.lemmas.Result.{err_from_is_err_and}
use Rattle.std.proofs.lemmas.List.{get_or_default}
use Rattle.kinds.specs.Time.{Time}
use Rattle.network.specs.Refusals.{Row, Passed, First, Answers}
use Rattle.network.proofs.Refusals.{answers_more, passed_more, first_front, first_more}
use Rattle.records.specs.declared.Run.{Run}
use Rattle.records.specs.Records.{run_at}
use Rattle.records.specs.Register.{Memory}
use Rattle.rules.specs.declared.faults.PlanFault.{PlanFault}
use Rattle.rules.specs.Faults.{plan_number, plan_place}
use Rattle.plan.specs.Steps.{with_runs}

module _ {M : Type 0} (ys : M → List Row) (m n : M) (is : m ≡ n) where
  -- rows are told of what is equal
  pub told : {X : Type 0} (r : Result X PlanFault) → Answers plan_number plan_place (ys m) r → Answers plan_number plan_place (ys n) r
  told r h = subst (λ (x : M). Answers plan_number plan_place (ys x) r) is h

  pub told_behind : {X : Type 0} (xs : List Row) (r : Result X PlanFault) → Passed xs → Answers plan_number plan_place (ys m) r → Answers plan_number plan_place (xs ++ ys n) r
  told_behind xs r p h = answers_more plan_number plan_place xs (ys n) r p (told r h)

  pub first_behind : (xs : List Row) (i p : ℕ) → Passed xs → First (ys m) i p → First (xs ++ ys n) i p
  first_behind xs i p q h = first_more xs (ys n) i p q (subst (λ (x : M). First (ys x) i p) is h)

  pub passed : Passed (ys m) → Passed (ys n)
  passed h = subst (λ (x : M). Passed (ys x)) is h

  pub passed_behind : (xs : List Row) → Passed xs → Passed (ys m) → Passed (xs ++ ys n)
  passed_behind xs p h = passed_more xs (ys n) p (passed h)

-- what is taken of a memory, and what is known of it, are those of an equal one
pub sound_of : {M X E : Type 0} (P : M → X → Type 0) (Q : M → Type 0) (m n : M) → m ≡ n → (r : Result X E) → IfOk r (P m) → OnOk r (Q m) → IfOk r (λ x. P n x × Q n)
sound_of P Q m n is (Ok x) p q = (subst (λ z. P z x) is p, subst Q is q)
sound_of P Q m n is (Err e) p q = tt

-- the fault of a part is handed on as the call's
abbrev pub Left : {X : Type 0} → PlanFault → Result X PlanFault → Type 0
Left f r = IsErrAnd r (λ e. e ≡ f)

pub left : {X : Type 0} (P : Result X PlanFault → Type 0) (f : PlanFault) (r : Result X PlanFault) → Left f r → P (Err f) → P r
left P f r e h = let p = err_from_is_err_and r e in rw (p.1, p.2) h

module _ {X : Type 0} (f : PlanFault) (r : Result X PlanFault) (e : Left f r) where
  pub left_answers : (rows : List Row) → First rows (plan_number f) (plan_place f) → Answers plan_number plan_place rows r
  left_answers rows h = left (Answers plan_number plan_place rows) f r e h

  -- by the rows in front
  pub left_front : (xs ys : List Row) → First xs (plan_number f) (plan_place f) → Answers plan_number plan_place (xs ++ ys) r
  left_front xs ys h = left_answers (xs ++ ys) (first_front xs ys _ _ h)

  -- by those behind
  pub left_behind : {M : Type 0} (ys : M → List Row) (m n : M) → m ≡ n → (xs : List Row) → Passed xs → First (ys m) (plan_number f) (plan_place f) → Answers plan_number plan_place (xs ++ ys n) r
  left_behind ys m n is xs p h = left_answers (xs ++ ys n) (first_behind ys m n is xs _ _ p h)

-- a run written in the place of the one that was read
pub written : {K : Type 0} (t : Time K) (m : Memory K) (r : ℕ) (f : Run K → Run K) (x new : Run K) → r < length m.runs → new ≡ f (get_or m.runs r x) → with_runs m (set m.runs r new) ≡ with_runs m (set m.runs r (f (run_at t m.runs r)))
written {K} t m r f x new h made = ap (λ (y : Run K). with_runs m (set m.runs r y)) (made ∙ ap f (get_or_default m.runs r x _ h))
