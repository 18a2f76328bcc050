-- A circuit read in arc order from its smallest event.
use Rattle.std.proofs.Common.{◌≡◌, ℕ, ◌+◌, ◌-◌, ◌<◌, ◌≤◌, List, ◌++◌, reverse, length, get_or, take, drop, sym, ap, ◌∙◌, inl, inr, arith}
use Rattle.std.proofs.lemmas.Bool.{cases_lt}
use Rattle.std.proofs.lemmas.List.{take-append-drop}
use Rattle.std.proofs.ByRecursion.{All-from_get_or}
use Rattle.kinds.specs.Time.{Time}
use Rattle.network.specs.declared.Arc.{Arc}
use Rattle.network.specs.Network.{ends}
use Rattle.network.specs.Reckoning.{placed}
use Rattle.network.specs.Rounds.{Turned}

module _ (xs ys : List ℕ) (first : ℕ) (inside : first < length xs) (same : length ys ≡ length xs)
    (low : (k : ℕ) → k < length xs → get_or xs first 0 ≤ get_or xs k 0)
    (ahead : (k : ℕ) → k + first < length xs → get_or ys k 0 ≡ get_or xs (k + first) 0)
    (wrapped : (k : ℕ) → length xs ≤ k + first → k < length xs → get_or ys k 0 ≡ get_or xs (k + first - length xs) 0) where
  head_is : get_or ys 0 0 ≡ get_or xs first 0
  head_is = let e : 0 + first ≡ first = omega arith in ahead 0 (omega arith) ∙ ap (λ i. get_or xs i 0) e

  low_at : (k : ℕ) → k < length ys → get_or ys 0 0 ≤ get_or ys k 0
  low_at k h =
      let z = head_is in
      elim (cases_lt (k + first) (length xs)) [
        | inl l ↦ (let e = ahead k l in let p = low (k + first) l in omega arith)
        | inr l ↦ (let e = wrapped k l (omega arith) in let p = low (k + first - length xs) (omega arith) in omega arith)
      ]

  pub turned_is : {K : Type 0} (t : Time K) (arcs : List (Arc K)) (ks : List ℕ) → xs ≡ reverse (ends t (placed t arcs) ks) → ys ≡ drop first xs ++ take first xs → Turned t arcs ks ys
  turned_is t arcs ks is_xs is_ys = record {
    front = take first xs;
    back = drop first xs;
    circuit_is = sym is_xs ∙ sym (take-append-drop first xs);
    named = is_ys;
    smallest = All-from_get_or (λ v. get_or ys 0 0 ≤ v) ys 0 low_at;
  }
