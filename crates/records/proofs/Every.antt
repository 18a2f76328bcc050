-- Whether each element of a list has a property, from a call of `all`.
use Rattle.std.proofs.Common.{ℕ, ◌<◌, Bool, true, false, List, length, Decides, MatchBool, refl}
use Rattle.std.specs.List.{All, AllWithin, HoldsAt}
use Rattle.std.proofs.lemmas.List.Elements.{All-from_all_within}
use Rattle.std.proofs.lemmas.Bool.{false≢true}

pub decides_every : {X : Type 0} (P : X → Type 0) (d : X) (r : Bool) (xs : List X) → MatchBool r (AllWithin P xs 0 (length xs)) ((k : ℕ) × (k < length xs) × HoldsAt (λ x. ¬ (P x)) xs k) → Decides r (All P xs)
decides_every P d true xs h = ((λ _. All-from_all_within P xs h), λ _. refl)
decides_every P d false xs h = ((λ e. absurd (false≢true e)), λ all. absurd (h.2 d (all h.0 d h.1)))
