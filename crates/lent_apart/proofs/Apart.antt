-- What is told of memories that are lent in a struct is told of the same memories apart.
use Rattle.std.proofs.Common.{◌≡◌, ℕ, List, Option, subst, sym}
use Rattle.kinds.specs.Time.{Time}
use Rattle.records.specs.declared.Run.{Run}
use Rattle.records.specs.declared.Track.{Track}
use Rattle.records.specs.declared.Connection.{Connection}
use Rattle.plan.specs.declared.states.Slip.{Slip}
use Rattle.journal.specs.declared.calls.Call.{Call}
use Rattle.journal.specs.declared.calls.Plan.{Plan}
use Rattle.journal.specs.Books.{Reply}
use Rattle.journal.specs.Memories.{State, Sizes}
use Rattle.journal.specs.Promise.{Step}
use Rattle.lent_apart.specs.Apart.{state_apart}

module _ {K : Type 0} where
  pub same_apart : {p : Plan} {a a' : List (Track K)} {b b' : List (Run K)} {c c' : List (Connection K)} {d d' : List ℕ} {e e' : List K} {f f' : List (Option Slip)}
      → a ≡ a' → b ≡ b' → c ≡ c' → d ≡ d' → e ≡ e' → f ≡ f' → state_apart p a b c d e f ≡ state_apart p a' b' c' d' e' f'
  same_apart h i j k l m = cc

  pub step_apart : (t : Time K) {l : Sizes} {s s₁ s₂ : State K} {c : Call K} {r : Reply K} {ring₁ ring₂ : List ℕ} {trial₁ trial₂ : List K} → ring₂ ≡ ring₁ → trial₂ ≡ trial₁ → s₂ ≡ s₁ → Step t l s c r ring₁ trial₁ s₁ → Step t l s c r ring₂ trial₂ s₂
  step_apart t {l} {s} {s₁} {s₂} {c} {r} {ring₁} {ring₂} {trial₁} {trial₂} e f h k =
      let P : List ℕ → Type 0 = λ x. Step t l s c r x trial₁ s₁ in
      let Q : List K → Type 0 = λ x. Step t l s c r ring₂ x s₁ in
      let R : State K → Type 0 = λ x. Step t l s c r ring₂ trial₂ x in
      subst R (sym h) (subst Q (sym f) (subst P (sym e) k))
