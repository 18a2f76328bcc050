-- A walk from run j back over the earlier runs on its track, the nearest first. f k is the track of run k.
use Rattle.std.proofs.Common.{◌≡◌, ℕ, ◌+◌, ◌<◌, ◌≤◌, ◌≢◌, Some, None, Option, IfSome, ap, subst, arith}
use Rattle.records.specs.Places.{count, Ordered, Previous}
use Rattle.records.proofs.Counts.{count_hit, count_still}

-- one past the next run of the walk, and 0 past its end
abbrev pub past : Option ℕ → ℕ
past None = 0
past (Some p) = p + 1

-- the next run is an earlier one on j's track
abbrev pub OnTrack : (ℕ → ℕ) → ℕ → Option ℕ → Type 0
OnTrack f j o = IfSome o (λ p. (p < j) × (f p ≡ f j))

-- the walk has passed the runs from i on, and goes on with o
pub record Reached (f : ℕ → ℕ) (j i : ℕ) (o : Option ℕ) : Type 0 where
  pub low : past o ≤ i
  pub none : (k : ℕ) → past o ≤ k → k < i → f k ≢ f j
  pub counted : count f (f j) i ≡ count f (f j) (past o)
  pub on : OnTrack f j o

low_of : (f : ℕ → ℕ) (x i : ℕ) (o : Option ℕ) → Previous f x i o → past o ≤ i
low_of f x i None h = omega arith
low_of f x i (Some p) h = omega (arith, h.on.0)

none_of : (f : ℕ → ℕ) (x i : ℕ) (o : Option ℕ) → Previous f x i o → (k : ℕ) → past o ≤ k → k < i → f k ≢ x
none_of f x i None h k a b = h.none k b tt
none_of f x i (Some p) h k a b = h.none k b (omega arith)

on_of : (f : ℕ → ℕ) (j i : ℕ) (o : Option ℕ) → i ≤ j → Previous f (f j) i o → OnTrack f j o
on_of f j i None l h = tt
on_of f j i (Some p) l h = (omega (arith, h.on.0), h.on.1)

pub reached : (f : ℕ → ℕ) (j i : ℕ) (o : Option ℕ) → i ≤ j → f i ≡ f j → Previous f (f i) i o → Reached f j i o
reached f j i o l shared before =
    let P : ℕ → Type 0 = λ x. Previous f x i o in
    let h = subst P shared before in
    record {
      low = low_of f (f j) i o h;
      none = none_of f (f j) i o h;
      counted = count_still f (f j) (past o) i (low_of f (f j) i o h) (none_of f (f j) i o h);
      on = on_of f j i o l h;
    }

-- the walk meets run i, which has an order with j, and passes one run of the track
pub record Met (f : ℕ → ℕ) (n j i : ℕ) (o : Option ℕ) : Type 0 where
  pub at : past o ≡ i + 1
  pub ordered : Ordered f n i j
  pub counted : count f (f j) (past o) ≡ count f (f j) i + 1

pub met : (f : ℕ → ℕ) (n j i : ℕ) (o : Option ℕ) → j < n → OnTrack f j o → o ≡ Some i → Met f n j i o
met f n j i o inside on is =
    let h : (i < j) × (f i ≡ f j) = subst (OnTrack f j) is on in
    let at = ap past is in
    let here = ap (count f (f j)) at in
    let hit = count_hit f (f j) i h.1 in
    record { at = at; ordered = record { below = h.0; inside = inside; shared = h.1 }; counted = omega arith }
