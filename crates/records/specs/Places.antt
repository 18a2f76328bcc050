-- Orders of runs that share a track, and the place of the setting of each. f j is the track of run j. Assumes nothing.
use Rattle.std.specs.Prelude.{◌≡◌, ℕ, zero, suc, ◌+◌, ◌<◌, cond, List, None, Option, IfSome, ◌==◌, ◌≢◌, slice_index_or}
use Rattle.records.specs.declared.places.Place.{Place}

-- how many of the runs below j are on track x
abbrev pub count : (ℕ → ℕ) → ℕ → ℕ → ℕ
count f x zero = 0
count f x (suc j) = cond (f j == x) 1 0 + count f x j

-- how many earlier runs are on j's track
abbrev pub earlier : (ℕ → ℕ) → ℕ → ℕ
earlier f j = count f (f j) j

-- how many orders the runs below j have
abbrev pub total : (ℕ → ℕ) → ℕ → ℕ
total f zero = 0
total f (suc j) = earlier f j + total f j

-- where the order of i and j has its byte
abbrev pub place : (ℕ → ℕ) → ℕ → ℕ → ℕ
place f i j = total f j + earlier f i

-- i and j have an order
pub record Ordered (f : ℕ → ℕ) (n i j : ℕ) : Type 0 where
  pub below : i < j
  pub inside : j < n
  pub shared : f i ≡ f j

-- the last of the runs below j on track x, if there is one
pub record Previous (f : ℕ → ℕ) (x j : ℕ) (o : Option ℕ) : Type 0 where
  pub on : IfSome o (λ p. (p < j) × (f p ≡ x))
  pub none : (k : ℕ) → k < j → IfSome o (λ p. p < k) → f k ≢ x

-- what is laid out for run k
abbrev pub laid_for : List Place → ℕ → Place
laid_for places k = slice_index_or places k (record { earlier = 0; sum = 0; before = None })

-- what is laid out for the first n runs
pub record Laid (f : ℕ → ℕ) (n : ℕ) (places : List Place) : Type 0 where
  pub earlier : (k : ℕ) → k < n → (laid_for places k).earlier ≡ earlier f k
  pub sum : (k : ℕ) → k < n → (laid_for places k).sum ≡ total f k
  pub before : (k : ℕ) → k < n → Previous f (f k) k (laid_for places k).before

-- no two orders share a byte, and each has its byte below the number of orders
pub record PlacesApart (f : ℕ → ℕ) (n : ℕ) : Type 0 where
  pub inside : (i j : ℕ) → Ordered f n i j → place f i j < total f n
  pub apart : (i j k l : ℕ) → Ordered f n i j → Ordered f n k l → place f i j ≡ place f k l → (i ≡ k) × (j ≡ l)

-- runs entered after the first n move no place
abbrev pub PlacesKept : (ℕ → ℕ) → (ℕ → ℕ) → ℕ → Type 0
PlacesKept f g n = (i j : ℕ) → Ordered f n i j → place g i j ≡ place f i j
