-- What a kind of time means, and the laws that each kind keeps. Assumes nothing.
use Rattle.std.specs.Prelude.{◌≡◌, ℕ, ◌+◌, ◌≤◌, Bool, true, false, if◌then◌else◌, Some, None, Option, nat_le}

-- The meaning of a kind, over its values. Times and durations are both values.
pub record Time (K : Type 0) : Type 0 where
  -- a stands at or before b
  pub before : K → K → Bool
  -- a then w
  pub join : K → K → K
  -- nothing: the duration that changes no time
  pub none : K
  -- how much later than p is a
  pub late : K → K → ℕ
  pub size : K → ℕ

-- an answer that is there exactly if the sizes sum to at most 400,000,000
abbrev pub within : {A : Type 0} → ℕ → A → Option A
within sizes x = if nat_le sizes 400000000 then Some x else None

-- The laws, each where no sum of sizes passes 400,000,000. There is no other: joining need not commute, nothing need not be
-- the least value, and a later value need not have a larger size.
pub record Laws {K : Type 0} (t : Time K) : Type 0 where
  -- the order is transitive, any two values compare, and two values each at or before the other are equal
  pub trans : (a b c : K) → t.before a b ≡ true → t.before b c ≡ true → t.before a c ≡ true
  pub total : (a b : K) → t.before a b ≡ false → t.before b a ≡ true
  pub antisym : (a b : K) → t.before a b ≡ true → t.before b a ≡ true → a ≡ b
  -- joining is associative, and nothing, joined on either side, leaves a value as it is
  pub assoc : (a b c : K) → t.size a + t.size b + t.size c ≤ 400000000 → t.join (t.join a b) c ≡ t.join a (t.join b c)
  pub none_left : (a : K) → t.size t.none + t.size a ≤ 400000000 → t.join t.none a ≡ a
  pub none_right : (a : K) → t.size a + t.size t.none ≤ 400000000 → t.join a t.none ≡ a
  -- joining keeps the order on either side
  pub mono_left : (a b w : K) → t.size a + t.size w ≤ 400000000 → t.size b + t.size w ≤ 400000000 → t.before a b ≡ true → t.before (t.join a w) (t.join b w) ≡ true
  pub mono_right : (a b w : K) → t.size w + t.size a ≤ 400000000 → t.size w + t.size b ≤ 400000000 → t.before a b ≡ true → t.before (t.join w a) (t.join w b) ≡ true
  -- what stands after nothing makes every value later
  pub later : (a w : K) → t.size a + t.size w ≤ 400000000 → t.before w t.none ≡ false → t.before (t.join a w) a ≡ false
  -- lateness is 0 up to p, never falls as a gets later, and is at most the sizes together
  pub late_none : (a p : K) → t.size a + t.size p ≤ 400000000 → t.before a p ≡ true → t.late a p ≡ 0
  pub late_mono : (a b p : K) → t.size a + t.size p ≤ 400000000 → t.size b + t.size p ≤ 400000000 → t.before a b ≡ true → t.late a p ≤ t.late b p
  pub late_size : (a p : K) → t.size a + t.size p ≤ 400000000 → t.late a p ≤ t.size a + t.size p
  -- joining adds sizes at most, and the size of nothing is at most 100,000
  pub join_size : (a w : K) → t.size a + t.size w ≤ 400000000 → t.size (t.join a w) ≤ t.size a + t.size w
  pub none_size : t.size t.none ≤ 100000
