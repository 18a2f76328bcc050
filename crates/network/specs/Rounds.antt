-- Inner words of the reckoning: one round of raising times, and the memory of rows by which a rise is traced back. No public
-- promise speaks of them. Assumes nothing.
use Rattle.std.specs.Prelude.{◌≡◌, ℕ, ◌+◌, ◌-◌, ◌*◌, ◌<◌, ◌≤◌, ◌⊎◌, List, ◌++◌, reverse, length, take, drop, Ok, Err, Result, slice_index, slice_index_or}
use Rattle.std.specs.List.{AllByRecursion}
use Rattle.kinds.specs.Time.{Time}
use Rattle.network.specs.declared.Arc.{Arc}
use Rattle.network.specs.declared.faults.NetworkFault.{NetworkFault}
use Rattle.network.specs.declared.faults.NetworkFault.TheVariants as fault
use Rattle.network.specs.Network.{UpTo, After, LatestWalks, ends, Least, HasRing, Names, NoTable}
use Rattle.network.specs.Reckoning.{at, arc_at, placed, network_of}

-- row j of a memory of rows of n places
abbrev pub row_of : ℕ → List ℕ → ℕ → List ℕ
row_of n rows j = take n (drop (j * n) rows)

-- how long the tables and rows of working memory are
pub record SpaceLengths (now_long next_long rows_long path_long seen_long : ℕ) : Type 0 where
  pub next : next_long ≡ now_long
  pub rows : rows_long ≡ now_long * now_long
  pub path : path_long ≡ now_long
  pub seen : seen_long ≡ now_long

module _ {K : Type 0} (t : Time K) where
  -- arcs that join events, few enough that a number tells each, and none over its size
  pub record Sound (n : ℕ) (arcs : List (Arc K)) : Type 0 where
    pub few : length arcs ≤ 9728
    pub starts : (k : ℕ) → k < length arcs → (arc_at t arcs k).from < n
    pub ends : (k : ℕ) → k < length arcs → (arc_at t arcs k).to < n
    pub short : (k : ℕ) → k < length arcs → t.size (arc_at t arcs k).duration ≤ 100000

  abbrev pub Sized : ℕ → List K → Type 0
  Sized b xs = (v : ℕ) → v < length xs → t.size (at t xs v) ≤ b

  -- a network within its limits
  pub record InLimits (floors : List K) (arcs : List (Arc K)) : Type 0 where
    pub few : length floors ≤ 1024
    pub sound : Sound (length floors) arcs
    pub sized : Sized 110000000 floors

  module _ (arcs : List (Arc K)) where
    -- x is v's value after a round that has come to arc m: the old one, or raised by the arc at place f
    abbrev pub Source : ℕ → List K → ℕ → K → ℕ → Type 0
    Source m old v x f =
        ((f ≡ 65535) × (x ≡ at t old v))
        ⊎ ((f < m) × ((arc_at t arcs f).to ≡ v) × (x ≡ t.join (at t old (arc_at t arcs f).from) (arc_at t arcs f).duration) × After t x (at t old v))

    -- one round over the first m arcs
    pub record Round (m : ℕ) (old new : List K) (from : List ℕ) : Type 0 where
      pub keeps : (v : ℕ) → v < length old → UpTo t (at t old v) (at t new v)
      pub meets : (k : ℕ) → k < m → UpTo t (t.join (at t old (arc_at t arcs k).from) (arc_at t arcs k).duration) (at t new (arc_at t arcs k).to)
      pub source : (v : ℕ) → v < length old → Source m old v (at t new v) (slice_index from v)

  module _ (floors : List K) (arcs : List (Arc K)) where
    -- the table of the latest values along at most k arcs
    pub record Latest (k : ℕ) (table : List K) : Type 0 where
      pub same : length table ≡ length floors
      pub walks : LatestWalks t (network_of t floors arcs) k (at t table)

    -- what a row tells: how the latest values along j + 1 arcs came from those along j
    pub record Level (j : ℕ) (row : List ℕ) : Type 0 where
      pub old : List K
      pub new : List K
      pub is_old : Latest j old
      pub is_new : Latest (j + 1) new
      pub round : Round arcs (length arcs) old new row

    abbrev pub Levels : ℕ → List ℕ → Type 0
    Levels k rows = (j : ℕ) → j < k → Level j (row_of (length floors) rows j)

    -- a table that a round leaves as it is
    pub record Settled (table : List K) : Type 0 where
      pub latest : Latest (length floors - 1) table
      pub met : (k : ℕ) → k < length arcs → UpTo t (t.join (at t table (arc_at t arcs k).from) (arc_at t arcs k).duration) (at t table (arc_at t arcs k).to)

    -- event v still rises in the last round
    pub record Rising (rows : List ℕ) (v : ℕ) : Type 0 where
      pub some : 0 < length floors
      pub levels : Levels (length floors) rows
      pub inside : v < length floors
      pub rises : slice_index_or (row_of (length floors) rows (length floors - 1)) v 0 ≡ 65535 → ⊥

  -- events are the ends of the arcs, which stand last first, in arc order from the smallest
  pub record Turned (arcs : List (Arc K)) (ks events : List ℕ) : Type 0 where
    pub front : List ℕ
    pub back : List ℕ
    pub circuit_is : reverse (ends t (placed t arcs) ks) ≡ front ++ back
    pub named : events ≡ back ++ front
    pub smallest : AllByRecursion (λ v. slice_index events 0 ≤ v) events

  -- the refusal of a ring, whose events stand at the front of ring memory
  pub record Refused (floors : List K) (arcs : List (Arc K)) (was ring : List ℕ) (f : NetworkFault) : Type 0 where
    pub count : ℕ
    pub is : f ≡ fault.Ring count
    pub names : Names t (placed t arcs) (take count ring)
    pub none : NoTable t (network_of t floors arcs)
    pub rest : drop count ring ≡ drop count was
    pub few : count ≤ length floors

  -- what solving leaves: the least times and no ring, or a ring
  abbrev pub Solved : List K → List (Arc K) → List K → List K → List ℕ → List ℕ → Result (Unit {0}) NetworkFault → Type 0
  Solved floors arcs was times ring_was ring (Ok x) = Least t (network_of t floors arcs) (at t times) × (HasRing t (placed t arcs) → ⊥) × (ring ≡ ring_was)
  Solved floors arcs was times ring_was ring (Err f) = Refused floors arcs ring_was ring f × (times ≡ was)
