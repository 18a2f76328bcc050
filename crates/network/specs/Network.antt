-- Networks: events with floors, arcs with durations, the tables that meet them, their least times and their rings. Nothing here
-- says how times are found. Assumes nothing.
use Rattle.std.specs.Prelude.{◌≡◌, ℕ, ◌-◌, ◌<◌, ◌≤◌, true, false, ◌⊎◌, List, [], ◌∷◌, ◌++◌, reverse, length, ◌≢◌, slice_index}
use Rattle.std.specs.List.{AllByRecursion}
use Rattle.kinds.specs.Time.{Time}
use Rattle.network.specs.declared.Arc.{Arc}

-- The arcs of a network. A name tells an arc, as its place in a list does; only those that it has count.
pub record Arcs (K : Type 0) : Type 1 where
  pub Name : Type 0
  pub Has : Name → Type 0
  pub arc : Name → Arc K

-- Events are numbered from 0 up to their count, and each has a floor.
pub record Network (K : Type 0) : Type 1 where
  pub events : ℕ
  pub floor : ℕ → K
  pub arcs : Arcs K

-- no number stands twice in a list
abbrev pub Lacks : ℕ → List ℕ → Type 0
Lacks v [] = Unit {0}
Lacks v (u ∷ us) = (v ≢ u) × Lacks v us

abbrev pub Apart : List ℕ → Type 0
Apart [] = Unit {0}
Apart (u ∷ us) = Lacks u us × Apart us

module _ {K : Type 0} (t : Time K) where
  abbrev pub UpTo : K → K → Type 0
  UpTo x y = t.before x y ≡ true

  abbrev pub After : K → K → Type 0
  After x y = t.before x y ≡ false

  module _ (A : Arcs K) where
    -- The arcs lead from event u to event v, each from where the one before it ends. The last arc stands first.
    abbrev pub Chain : ℕ → List A.Name → ℕ → Type 0
    Chain u [] v = u ≡ v
    Chain u (k ∷ ks) v = A.Has k × ((A.arc k).to ≡ v) × Chain u ks (A.arc k).from

    -- x joined with the durations of a chain, in the order of its arcs
    abbrev pub along : K → List A.Name → K
    along x [] = x
    along x (k ∷ ks) = t.join (along x ks) (A.arc k).duration

    -- the events at which the arcs of a chain end
    abbrev pub ends : List A.Name → List ℕ
    ends [] = []
    ends (k ∷ ks) = (A.arc k).to ∷ ends ks

    -- A circuit with no event twice whose durations, joined in order from one of its events, stand after nothing. One that
    -- totals nothing is no ring.
    pub record Ring (circuit : List A.Name) : Type 0 where
      pub event : ℕ
      pub closed : Chain event circuit event
      pub apart : Apart (ends circuit)
      pub after : After (along t.none circuit) t.none

    abbrev pub HasRing : Type 0
    HasRing = (circuit : List A.Name) × Ring circuit

    -- no arc between the same two events has a later duration
    abbrev pub Foremost : A.Name → Type 0
    Foremost k = (j : A.Name) → A.Has j → (A.arc j).from ≡ (A.arc k).from → (A.arc j).to ≡ (A.arc k).to → UpTo (A.arc j).duration (A.arc k).duration

    -- The events of a ring in arc order, from the smallest on. Between neighbours the latest duration counts.
    pub record Names (events : List ℕ) : Type 0 where
      pub circuit : List A.Name
      pub ring : Ring circuit
      pub foremost : AllByRecursion Foremost circuit
      pub front : List ℕ
      pub back : List ℕ
      pub circuit_is : reverse (ends circuit) ≡ front ++ back
      pub named : events ≡ back ++ front
      pub smallest : AllByRecursion (λ v. slice_index events 0 ≤ v) events

  module _ (N : Network K) where
    -- x is a floor joined along a walk of j arcs that ends at v
    pub record Reaches (j v : ℕ) (x : K) : Type 0 where
      pub first : ℕ
      pub walk : List N.arcs.Name
      pub inside : first < N.events
      pub chain : Chain N.arcs first walk v
      pub count : length walk ≡ j
      pub value : x ≡ along N.arcs (N.floor first) walk

    -- a table gives each event a value of size at most 250,000,000
    abbrev pub Table : (ℕ → K) → Type 0
    Table time = (v : ℕ) → v < N.events → t.size (time v) ≤ 250000000

    -- each time is at or after its floor, and each arc's end at or after its start's time then its duration
    pub record Meets (time : ℕ → K) : Type 0 where
      pub floors : (v : ℕ) → v < N.events → UpTo (N.floor v) (time v)
      pub arcs : (k : N.arcs.Name) → N.arcs.Has k → UpTo (t.join (time (N.arcs.arc k).from) (N.arcs.arc k).duration) (time (N.arcs.arc k).to)

    abbrev pub NoTable : Type 0
    NoTable = (time : ℕ → K) → Table time → Meets time → ⊥

    -- each time is the latest of the floors joined along walks of at most m arcs that end there
    pub record LatestWalks (m : ℕ) (time : ℕ → K) : Type 0 where
      pub reached : (v : ℕ) → v < N.events → (j : ℕ) × (j ≤ m) × Reaches j v (time v)
      pub latest : (v j : ℕ) (x : K) → j ≤ m → Reaches j v x → UpTo x (time v)

    -- the max-plus equation of v: its time is the latest of its floor and of what its arcs bring
    pub record Equation (time : ℕ → K) (v : ℕ) : Type 0 where
      pub floor : UpTo (N.floor v) (time v)
      pub brings : (k : N.arcs.Name) → N.arcs.Has k → (N.arcs.arc k).to ≡ v → UpTo (t.join (time (N.arcs.arc k).from) (N.arcs.arc k).duration) (time v)
      pub equal : (time v ≡ N.floor v) ⊎ ((k : N.arcs.Name) × N.arcs.Has k × ((N.arcs.arc k).to ≡ v) × (time v ≡ t.join (time (N.arcs.arc k).from) (N.arcs.arc k).duration))

    -- The least times: a table that meets the network, no table that meets it has an event earlier, each time is attained by a
    -- walk of fewer arcs than there are events, and each solves its equation.
    pub record Least (time : ℕ → K) : Type 0 where
      pub table : Table time
      pub meets : Meets time
      pub least : (other : ℕ → K) → Table other → Meets other → (v : ℕ) → v < N.events → UpTo (time v) (other v)
      pub walks : LatestWalks (N.events - 1) time
      pub equations : (v : ℕ) → v < N.events → Equation time v
