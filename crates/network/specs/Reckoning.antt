-- What reckon is handed, its refusals, and what each memory holds when it returns. Assumes nothing.
use Rattle.std.specs.Prelude.{◌≡◌, ℕ, ◌<◌, ◌≤◌, cond, ◌⊎◌, List, [], ◌∷◌, ◌++◌, length, take, drop, Ok, Err, Result, ◌≢◌, nat_lt, slice_index_or}
use Rattle.std.specs.List.{Any}
use Rattle.kinds.specs.Time.{Time}
use Rattle.network.specs.declared.Arc.{Arc}
use Rattle.network.specs.declared.Listing.{Listing}
use Rattle.network.specs.declared.faults.NetworkFault.{NetworkFault}
use Rattle.network.specs.declared.faults.NetworkFault.TheVariants as fault
use Rattle.network.specs.Network.{Arcs, Network, Least, NoTable, HasRing, Names}
use Rattle.network.specs.Refusals.{Row, row, Passed}

module _ {K : Type 0} (t : Time K) where
  -- the value of event v in a memory of times
  abbrev pub at : List K → ℕ → K
  at xs v = slice_index_or xs v t.none

  -- the arc at place k
  abbrev pub arc_at : List (Arc K) → ℕ → Arc K
  arc_at arcs k = slice_index_or arcs k (record { from = 0; to = 0; duration = t.none })

  -- arcs named by their places
  abbrev pub placed : List (Arc K) → Arcs K
  placed arcs = record { Name = ℕ; Has = λ k. k < length arcs; arc = arc_at arcs }

  abbrev pub network_of : List K → List (Arc K) → Network K
  network_of floors arcs = record { events = length floors; floor = at floors; arcs = placed arcs }

-- How long the memories are: floors, arcs, times, ring, and the working memories of tables and marks.
pub record Lengths : Type 0 where
  pub floors : ℕ
  pub arcs : ℕ
  pub times : ℕ
  pub ring : ℕ
  pub tables : ℕ
  pub marks : ℕ

abbrev pub lengths : ℕ → ℕ → ℕ → ℕ → ℕ → ℕ → Lengths
lengths f a t r b m = record { floors = f; arcs = a; times = t; ring = r; tables = b; marks = m }

-- a memory has another length than listed
abbrev pub length_rows : Lengths → List Row
length_rows l =
    row 1 0 (l.floors ≢ 1024)
    ∷ row 1 0 (l.arcs ≢ 9728)
    ∷ row 1 0 (l.times ≢ 1024)
    ∷ row 1 0 (l.ring ≢ 1024)
    ∷ row 1 0 (l.tables ≢ 2048)
    ∷ row 1 0 (l.marks ≢ 1050624)
    ∷ []

-- A network as it is listed: how many events and arcs it has, and the memories whose front holds its floors and its arcs.
pub record Listed (K : Type 0) : Type 0 where
  pub events : ℕ
  pub floors : List K
  pub arc_count : ℕ
  pub arcs : List (Arc K)

-- What reckon is handed: a listed network, and how long the other memories are.
pub record Handed (K : Type 0) : Type 0 where
  pub network : Listed K
  pub times : ℕ
  pub ring : ℕ
  pub tables : ℕ
  pub marks : ℕ

module _ {K : Type 0} where
  abbrev pub listed : Listing K → Listed K
  listed l = record { events = l.events; floors = l.floors.now; arc_count = l.arc_count; arcs = l.arcs.now }

  -- the floors and the arcs that the counts keep
  abbrev pub kept_floors : Listed K → List K
  kept_floors l = take l.events l.floors

  abbrev pub kept_arcs : Listed K → List (Arc K)
  kept_arcs l = take l.arc_count l.arcs

  abbrev pub handed : Listed K → ℕ → ℕ → ℕ → ℕ → Handed K
  handed l t r b m = record { network = l; times = t; ring = r; tables = b; marks = m }

  abbrev pub lengths_of : Handed K → Lengths
  lengths_of h = lengths (length h.network.floors) (length h.network.arcs) h.times h.ring h.tables h.marks

  -- an arc that names no event
  abbrev pub Stray : ℕ → Arc K → Type 0
  Stray n a = (n ≤ a.from) ⊎ (n ≤ a.to)

  -- the first number in the arcs that names no event
  abbrev pub first_stray : ℕ → List (Arc K) → ℕ
  first_stray n [] = 0
  first_stray n (a ∷ rest) = cond (nat_lt a.from n) (cond (nat_lt a.to n) (first_stray n rest) a.to) a.from

  module _ (t : Time K) where
    -- what the network itself can break
    abbrev pub network_rows : ℕ → ℕ → List K → List (Arc K) → List Row
    network_rows events arc_count floors arcs =
        row 3 (first_stray events arcs) (Any (Stray events) arcs)
        ∷ row 4 0 (Any (λ x. 110000000 < t.size x) floors)
        ∷ row 5 0 (Any (λ a. 100000 < t.size a.duration) arcs)
        ∷ row 6 0 (1024 < events)
        ∷ row 6 0 (9728 < arc_count)
        ∷ []

    -- the network that the counts keep
    abbrev pub network_kept : Listed K → Network K
    network_kept l = network_of t (kept_floors l) (kept_arcs l)

    -- the refusals before the reckoning
    abbrev pub first_rows : Handed K → List Row
    first_rows h = length_rows (lengths_of h) ++ network_rows h.network.events h.network.arc_count (kept_floors h.network) (kept_arcs h.network)

    -- and the ring last
    abbrev pub ring_rows : List (Arc K) → List Row
    ring_rows arcs = row 12 0 (HasRing t (placed t arcs)) ∷ []

    abbrev pub reckon_rows : Handed K → List Row
    reckon_rows h = first_rows h ++ ring_rows (kept_arcs h.network)

    -- a ring exists exactly if no table meets the network
    abbrev pub RingExactly : Handed K → Type 0
    RingExactly h = Passed (first_rows h) → (HasRing t (placed t (kept_arcs h.network)) → NoTable t (network_kept h.network)) × (NoTable t (network_kept h.network) → HasRing t (placed t (kept_arcs h.network)))

    -- taken, the front of the times is the least table and the rest is as it was; refused, all of it is
    abbrev pub TimesHold : Listed K → List K → List K → Result (Unit {0}) NetworkFault → Type 0
    TimesHold l was times (Ok x) = Least t (network_kept l) (at t (take l.events times)) × (drop l.events times ≡ drop l.events was)
    TimesHold l was times (Err f) = times ≡ was

    -- refused for a ring, its events stand at the front of ring memory and the rest is as it was; otherwise all of it is
    abbrev pub RingAfter : Listed K → List ℕ → List ℕ → NetworkFault → Type 0
    RingAfter l was ring (fault.Ring count) = Names t (placed t (kept_arcs l)) (take count ring) × (drop count ring ≡ drop count was) × (count ≤ l.events)
    RingAfter l was ring _ = ring ≡ was

    abbrev pub RingHolds : Listed K → List ℕ → List ℕ → Result (Unit {0}) NetworkFault → Type 0
    RingHolds l was ring (Ok x) = ring ≡ was
    RingHolds l was ring (Err f) = RingAfter l was ring f
