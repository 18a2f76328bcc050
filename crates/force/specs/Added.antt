-- Inner words of the filling of memory: what a stretch of arcs holds, and the arcs in force by the record that they come from.
-- Assumes nothing.
use Rattle.std.specs.Prelude.{◌≡◌, ℕ, ◌+◌, ◌*◌, ◌<◌, ◌≤◌, ◌⊎◌, List, length}
use Rattle.kinds.specs.Time.{Time}
use Rattle.network.specs.declared.Arc.{Arc}
use Rattle.network.specs.Reckoning.{at, arc_at}
use Rattle.records.specs.declared.Track.{Track}
use Rattle.records.specs.declared.Run.{Run}
use Rattle.records.specs.declared.Connection.{Connection}
use Rattle.records.specs.Register.{Register}
use Rattle.force.specs.declared.arcs.ArcList.{ArcList}
use Rattle.force.specs.Force.{Running, Dwell, Connects, Departures, Arrivals, Meeting, run_in, track_in, track_under, connection_in}
use Rattle.force.specs.Floors.{departure_floor_lem, arrival_floor_lem, floor_of}

-- The arcs of P are added to a list: the places from its old count up to its new one hold exactly them, and those below are as they
-- were. The list is in the same memory.
pub record Added {K : Type 0} (t : Time K) (P : Arc K → Type 0) (l l' : ArcList K) : Type 0 where
  pub same : l'.arcs.ghost_name ≡ l.arcs.ghost_name
  pub long : length l'.arcs.now ≡ length l.arcs.now
  pub grows : l.count ≤ l'.count
  pub kept : (k : ℕ) → k < l.count → arc_at t l'.arcs.now k ≡ arc_at t l.arcs.now k
  pub each : (k : ℕ) → l.count ≤ k → k < l'.count → P (arc_at t l'.arcs.now k)
  pub all : (a : Arc K) → P a → (k : ℕ) × ((l.count ≤ k) × (k < l'.count) × (arc_at t l'.arcs.now k ≡ a))

-- the first n places hold exactly the arcs of P
pub record Listed {K : Type 0} (t : Time K) (P : Arc K → Type 0) (ys : List (Arc K)) (n : ℕ) : Type 0 where
  pub each : (k : ℕ) → k < n → P (arc_at t ys k)
  pub all : (a : Arc K) → P a → (k : ℕ) × ((k < n) × (arc_at t ys k ≡ a))

-- an arc of C r for some r from low up to high
abbrev pub Among : {K : Type 0} → (ℕ → Arc K → Type 0) → ℕ → ℕ → Arc K → Type 0
Among C low high a = (r : ℕ) × ((low ≤ r) × (r < high) × C r a)

module _ {K : Type 0} where
  abbrev pub OfRun : ℕ → Run K → Arc K → Type 0
  OfRun r x a = Running r x a ⊎ Dwell r x a

  -- of a connection with the setting b
  abbrev pub Keeps : ℕ → Connection K → Run K → Arc K → Type 0
  Keeps b c onward a = (b ≡ 0) × Connects c onward a

  -- run u, which is x, stands ahead of run v, which is y
  abbrev pub Follows : Track K → ℕ → Run K → ℕ → Run K → Arc K → Type 0
  Follows k u x v y a = Departures k u x v y a ⊎ (Arrivals k u x v y a ⊎ Meeting k u x v y a)

  -- the order of run i, which is x, and run j, which is y, with the setting b
  abbrev pub Turns : Track K → ℕ → ℕ → Run K → ℕ → Run K → Arc K → Type 0
  Turns k b i x j y a = ((b ≡ 0) × Follows k i x j y a) ⊎ ((b ≡ 1) × Follows k j y i x a)

  module _ (t : Time K) (R : Register K) where
    -- run j's order with an earlier run i
    abbrev pub OrderOf : ℕ → ℕ → Arc K → Type 0
    OrderOf j i a = (track_in t R i ≡ track_in t R j) × Turns (track_under t R j) (R.order i j) i (run_in t R i) j (run_in t R j) a

    abbrev pub RunArcs : ℕ → Arc K → Type 0
    RunArcs n = Among (λ r. OfRun r (run_in t R r)) 0 n

    abbrev pub OrderArcs : ℕ → Arc K → Type 0
    OrderArcs n = Among (λ j. Among (OrderOf j) 0 j) 0 n

    abbrev pub ConnectionOf : ℕ → Arc K → Type 0
    ConnectionOf c a = Keeps (R.link c) (connection_in t R c) (run_in t R (connection_in t R c).onward) a

    abbrev pub ConnectionArcs : ℕ → Arc K → Type 0
    ConnectionArcs n = Among ConnectionOf 0 n

    -- the floors of the events of the first n runs
    pub record FloorsOf (n : ℕ) (floors : List K) : Type 0 where
      pub departures : (r : ℕ) → r < n → at t floors (2 * r) ≡ departure_floor_lem t (run_in t R r)
      pub arrivals : (r : ℕ) → r < n → at t floors (2 * r + 1) ≡ arrival_floor_lem t (run_in t R r)

    -- the front of a memory holds the floor of each event
    pub record Filled (floors : List K) : Type 0 where
      pub each : (v : ℕ) → v < 2 * length R.runs → at t floors v ≡ floor_of t R v
