-- The arcs in force: which constraints a register puts between the events of its runs. Assumes nothing.
use Rattle.std.specs.Prelude.{◌≡◌, ℕ, ◌+◌, ◌*◌, ◌<◌, ◌⊎◌, length, Option, MatchOption, ◌≢◌}
use Rattle.kinds.specs.Time.{Time}
use Rattle.network.specs.declared.Arc.{Arc}
use Rattle.records.specs.declared.Track.{Track}
use Rattle.records.specs.declared.Run.{Run}
use Rattle.records.specs.declared.Connection.{Connection}
use Rattle.records.specs.Records.{run_at, track_at, connection_at, track_of}
use Rattle.records.specs.Places.{Ordered}
use Rattle.records.specs.Register.{Register}

-- the two events of run r
abbrev pub departure_of : ℕ → ℕ
departure_of r = 2 * r

abbrev pub arrival_of : ℕ → ℕ
arrival_of r = 2 * r + 1

module _ {K : Type 0} where
  -- a is the arc from u to v by the duration w, unless its end is reported
  abbrev pub Joins : Option K → ℕ → ℕ → K → Arc K → Type 0
  Joins report u v w a = MatchOption report (a ≡ record { from = u; to = v; duration = w }) (λ _. ⊥)

  -- of run r, which is x: from its departure to its arrival
  abbrev pub Running : ℕ → Run K → Arc K → Type 0
  Running r x = Joins x.arrived (departure_of r) (arrival_of r) x.running

  -- from the arrival of its predecessor, if it has one, to its departure
  abbrev pub Dwell : ℕ → Run K → Arc K → Type 0
  Dwell r x a = MatchOption x.predecessor ⊥ (λ p. Joins x.departed (arrival_of p) (departure_of r) x.dwell a)

  -- from the arrival of the feeder to the departure of the onward run, which is y
  abbrev pub Connects : Connection K → Run K → Arc K → Type 0
  Connects c y = Joins y.departed (arrival_of c.feeder) (departure_of c.onward) c.time

  -- Run u, which is x, stands ahead of run v, which is y. In one direction the headway of the track keeps their departures apart,
  -- and their arrivals.
  abbrev pub Departures : Track K → ℕ → Run K → ℕ → Run K → Arc K → Type 0
  Departures k u x v y a = (x.direction ≡ y.direction) × Joins y.departed (departure_of u) (departure_of v) k.headway a

  abbrev pub Arrivals : Track K → ℕ → Run K → ℕ → Run K → Arc K → Type 0
  Arrivals k u x v y a = (x.direction ≡ y.direction) × Joins y.arrived (arrival_of u) (arrival_of v) k.headway a

  -- in opposite directions the other departs after the one ahead has arrived
  abbrev pub Meeting : Track K → ℕ → Run K → ℕ → Run K → Arc K → Type 0
  Meeting k u x v y a = (x.direction ≢ y.direction) × Joins y.departed (arrival_of u) (departure_of v) k.meeting a

  module _ (t : Time K) (R : Register K) where
    abbrev pub run_in : ℕ → Run K
    run_in = run_at t R.runs

    -- the number of the track of a run
    abbrev pub track_in : ℕ → ℕ
    track_in = track_of t R.runs

    -- the track of a run
    abbrev pub track_under : ℕ → Track K
    track_under r = track_at t R.tracks (track_in r)

    abbrev pub connection_in : ℕ → Connection K
    connection_in = connection_at t R.connections

    -- Run u stands ahead of run v: they share a track, and the setting of their order, which is that of the lower number and the
    -- higher, is 0 if u is the lower and 1 if it is the higher.
    abbrev pub Ahead : ℕ → ℕ → Type 0
    Ahead u v =
        (Ordered track_in (length R.runs) u v × (R.order u v ≡ 0))
        ⊎ (Ordered track_in (length R.runs) v u × (R.order v u ≡ 1))

    pub data InForce (a : Arc K) : Type 0 where
      running : (r : ℕ) → r < length R.runs → Running r (run_in r) a → InForce a
      dwell : (r : ℕ) → r < length R.runs → Dwell r (run_in r) a → InForce a
      connection : (c : ℕ) → c < length R.connections → R.link c ≡ 0 → Connects (connection_in c) (run_in (connection_in c).onward) a → InForce a
      departures : (u v : ℕ) → Ahead u v → Departures (track_under v) u (run_in u) v (run_in v) a → InForce a
      arrivals : (u v : ℕ) → Ahead u v → Arrivals (track_under v) u (run_in u) v (run_in v) a → InForce a
      meeting : (u v : ℕ) → Ahead u v → Meeting (track_under v) u (run_in u) v (run_in v) a → InForce a
