-- What must hold of stored records. Assumes nothing.
use Rattle.std.specs.Prelude.{◌≡◌, ℕ, ◌+◌, ◌<◌, ◌≤◌, true, List, length, IfSome, None, Option, MatchOption, ◌≢◌, slice_index, slice_index_or}
use Rattle.kinds.specs.Time.{Time}
use Rattle.records.specs.declared.Run.{Run}
use Rattle.records.specs.declared.Track.{Track}
use Rattle.records.specs.declared.Connection.{Connection}
use Rattle.records.specs.Records.{run_at, track_at, connection_at, track_of}
use Rattle.records.specs.Places.{total, Ordered}
use Rattle.records.specs.Register.{Register, Memory, register_from, register_of}

-- so many bytes from start on are 0 or 1
pub record FlagsStored (settings : List ℕ) (start number : ℕ) : Type 0 where
  pub each : (k : ℕ) → k < number → slice_index settings (start + k) ≤ 1

module _ {K : Type 0} where
  -- the numbers of run r name an earlier run and a track that are entered; its weight and direction are in range
  abbrev pub Linked : ℕ → ℕ → Run K → Type 0
  Linked tracks r x = IfSome x.predecessor (λ p. p < r) × ((x.track < tracks) × ((x.weight ≤ 1000) × (x.direction ≤ 1)))

  -- neither reported nor held
  abbrev pub Unused : Run K → Type 0
  Unused x = (x.departed ≡ None) × ((x.arrived ≡ None) × (x.hold ≡ None))

  module _ (t : Time K) where
    -- a time within its size
    abbrev pub Sized : K → Type 0
    Sized x = t.size x ≤ 1000000

    -- a duration within its size, and not before nothing
    abbrev pub Duration : K → Type 0
    Duration d = (t.size d ≤ 100000) × (t.before t.none d ≡ true)

    abbrev pub TrackStored : Track K → Type 0
    TrackStored x = Duration x.headway × (Duration x.meeting × (x.penalty ≤ 1000000))

    abbrev pub Scheduled : Run K → Type 0
    Scheduled x = Sized x.departure × (Sized x.arrival × (Duration x.running × Duration x.dwell))

    -- nothing, or a time within its size
    abbrev pub SizedIfAny : Option K → Type 0
    SizedIfAny o = IfSome o (λ x. Sized x)

    -- reports and hold within their size; an arrival is reported only with a departure at or before it
    abbrev pub Reported : Run K → Type 0
    Reported x =
        SizedIfAny x.departed × (SizedIfAny x.arrived × (SizedIfAny x.hold
        × IfSome x.arrived (λ a. MatchOption x.departed ⊥ (λ d. t.before d a ≡ true))))

    abbrev pub RunStored : ℕ → ℕ → Run K → Type 0
    RunStored tracks r x = Linked tracks r x × (Scheduled x × Reported x)

    -- the connection joins two entered runs
    abbrev pub ConnectionStored : ℕ → Connection K → Type 0
    ConnectionStored runs c = (c.feeder < runs) × ((c.onward < runs) × ((c.feeder ≢ c.onward) × ((c.penalty ≤ 1000000) × Duration c.time)))

    pub record TracksStored (tracks : List (Track K)) : Type 0 where
      pub each : (k : ℕ) → k < length tracks → TrackStored (track_at t tracks k)

    pub record RunsStored (tracks : ℕ) (runs : List (Run K)) : Type 0 where
      pub each : (r : ℕ) → r < length runs → RunStored tracks r (run_at t runs r)

    pub record ConnectionsStored (runs : ℕ) (connections : List (Connection K)) : Type 0 where
      pub each : (c : ℕ) → c < length connections → ConnectionStored runs (connection_at t connections c)

    -- A register that keeps the limits: no record, number of records or setting is one that the calls refuse.
    pub record Limits (R : Register K) : Type 0 where
      pub few_tracks : length R.tracks ≤ 64
      pub few_runs : length R.runs ≤ 512
      pub few_connections : length R.connections ≤ 512
      pub few_orders : total (track_of t R.runs) (length R.runs) ≤ 4096
      pub tracks : TracksStored R.tracks
      pub runs : RunsStored (length R.tracks) R.runs
      pub connections : ConnectionsStored (length R.runs) R.connections
      pub orders : (i j : ℕ) → Ordered (track_of t R.runs) (length R.runs) i j → R.order i j ≤ 1
      pub links : (c : ℕ) → c < length R.connections → R.link c ≤ 1

    -- Lists of records that keep the limits with the bytes of their settings, of which there are 4,608.
    pub record WithinLimits (tracks : List (Track K)) (runs : List (Run K)) (connections : List (Connection K)) (settings : List ℕ) : Type 0 where
      pub limits : Limits (register_from t tracks runs connections settings)
      pub bytes : length settings ≡ 4608

    -- The counts of a memory are within its limits, and so is the register that it stands for.
    pub record Stored (m : Memory K) : Type 0 where
      pub few_tracks : m.track_count ≤ 64
      pub few_runs : m.run_count ≤ 512
      pub few_connections : m.connection_count ≤ 512
      pub limits : Limits (register_of t m)

    -- no run of the register is reported or held, as in a draft
    pub record Drafted (R : Register K) : Type 0 where
      pub each : (r : ℕ) → r < length R.runs → Unused (run_at t R.runs r)

    -- the times shown of the first events are within the size that a reckoning can give
    pub record Shown (shown : List K) (events : ℕ) : Type 0 where
      pub each : (v : ℕ) → v < events → t.size (slice_index_or shown v t.none) ≤ 103300000
