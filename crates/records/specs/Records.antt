-- The record at a place of a list of records. Past the end it is a blank one, of which no promise speaks. Assumes nothing.
use Rattle.std.specs.Prelude.{ℕ, ◌<◌, List, length, get_or, None, slice_index_or}
use Rattle.kinds.specs.Time.{Time}
use Rattle.records.specs.declared.Run.{Run}
use Rattle.records.specs.declared.Track.{Track}
use Rattle.records.specs.declared.Connection.{Connection}

module _ {K : Type 0} (t : Time K) where
  abbrev pub track_at : List (Track K) → ℕ → Track K
  track_at tracks k = slice_index_or tracks k (record { headway = t.none; meeting = t.none; penalty = 0 })

  abbrev pub run_at : List (Run K) → ℕ → Run K
  run_at runs k = get_or runs k (record {
    train = 0;
    track = 0;
    direction = 0;
    weight = 0;
    predecessor = None;
    departure = t.none;
    arrival = t.none;
    running = t.none;
    dwell = t.none;
    departed = None;
    arrived = None;
    hold = None;
  })

  abbrev pub connection_at : List (Connection K) → ℕ → Connection K
  connection_at connections k = slice_index_or connections k (record { feeder = 0; onward = 0; penalty = 0; time = t.none })

  -- the number of the track of run k
  abbrev pub track_of : List (Run K) → ℕ → ℕ
  track_of runs k = (run_at runs k).track

  -- each run names one of 64 tracks
  abbrev pub OnTracks : List (Run K) → Type 0
  OnTracks runs = (k : ℕ) → k < length runs → track_of runs k < 64
