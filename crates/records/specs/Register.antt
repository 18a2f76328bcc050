-- A register: what is entered of a plan, with a setting for each order and connection. Which register a memory stands for. Assumes nothing.
use Rattle.std.specs.Prelude.{ℕ, ◌+◌, List, take, slice_index}
use Rattle.kinds.specs.Time.{Time}
use Rattle.records.specs.declared.Run.{Run}
use Rattle.records.specs.declared.Track.{Track}
use Rattle.records.specs.declared.Connection.{Connection}
use Rattle.records.specs.declared.View.{View}
use Rattle.records.specs.Records.{track_of}
use Rattle.records.specs.Places.{place}

-- Records in the order of their entry. A run carries the reports of its two events and its hold. order i j is the setting of the
-- order of the runs i and j: 0 puts i ahead, 1 puts j ahead. link c is the setting of connection c: 0 kept, 1 broken.
pub record Register (K : Type 0) : Type 0 where
  pub tracks : List (Track K)
  pub runs : List (Run K)
  pub connections : List (Connection K)
  pub order : ℕ → ℕ → ℕ
  pub link : ℕ → ℕ

-- What lent memory holds: whole lists of records, the bytes of the settings, and how many records are entered.
pub record Memory (K : Type 0) : Type 0 where
  pub tracks : List (Track K)
  pub runs : List (Run K)
  pub connections : List (Connection K)
  pub settings : List ℕ
  pub track_count : ℕ
  pub run_count : ℕ
  pub connection_count : ℕ

module _ {K : Type 0} where
  abbrev pub seen : View K → Memory K
  seen v = record {
    tracks = v.tracks.now;
    runs = v.runs.now;
    connections = v.connections.now;
    settings = v.settings.now;
    track_count = v.track_count;
    run_count = v.run_count;
    connection_count = v.connection_count;
  }

  -- only what is entered of each list of records
  abbrev pub front : Memory K → Memory K
  front m = record {
    tracks = take m.track_count m.tracks;
    runs = take m.run_count m.runs;
    connections = take m.connection_count m.connections;
    settings = m.settings;
    track_count = m.track_count;
    run_count = m.run_count;
    connection_count = m.connection_count;
  }

  module _ (t : Time K) where
    -- the lists of records as they are, each order's setting read at its place and each connection's at its own past 4,096
    abbrev pub register_from : List (Track K) → List (Run K) → List (Connection K) → List ℕ → Register K
    register_from tracks runs connections settings = record {
      tracks = tracks;
      runs = runs;
      connections = connections;
      order = λ i j. slice_index settings (place (track_of t runs) i j);
      link = λ c. slice_index settings (4096 + c);
    }

    -- the same of a whole memory
    abbrev pub all_of : Memory K → Register K
    all_of m = register_from m.tracks m.runs m.connections m.settings

    -- the register that a memory stands for: what lies past the entered records does not count
    abbrev pub register_of : Memory K → Register K
    register_of m = all_of (front m)
