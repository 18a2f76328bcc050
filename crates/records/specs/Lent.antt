-- What lent memories of records and settings hold, and which of them are lent. Assumes nothing.
use Rattle.std.specs.Prelude.{◌≡◌, ℕ, List, take}
use Rattle.records.specs.declared.Run.{Run}
use Rattle.records.specs.declared.Track.{Track}
use Rattle.records.specs.declared.Connection.{Connection}
use Rattle.records.specs.declared.lent.Records.{Records}
use Rattle.records.specs.declared.lent.RecordsMut.{RecordsMut}
use Rattle.kinds.specs.Time.{Time}
use Rattle.records.specs.Register.{Register, Memory, register_from}

-- Whole lists of records, and the bytes of the settings.
pub record Lists (K : Type 0) : Type 0 where
  pub tracks : List (Track K)
  pub runs : List (Run K)
  pub connections : List (Connection K)
  pub settings : List ℕ

module _ {K : Type 0} where
  abbrev pub lists_in : Records K → Lists K
  lists_in m = record { tracks = m.tracks.now; runs = m.runs.now; connections = m.connections.now; settings = m.settings.now }

  abbrev pub lists_mut : RecordsMut K → Lists K
  lists_mut m = record { tracks = m.tracks.now; runs = m.runs.now; connections = m.connections.now; settings = m.settings.now }

  -- what is entered of each list of a memory, and all of the settings
  abbrev pub lists_entered : Memory K → Lists K
  lists_entered m = record {
    tracks = take m.track_count m.tracks;
    runs = take m.run_count m.runs;
    connections = take m.connection_count m.connections;
    settings = m.settings;
  }

  -- the register of all that the lists hold
  abbrev pub register_lent : Time K → Lists K → Register K
  register_lent t l = register_from t l.tracks l.runs l.connections l.settings

  -- the same memories are lent after a call as before it
  pub record SameRecords (m m' : RecordsMut K) : Type 0 where
    pub tracks : m'.tracks.ghost_name ≡ m.tracks.ghost_name
    pub runs : m'.runs.ghost_name ≡ m.runs.ghost_name
    pub connections : m'.connections.ghost_name ≡ m.connections.ghost_name
    pub settings : m'.settings.ghost_name ≡ m.settings.ghost_name
