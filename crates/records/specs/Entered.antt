-- What is entered of a plan, as calls are handed it. Assumes nothing.
use Rattle.std.specs.Prelude.{◌≡◌, length}
use Rattle.kinds.specs.Time.{Time}
use Rattle.records.specs.declared.within.Entered.{Entered}
use Rattle.records.specs.Register.{Register, Memory, register_from, register_of}
use Rattle.records.specs.Lent.{Lists}
use Rattle.records.specs.Stored.{Stored}

-- what is entered, as lists
abbrev pub lists_of : {K : Type 0} {g : _} → Entered K g → Lists K
lists_of e = record { tracks = e.tracks.now; runs = e.runs.now; connections = e.connections.now; settings = e.settings.now }

module _ {K : Type 0} {g : _} (t : Time K) where
  -- the register of what is entered
  abbrev pub register_in : Entered K g → Register K
  register_in e = register_from t e.tracks.now e.runs.now e.connections.now e.settings.now

  -- what is entered of a memory that is stored: its register, with all of the settings
  pub record TakenFrom (m : Memory K) (e : Entered K g) : Type 0 where
    pub stored : Stored t m
    pub register : register_in e ≡ register_of t m
    pub settings : e.settings.now ≡ m.settings
    pub tracks : length e.tracks.now ≡ m.track_count
    pub runs : length e.runs.now ≡ m.run_count
    pub connections : length e.connections.now ≡ m.connection_count
