-- The memory that a plan speaks of: lent lists, and how many records its numbers say are entered. Assumes nothing.
use Rattle.std.specs.Prelude.{ℕ, List}
use Rattle.records.specs.declared.Track.{Track}
use Rattle.records.specs.declared.Run.{Run}
use Rattle.records.specs.declared.Connection.{Connection}
use Rattle.records.specs.Lent.{Lists}
use Rattle.records.specs.Register.{Memory}
use Rattle.plan.specs.declared.states.Numbers.{Numbers}

module _ {K : Type 0} where
  abbrev pub memory : Numbers → Lists K → Memory K
  memory n l = record {
    tracks = l.tracks;
    runs = l.runs;
    connections = l.connections;
    settings = l.settings;
    track_count = n.tracks;
    run_count = n.runs;
    connection_count = n.connections;
  }

  -- lists that are lent one by one
  abbrev pub lists : List (Track K) → List (Run K) → List (Connection K) → List ℕ → Lists K
  lists tracks runs connections settings = record { tracks = tracks; runs = runs; connections = connections; settings = settings }
