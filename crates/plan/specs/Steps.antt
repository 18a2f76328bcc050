-- What a taken call writes: the memory after it. Assumes nothing.
use Rattle.std.specs.Prelude.{ℕ, ◌+◌, ◌/◌, ◌%◌, cond, List, ◌++◌, take, drop, replicate, Some, None, Option, ◌==◌, slice_set}
use Rattle.kinds.specs.Time.{Time}
use Rattle.records.specs.declared.Track.{Track}
use Rattle.records.specs.declared.Run.{Run}
use Rattle.records.specs.declared.Connection.{Connection}
use Rattle.records.specs.Records.{run_at, track_of}
use Rattle.records.specs.Places.{total, count}
use Rattle.records.specs.Register.{Memory, register_of}
use Rattle.rules.specs.declared.switches.Switch.{Switch}
use Rattle.rules.specs.Rows.{setting_place}

-- so many bytes from a place on are 0, the others as they were
abbrev pub cleared : List ℕ → ℕ → ℕ → List ℕ
cleared bytes start number = take start bytes ++ (replicate number 0 ++ drop (start + number) bytes)

module _ {K : Type 0} where
  abbrev pub with_runs : Memory K → List (Run K) → Memory K
  with_runs m runs = record m { runs = runs }

  abbrev pub with_settings : Memory K → List ℕ → Memory K
  with_settings m settings = record m { settings = settings }

  -- a run as it is entered
  abbrev pub unused : Run K → Run K
  unused x = record x { departed = None; arrived = None; hold = None }

  -- side 0 is the departure, side 1 the arrival
  abbrev pub reported : Run K → ℕ → K → Run K
  reported x side at = record x { departed = cond (side == 0) (Some at) x.departed; arrived = cond (side == 0) x.arrived (Some at) }

  abbrev pub holding : Run K → Option K → Run K
  holding x hold = record x { hold = hold }

  -- a track behind those that are entered
  abbrev pub track_memory : Memory K → Track K → Memory K
  track_memory m x = record m { tracks = slice_set m.tracks m.track_count x; track_count = m.track_count + 1 }

  -- a connection behind those that are entered, with its byte cleared
  abbrev pub connection_memory : Memory K → Connection K → Memory K
  connection_memory m x = record m {
    connections = slice_set m.connections m.connection_count x;
    settings = slice_set m.settings (4096 + m.connection_count) 0;
    connection_count = m.connection_count + 1;
  }

  module _ (t : Time K) where
    -- how many orders there are, and how many more there are with one more run on track x
    abbrev pub orders_entered : Memory K → ℕ
    orders_entered m = total (track_of t (take m.run_count m.runs)) m.run_count

    abbrev pub orders_added : Memory K → ℕ → ℕ
    orders_added m x = count (track_of t (take m.run_count m.runs)) x m.run_count

    -- a run behind those that are entered, with the bytes of its orders, which lie behind those of all earlier ones, cleared
    abbrev pub run_memory : Memory K → Run K → Memory K
    run_memory m x = record m {
      runs = slice_set m.runs m.run_count (unused x);
      settings = cleared m.settings (orders_entered m) (orders_added m x.track);
      run_count = m.run_count + 1;
    }

    abbrev pub report_memory : Memory K → ℕ → K → Memory K
    report_memory m v at = with_runs m (slice_set m.runs (v / 2) (reported (run_at t m.runs (v / 2)) (v % 2) at))

    abbrev pub hold_memory : Memory K → ℕ → Option K → Memory K
    hold_memory m r hold = with_runs m (slice_set m.runs r (holding (run_at t m.runs r) hold))

    -- the byte of a switch, with another setting
    abbrev pub switch_memory : Memory K → Switch → ℕ → Memory K
    switch_memory m s setting = with_settings m (slice_set m.settings (setting_place t (register_of t m) s) setting)
