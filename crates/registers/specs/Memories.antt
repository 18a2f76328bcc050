-- What a taken call writes and what it does to the register agree. Assumes nothing.
use Rattle.std.specs.Prelude.{◌≡◌, ℕ, ◌+◌, ◌/◌, ◌<◌, ◌≤◌, Option}
use Rattle.kinds.specs.Time.{Time}
use Rattle.network.specs.Refusals.{Passed}
use Rattle.records.specs.declared.Track.{Track}
use Rattle.records.specs.declared.Run.{Run}
use Rattle.records.specs.declared.Connection.{Connection}
use Rattle.records.specs.Register.{Memory, register_of}
use Rattle.records.specs.Stored.{Stored}
use Rattle.rules.specs.declared.switches.Switch.{Switch}
use Rattle.rules.specs.Rows.{RecordsListed, switch_rows}
use Rattle.plan.specs.Steps.{track_memory, connection_memory, orders_entered, orders_added, run_memory, report_memory, hold_memory, switch_memory}
use Rattle.registers.specs.Steps.{Same, empty, enter_track, enter_run, enter_connection, set_switch, report, hold}

module _ {K : Type 0} (t : Time K) where
  -- A memory with nothing entered stands for the empty register, and each step on a memory is the step on the register that the
  -- memory stands for.
  pub record StepsOf (m : Memory K) : Type 0 where
    pub none : m.track_count ≡ 0 → m.run_count ≡ 0 → m.connection_count ≡ 0 → Same t (register_of t m) empty
    pub track : (x : Track K) → m.track_count < 64 → Same t (register_of t (track_memory m x)) (enter_track (register_of t m) x)
    pub run : (x : Run K) → m.run_count < 512 → orders_entered t m + orders_added t m x.track ≤ 4096 → Same t (register_of t (run_memory t m x)) (enter_run (register_of t m) x)
    pub connection : (x : Connection K) → m.connection_count < 512 → Same t (register_of t (connection_memory m x)) (enter_connection (register_of t m) x)
    pub switch : (s : Switch) (setting : ℕ) → Passed (switch_rows t (register_of t m) s) → Same t (register_of t (switch_memory t m s setting)) (set_switch (register_of t m) s setting)
    pub report : (v : ℕ) (at : K) → v / 2 < m.run_count → Same t (register_of t (report_memory t m v at)) (report t (register_of t m) v at)
    pub hold : (r : ℕ) (until : Option K) → r < m.run_count → Same t (register_of t (hold_memory t m r until)) (hold t (register_of t m) r until)

  abbrev pub StepsAgree : Type 0
  StepsAgree = (m : Memory K) → Stored t m → RecordsListed m → StepsOf m
