-- Registers that say the same refuse the same: the rows of each call on one answer as those on the other. Assumes nothing.
use Rattle.std.specs.Prelude.{ℕ, List}
use Rattle.kinds.specs.Time.{Time}
use Rattle.network.specs.Refusals.{Row, Passed, First}
use Rattle.records.specs.declared.Track.{Track}
use Rattle.records.specs.declared.Run.{Run}
use Rattle.records.specs.declared.Connection.{Connection}
use Rattle.records.specs.Register.{Register}
use Rattle.rules.specs.declared.switches.Switch.{Switch}
use Rattle.rules.specs.Rows.{track_rows, run_rows, connection_rows, switch_rows, setting_rows, turning_rows, event_rows, report_rows, hold_rows, release_rows}
use Rattle.plan.specs.Calls.{ring_rows}
use Rattle.registers.specs.Steps.{Same}

-- where no row of xs applies none of ys does, and the first of xs that applies has the number and the place of the first of ys
pub record Answered (xs ys : List Row) : Type 0 where
  pub passed : Passed xs → Passed ys
  pub first : (n p : ℕ) → First xs n p → First ys n p

module _ {K : Type 0} (t : Time K) where
  -- the rows on R answer as those on S
  pub record RowsShared (R S : Register K) : Type 0 where
    pub track : (x : Track K) → Answered (track_rows t R x) (track_rows t S x)
    pub run : (x : Run K) → Answered (run_rows t R x) (run_rows t S x)
    pub connection : (x : Connection K) → Answered (connection_rows t R x) (connection_rows t S x)
    pub switch : (s : Switch) → Answered (switch_rows t R s) (switch_rows t S s)
    pub setting : (s : Switch) (v : ℕ) → Answered (setting_rows t R s v) (setting_rows t S s v)
    pub turning : (s : Switch) (v : ℕ) → Answered (turning_rows t R s v) (turning_rows t S s v)
    pub event : (v : ℕ) → Answered (event_rows t R v) (event_rows t S v)
    pub report : (v : ℕ) (at : K) → Answered (report_rows t R v at) (report_rows t S v at)
    pub hold : (r : ℕ) (until : K) → Answered (hold_rows t R r until) (hold_rows t S r until)
    pub release : (plan slip_plan slip_run : ℕ) → Answered (release_rows t R plan slip_plan slip_run) (release_rows t S plan slip_plan slip_run)
    pub ring : Answered (ring_rows t R) (ring_rows t S)

  abbrev pub SameRows : Type 0
  SameRows = (R S : Register K) → Same t R S → RowsShared R S
