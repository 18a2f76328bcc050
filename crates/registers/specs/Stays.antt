-- What the rules let through keeps the limits, and what is drafted stays unreported and free of holds. Assumes nothing.
use Rattle.std.specs.Prelude.{ℕ, Some, None}
use Rattle.kinds.specs.Time.{Time}
use Rattle.network.specs.Refusals.{Passed}
use Rattle.records.specs.declared.Track.{Track}
use Rattle.records.specs.declared.Run.{Run}
use Rattle.records.specs.declared.Connection.{Connection}
use Rattle.records.specs.Register.{Register}
use Rattle.records.specs.Stored.{Limits, Drafted}
use Rattle.rules.specs.declared.switches.Switch.{Switch}
use Rattle.rules.specs.Rows.{track_rows, run_rows, connection_rows, setting_rows, turning_rows, report_rows, hold_rows, release_rows}
use Rattle.registers.specs.Steps.{empty, enter_track, enter_run, enter_connection, set_switch, report, hold}

module _ {K : Type 0} (t : Time K) where
  -- a step that no row refuses
  pub record StepsLimited (R : Register K) : Type 0 where
    pub track : (x : Track K) → Passed (track_rows t R x) → Limits t (enter_track R x)
    pub run : (x : Run K) → Passed (run_rows t R x) → Limits t (enter_run R x)
    pub connection : (x : Connection K) → Passed (connection_rows t R x) → Limits t (enter_connection R x)
    pub setting : (s : Switch) (v : ℕ) → Passed (setting_rows t R s v) → Limits t (set_switch R s v)
    pub turning : (s : Switch) (v : ℕ) → Passed (turning_rows t R s v) → Limits t (set_switch R s v)
    pub reporting : (v : ℕ) (at : K) → Passed (report_rows t R v at) → Limits t (report t R v at)
    pub holding : (r : ℕ) (until : K) → Passed (hold_rows t R r until) → Limits t (hold t R r (Some until))
    pub releasing : (plan slip_plan slip_run : ℕ) → Passed (release_rows t R plan slip_plan slip_run) → Limits t (hold t R slip_run None)

  -- a step on a draft, whatever it names
  pub record StepsDrafted (R : Register K) : Type 0 where
    pub track : (x : Track K) → Drafted t (enter_track R x)
    pub run : (x : Run K) → Drafted t (enter_run R x)
    pub connection : (x : Connection K) → Drafted t (enter_connection R x)
    pub switch : (s : Switch) (v : ℕ) → Drafted t (set_switch R s v)

  pub record LimitsKept : Type 0 where
    pub none : Limits t empty
    pub none_drafted : Drafted t empty
    pub steps : (R : Register K) → Limits t R → StepsLimited R
    pub drafted : (R : Register K) → Drafted t R → StepsDrafted R
