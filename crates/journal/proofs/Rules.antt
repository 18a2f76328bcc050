-- The rows of the calls have numbers below that of a ring.
use Rattle.std.proofs.Common.{ℕ, arith}
use Rattle.kinds.specs.Time.{Time}
use Rattle.network.proofs.Refusals.{Under}
use Rattle.records.specs.declared.Track.{Track}
use Rattle.records.specs.declared.Run.{Run}
use Rattle.records.specs.declared.Connection.{Connection}
use Rattle.records.specs.Register.{Register}
use Rattle.rules.specs.declared.switches.Switch.{Switch}
use Rattle.rules.specs.declared.switches.Switch.TheVariants as switch
use Rattle.rules.specs.Rows.{track_rows, run_rows, connection_rows, setting_rows, turning_rows, report_rows, hold_rows, event_rows, switch_rows}

module _ {K : Type 0} (t : Time K) (R : Register K) where
  pub track_under : (x : Track K) → Under 12 (track_rows t R x)
  track_under x = (omega arith, (omega arith, (omega arith, tt)))

  pub run_under : (x : Run K) → Under 12 (run_rows t R x)
  run_under x = (omega arith, (omega arith, (omega arith, (omega arith, (omega arith, (omega arith, tt))))))

  pub connection_under : (x : Connection K) → Under 12 (connection_rows t R x)
  connection_under x = (omega arith, (omega arith, (omega arith, (omega arith, (omega arith, (omega arith, tt))))))

  pub setting_under : (s : Switch) (setting : ℕ) → Under 12 (setting_rows t R s setting)
  setting_under (switch.Order i j) setting = (omega arith, (omega arith, (omega arith, (omega arith, (omega arith, (omega arith, tt))))))
  setting_under (switch.Connection c) setting = (omega arith, (omega arith, (omega arith, tt)))

  pub turning_under : (s : Switch) (setting : ℕ) → Under 12 (turning_rows t R s setting)
  turning_under (switch.Order i j) setting = (omega arith, (omega arith, (omega arith, (omega arith, (omega arith, (omega arith, (omega arith, tt)))))))
  turning_under (switch.Connection c) setting = (omega arith, (omega arith, (omega arith, (omega arith, tt))))

  pub report_under : (v : ℕ) (x : K) → Under 12 (report_rows t R v x)
  report_under v x = (omega arith, (omega arith, (omega arith, tt)))

  pub hold_under : (r : ℕ) (until : K) → Under 12 (hold_rows t R r until)
  hold_under r until = (omega arith, (omega arith, (omega arith, (omega arith, tt))))

  pub event_under : (v : ℕ) → Under 12 (event_rows t R v)
  event_under v = (omega arith, tt)

  pub switch_under : (s : Switch) → Under 12 (switch_rows t R s)
  switch_under (switch.Order i j) = (omega arith, (omega arith, (omega arith, (omega arith, tt))))
  switch_under (switch.Connection c) = (omega arith, tt)
