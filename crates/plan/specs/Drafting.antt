-- What the calls on a draft refuse. Assumes nothing.
use Rattle.std.specs.Prelude.{ℕ, List, ◌++◌}
use Rattle.kinds.specs.Time.{Time}
use Rattle.network.specs.Refusals.{Row}
use Rattle.records.specs.declared.Track.{Track}
use Rattle.records.specs.declared.Run.{Run}
use Rattle.records.specs.declared.Connection.{Connection}
use Rattle.records.specs.Register.{Memory, register_of}
use Rattle.rules.specs.declared.switches.Switch.{Switch}
use Rattle.rules.specs.Rows.{draft_rows, track_rows, run_rows, connection_rows, switch_rows, setting_rows}
use Rattle.plan.specs.declared.states.Draft.{Draft}

-- a draft of which nothing is entered
abbrev pub blank : ℕ → Draft
blank number = record { numbers = record { number = number; tracks = 0; runs = 0; connections = 0 } }

-- The rows of each call: what every call on a draft refuses, then its own.
module _ {K : Type 0} (t : Time K) (m : Memory K) where
  abbrev pub track_call_rows : Track K → List Row
  track_call_rows x = draft_rows t m ++ track_rows t (register_of t m) x

  abbrev pub run_call_rows : Run K → List Row
  run_call_rows x = draft_rows t m ++ run_rows t (register_of t m) x

  abbrev pub connection_call_rows : Connection K → List Row
  connection_call_rows x = draft_rows t m ++ connection_rows t (register_of t m) x

  abbrev pub preset_call_rows : Switch → ℕ → List Row
  preset_call_rows s setting = draft_rows t m ++ setting_rows t (register_of t m) s setting

  abbrev pub setting_call_rows : Switch → List Row
  setting_call_rows s = draft_rows t m ++ switch_rows t (register_of t m) s
