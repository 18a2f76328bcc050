-- A connection in seconds with changes: the time of a departure counts the changes that led to it. Assumes nothing.
use Rattle.std.specs.Prelude.{ℕ, [], ◌∷◌, pos, None}
use Rattle.kinds.specs.declared.Changes.{Changes}
use Rattle.kinds.specs.Models.{changes_time}
use Rattle.network.specs.Refusals.{Passed}
use Rattle.records.specs.declared.Track.{Track}
use Rattle.records.specs.declared.Run.{Run}
use Rattle.records.specs.declared.Connection.{Connection}
use Rattle.records.specs.Register.{Register}
use Rattle.rules.specs.declared.switches.Switch.TheVariants.{Connection as Link}
use Rattle.rules.specs.Rows.{track_rows, run_rows, connection_rows, turning_rows}
use Rattle.registers.specs.Steps.{empty, enter_track, enter_run, enter_connection, set_switch}
use Rattle.worked.specs.Words.{Shows, Taken}

-- so many seconds and so many changes
abbrev pub after : ℕ → ℕ → Changes
after seconds changes = record { seconds = pos seconds; count = changes }

abbrev pub branch : Track Changes
branch = record { headway = after 180 0; meeting = after 60 0; penalty = 0 }

-- an up run of 600 seconds
abbrev pub branch_run : ℕ → ℕ → ℕ → ℕ → Run Changes
branch_run train track departure arrival = record {
  train = train;
  track = track;
  direction = 0;
  weight = 1;
  predecessor = None;
  departure = after departure 0;
  arrival = after arrival 0;
  running = after 600 0;
  dwell = after 0 0;
  departed = None;
  arrived = None;
  hold = None;
}

abbrev pub two_branches : Register Changes
two_branches = enter_track (enter_track empty branch) branch

-- the feeder, run 0, arrives at (900, 0); the onward run, run 1 on the other track, is to depart at (960, 0)
abbrev pub feeder : Run Changes
feeder = branch_run 401 0 300 900

abbrev pub onward : Run Changes
onward = branch_run 403 1 960 1560

-- to change takes 60 seconds and is one change; a broken connection costs 500
abbrev pub change : Connection Changes
change = record { feeder = 0; onward = 1; penalty = 500; time = after 60 1 }

abbrev pub kept : Register Changes
kept = enter_connection (enter_run (enter_run two_branches feeder) onward) change

abbrev pub broken : Register Changes
broken = set_switch kept (Link 0) 1

pub record ChangeFacts : Type 0 where
  -- no row refuses the records
  pub first_track : Passed (track_rows changes_time empty branch)
  pub second_track : Passed (track_rows changes_time (enter_track empty branch) branch)
  pub first_run : Passed (run_rows changes_time two_branches feeder)
  pub second_run : Passed (run_rows changes_time (enter_run two_branches feeder) onward)
  pub connection : Passed (connection_rows changes_time (enter_run (enter_run two_branches feeder) onward) change)
  -- kept, the onward departure is at (960, 1): on time, with one change behind it
  pub changed : Shows changes_time kept (after 300 0 ∷ after 900 0 ∷ after 960 1 ∷ after 1560 1 ∷ []) 0
  -- the connection may be broken; then it is at (960, 0)
  pub taken : Taken changes_time (turning_rows changes_time kept (Link 0) 1) broken
  pub unchanged : Shows changes_time broken (after 300 0 ∷ after 900 0 ∷ after 960 0 ∷ after 1560 0 ∷ []) 500
