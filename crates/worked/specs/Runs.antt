-- The track and the runs of the worked day, and the register of the day as it is entered. Assumes nothing.
use Rattle.std.specs.Prelude.{ℕ, Some, None, Option}
use Rattle.kinds.specs.declared.Seconds.{Seconds}
use Rattle.kinds.specs.Models.{seconds_time}
use Rattle.network.specs.Refusals.{Passed}
use Rattle.records.specs.declared.Track.{Track}
use Rattle.records.specs.declared.Run.{Run}
use Rattle.records.specs.Register.{Register}
use Rattle.rules.specs.Rows.{track_rows, run_rows}
use Rattle.registers.specs.Steps.{empty, enter_track, enter_run}
use Rattle.worked.specs.Words.{sec}

-- meeting 60, and 300 for a turned order
abbrev pub single_track : ℕ → Track Seconds
single_track headway = record { headway = sec headway; meeting = sec 60; penalty = 300 }

-- a run of 600 seconds on track 0 with weight 1; up is direction 0, down is 1
abbrev pub a_run : ℕ → ℕ → Option ℕ → ℕ → ℕ → ℕ → Run Seconds
a_run train direction predecessor dwell departure arrival = record {
  train = train;
  track = 0;
  direction = direction;
  weight = 1;
  predecessor = predecessor;
  departure = sec departure;
  arrival = sec arrival;
  running = sec 600;
  dwell = sec dwell;
  departed = None;
  arrived = None;
  hold = None;
}

-- train 101 goes up, train 202 comes down, and its stock goes up again as train 103 after at least 60 seconds
abbrev pub train_101 : Run Seconds
train_101 = a_run 101 0 None 0 0 600

abbrev pub train_202 : Run Seconds
train_202 = a_run 202 1 None 0 660 1260

abbrev pub train_103 : Run Seconds
train_103 = a_run 103 0 (Some 1) 60 1320 1920

-- Three runs on one track, entered one after the other: runs 0, 1 and 2, in each order the earlier run ahead. Run r has the events
-- 2 r, its departure, and 2 r + 1, its arrival.
abbrev pub three_runs : Track Seconds → Run Seconds → Run Seconds → Run Seconds → Register Seconds
three_runs line one two three = enter_run (enter_run (enter_run (enter_track empty line) one) two) three

-- no row refuses the track or one of the runs
pub record Entered (line : Track Seconds) (one two three : Run Seconds) : Type 0 where
  pub track : Passed (track_rows seconds_time empty line)
  pub first : Passed (run_rows seconds_time (enter_track empty line) one)
  pub second : Passed (run_rows seconds_time (enter_run (enter_track empty line) one) two)
  pub third : Passed (run_rows seconds_time (enter_run (enter_run (enter_track empty line) one) two) three)

-- the day as it is entered, with headway 180
abbrev pub day : Register Seconds
day = three_runs (single_track 180) train_101 train_202 train_103
