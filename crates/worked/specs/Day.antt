-- The worked day: three runs on one single track, and what the rules say of them, number by number. Assumes nothing.
use Rattle.std.specs.Prelude.{◌≡◌, ℕ, [], ◌∷◌, Some, None}
use Rattle.kinds.specs.declared.Seconds.{Seconds}
use Rattle.kinds.specs.Models.{seconds_time}
use Rattle.network.specs.Network.{NoTable, Names, along}
use Rattle.network.specs.Refusals.{Passed}
use Rattle.records.specs.Register.{Register}
use Rattle.force.specs.Constraints.{arcs_in_force, in_force}
use Rattle.rules.specs.declared.switches.Switch.TheVariants.{Order}
use Rattle.rules.specs.Rows.{turning_rows, report_rows, hold_rows, release_rows}
use Rattle.registers.specs.Steps.{set_switch, report, hold}
use Rattle.worked.specs.Words.{sec, seconds, Shows, Taken, Refused}
use Rattle.worked.specs.Runs.{single_track, train_101, train_202, train_103, day, Entered}
use Rattle.worked.specs.Circle.{CircleFacts}
use Rattle.worked.specs.Change.{ChangeFacts}

-- turning an order so that the higher run is ahead
abbrev pub turned : Register Seconds → ℕ → ℕ → Register Seconds
turned R i j = set_switch R (Order i j) 1

-- No row refuses the track or one of the runs. The day runs to its schedule, opens, and costs nothing.
pub record Opened : Type 0 where
  pub entered : Entered (single_track 180) train_101 train_202 train_103
  pub opens : Taken seconds_time [] day
  pub shows : Shows seconds_time day (seconds (0 ∷ 600 ∷ 660 ∷ 1260 ∷ 1320 ∷ 1920 ∷ [])) 0

-- train 101 is reported away at 300
abbrev pub late_day : Register Seconds
late_day = report seconds_time day 0 (sec 300)

-- All three runs are 300 late. Train 202 can no longer go ahead of train 101, which has departed.
pub record Late : Type 0 where
  pub taken : Taken seconds_time (report_rows seconds_time day 0 (sec 300)) late_day
  pub shows : Shows seconds_time late_day (seconds (300 ∷ 900 ∷ 960 ∷ 1560 ∷ 1620 ∷ 2220 ∷ [])) 900
  pub too_late : Refused seconds_time (turning_rows seconds_time late_day (Order 0 1) 1) (turned late_day 0 1) 9

-- Train 103 cannot go ahead of train 202, whose stock it needs: nothing but the ring refuses it. The ring goes from the departure of
-- train 202 to its arrival, to the departure of train 103, to its arrival, and back.
pub record Ringed : Type 0 where
  pub refused : Refused seconds_time (turning_rows seconds_time day (Order 1 2) 1) (turned day 1 2) 12
  pub passed : Passed (turning_rows seconds_time day (Order 1 2) 1)
  pub no_table : NoTable seconds_time (in_force seconds_time (turned day 1 2))
  pub named : Names seconds_time (arcs_in_force seconds_time (turned day 1 2)) (2 ∷ 3 ∷ 4 ∷ 5 ∷ [])
  pub total : along seconds_time (arcs_in_force seconds_time (turned day 1 2)) seconds_time.none named.circuit ≡ sec 1320

-- Train 202 may go ahead of train 101: 1,320 late for the one, 180 for train 103, and 300 for the turned order.
pub record Tried : Type 0 where
  pub taken : Taken seconds_time (turning_rows seconds_time day (Order 0 1) 1) (turned day 0 1)
  pub shows : Shows seconds_time (turned day 0 1) (seconds (1320 ∷ 1920 ∷ 660 ∷ 1260 ∷ 1500 ∷ 2100 ∷ [])) 1800

-- train 202 is held until 700
abbrev pub held_day : Register Seconds
held_day = hold seconds_time day 1 (Some (sec 700))

-- Trains 202 and 103 are 40 late. The slip of the hold releases it, and the register is that of the day again.
pub record Held : Type 0 where
  pub taken : Taken seconds_time (hold_rows seconds_time day 1 (sec 700)) held_day
  pub shows : Shows seconds_time held_day (seconds (0 ∷ 600 ∷ 700 ∷ 1300 ∷ 1360 ∷ 1960 ∷ [])) 80
  pub releases : (plan : ℕ) → Taken seconds_time (release_rows seconds_time held_day plan plan 1) (hold seconds_time held_day 1 None)
  pub again : hold seconds_time held_day 1 None ≡ day

-- The whole day. Each fact starts from the day as it was opened.
pub record WorkedDay : Type 0 where
  pub opened : Opened
  pub late : Late
  pub ring : Ringed
  pub tried : Tried
  pub held : Held
  -- three runs in a circle, and a connection with changes
  pub circle : CircleFacts
  pub changes : ChangeFacts
