-- Three up runs on one track whose orders are set in a circle. Assumes nothing.
use Rattle.std.specs.Prelude.{ℕ, [], ◌∷◌, None}
use Rattle.kinds.specs.declared.Seconds.{Seconds}
use Rattle.kinds.specs.Models.{seconds_time}
use Rattle.network.specs.Refusals.{Passed}
use Rattle.records.specs.declared.Run.{Run}
use Rattle.records.specs.Register.{Register}
use Rattle.rules.specs.declared.switches.Switch.TheVariants.{Order}
use Rattle.rules.specs.Rows.{setting_rows}
use Rattle.registers.specs.Steps.{set_switch}
use Rattle.worked.specs.Words.{Shows, seconds, Taken, Refused}
use Rattle.worked.specs.Runs.{single_track, a_run, three_runs, Entered}

-- three up runs, a minute after each other, as they are entered
abbrev pub train_301 : Run Seconds
train_301 = a_run 301 0 None 0 0 600

abbrev pub train_303 : Run Seconds
train_303 = a_run 303 0 None 0 60 660

abbrev pub train_305 : Run Seconds
train_305 = a_run 305 0 None 0 120 720

abbrev pub convoy : ℕ → Register Seconds
convoy headway = three_runs (single_track headway) train_301 train_303 train_305

-- run 0 ahead of run 1, run 1 ahead of run 2, and run 2 ahead of run 0
abbrev pub circle : ℕ → Register Seconds
circle headway = set_switch (convoy headway) (Order 0 2) 1

pub record CircleFacts : Type 0 where
  -- no row refuses the records with headway 0 or 1, or the setting of the order
  pub entered_0 : Entered (single_track 0) train_301 train_303 train_305
  pub entered_1 : Entered (single_track 1) train_301 train_303 train_305
  pub set : (headway : ℕ) → Passed (setting_rows seconds_time (convoy headway) (Order 0 2) 1)
  -- with headway 0 the waits round the circle total nothing, which is no ring: the three run side by side, and the plan opens
  pub side_by_side : Shows seconds_time (circle 0) (seconds (120 ∷ 720 ∷ 120 ∷ 720 ∷ 120 ∷ 720 ∷ [])) 480
  pub opens : Taken seconds_time [] (circle 0)
  -- with headway 1 they total 3: no table meets them, and the opening is refused
  pub stuck : Refused seconds_time [] (circle 1) 12
