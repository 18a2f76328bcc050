-- The floors of a register's events: a report where there is one, else the schedule, for a departure the later of that and the
-- hold. Assumes nothing.
use Rattle.std.specs.Prelude.{ℕ, ◌/◌, ◌%◌, cond, Some, None, Option, ◌==◌}
use Rattle.std.specs.Option.{unwrap_or}
use Rattle.kinds.specs.Time.{Time}
use Rattle.records.specs.declared.Run.{Run}
use Rattle.records.specs.Register.{Register}
use Rattle.force.specs.Force.{run_in}

module _ {K : Type 0} (t : Time K) where
  abbrev pub later_of : K → K → K
  later_of a b = cond (t.before a b) b a

  -- the later of a schedule and a hold, if there is one
  abbrev pub held : K → Option K → K
  held schedule None = schedule
  held schedule (Some hold) = later_of schedule hold

  abbrev pub departure_floor_lem : Run K → K
  departure_floor_lem x = unwrap_or x.departed (held x.departure x.hold)

  abbrev pub arrival_floor_lem : Run K → K
  arrival_floor_lem x = unwrap_or x.arrived x.arrival

  -- an even event is the departure of a run, an odd one its arrival
  abbrev pub floor_of : Register K → ℕ → K
  floor_of R v = cond (v % 2 == 0) (departure_floor_lem (run_in t R (v / 2))) (arrival_floor_lem (run_in t R (v / 2)))
