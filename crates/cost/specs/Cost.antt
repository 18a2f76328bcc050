-- The delay cost of a table of times: what late arrivals, broken connections and turned orders cost together. Assumes nothing.
use Rattle.std.specs.Prelude.{ℕ, zero, suc, ◌+◌, ◌*◌, ◌≤◌, if◌then◌else◌, ◌&&◌, length, ◌==◌}
use Rattle.kinds.specs.Time.{Time}
use Rattle.network.specs.Network.{Table, Meets, Least}
use Rattle.records.specs.Register.{Register}
use Rattle.records.specs.Stored.{Limits}
use Rattle.force.specs.Force.{arrival_of, run_in, track_in, track_under, connection_in}
use Rattle.force.specs.Constraints.{in_force}

-- f 0 + … + f (n − 1)
abbrev pub sum_below : ℕ → (ℕ → ℕ) → ℕ
sum_below zero f = 0
sum_below (suc n) f = f n + sum_below n f

module _ {K : Type 0} (t : Time K) where
  module _ (R : Register K) where
    -- run r costs its weight times how much later than its schedule it arrives
    abbrev pub late_cost_lem : (ℕ → K) → ℕ → ℕ
    late_cost_lem time r = (run_in t R r).weight * t.late (time (arrival_of r)) (run_in t R r).arrival

    -- connection c costs its penalty if it is broken
    abbrev pub break_cost : ℕ → ℕ
    break_cost c = if R.link c == 1 then (connection_in t R c).penalty else 0

    -- the order of run j with an earlier run i costs the penalty of their track if they share one and j is put ahead
    abbrev pub turn_cost : ℕ → ℕ → ℕ
    turn_cost j i = if track_in t R i == track_in t R j && R.order i j == 1 then (track_under t R j).penalty else 0

    -- the orders of run j with all earlier runs
    abbrev pub turn_costs : ℕ → ℕ
    turn_costs j = sum_below j (turn_cost j)

    -- the three parts
    abbrev pub lateness_cost_lem : (ℕ → K) → ℕ
    lateness_cost_lem time = sum_below (length R.runs) (late_cost_lem time)

    abbrev pub broken_cost_lem : ℕ
    broken_cost_lem = sum_below (length R.connections) break_cost

    abbrev pub turned_cost_lem : ℕ
    turned_cost_lem = sum_below (length R.runs) turn_costs

    abbrev pub delay_cost_lem : (ℕ → K) → ℕ
    delay_cost_lem time = lateness_cost_lem time + (broken_cost_lem + turned_cost_lem)

  -- no table that meets the constraints in force costs less than their least times
  abbrev pub CostsLeast : Type 0
  CostsLeast =
      (R : Register K) → Limits t R → (time : ℕ → K) → Least t (in_force t R) time
      → (other : ℕ → K) → Table t (in_force t R) other → Meets t (in_force t R) other
      → delay_cost_lem R time ≤ delay_cost_lem R other
