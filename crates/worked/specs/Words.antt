-- The words of the worked day: times in seconds, what a register shows, and which row answers a call that reckons. Assumes nothing.
use Rattle.std.specs.Prelude.{◌≡◌, ℕ, List, ◌++◌, map, pos}
use Rattle.kinds.specs.declared.Seconds.{Seconds}
use Rattle.kinds.specs.Time.{Time}
use Rattle.network.specs.Network.{Least}
use Rattle.network.specs.Reckoning.{at}
use Rattle.network.specs.Refusals.{Row, Passed, First}
use Rattle.records.specs.Register.{Register}
use Rattle.force.specs.Constraints.{in_force}
use Rattle.cost.specs.Cost.{delay_cost_lem}
use Rattle.plan.specs.Calls.{ring_rows}

-- so many seconds
abbrev pub sec : ℕ → Seconds
sec n = record { value = pos n }

abbrev pub seconds : List ℕ → List Seconds
seconds = map sec

module _ {K : Type 0} (t : Time K) where
  -- the least times of what a register puts in force, event by event, and what they cost
  pub record Shows (R : Register K) (times : List K) (cost : ℕ) : Type 0 where
    pub least : Least t (in_force t R) (at t times)
    pub costs : delay_cost_lem t R (at t times) ≡ cost

  -- a call with these rows of its own, which is to put R in force: no row applies, and no ring is in R
  abbrev pub Taken : List Row → Register K → Type 0
  Taken rows R = Passed (rows ++ ring_rows t R)

  -- or the first row that applies, the ring's among them, has this number
  abbrev pub Refused : List Row → Register K → ℕ → Type 0
  Refused rows R number = First (rows ++ ring_rows t R) number 0
