-- A refusal that is not for a ring names none.
use Rattle.std.proofs.Common.{ℕ, List, Err}
use Rattle.kinds.specs.Time.{Time}
use Rattle.network.specs.declared.faults.NetworkFault.TheVariants as network
use Rattle.network.specs.Refusals.{Row, First}
use Rattle.network.proofs.Refusals.{Under, first_under}
use Rattle.records.specs.Register.{Register}
use Rattle.rules.specs.declared.faults.PlanFault.{PlanFault}
use Rattle.rules.specs.declared.faults.PlanFault.TheVariants as refused
use Rattle.rules.specs.Faults.{plan_number, plan_place}
use Rattle.journal.specs.declared.calls.CallFault.TheVariants as fault
use Rattle.journal.specs.Promise.{RingTold}

module _ {K : Type 0} (t : Time K) (R : Register K) (ring : List ℕ) (rows : List Row) (under : Under 12 rows) where
  pub none_told : (f : PlanFault) → First rows (plan_number f) (plan_place f) → RingTold t R ring (Err (fault.Plan f))
  none_told (refused.Network (network.Ring count)) h = absurd (first_under 12 rows 0 under h)
  none_told _ h = tt
