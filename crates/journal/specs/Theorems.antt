-- What follows for every plan that stands for books, and so after every list of calls. Assumes nothing.
use Rattle.std.specs.Prelude.{◌≡◌, ℕ, ◌≤◌, true, List, Err}
use Rattle.kinds.specs.Time.{Time}
use Rattle.network.specs.declared.faults.NetworkFault.TheVariants as network
use Rattle.network.specs.Network.{Table, Meets}
use Rattle.network.specs.Reckoning.{at}
use Rattle.force.specs.Constraints.{in_force}
use Rattle.cost.specs.Cost.{delay_cost_lem}
use Rattle.rules.specs.declared.faults.PlanFault.TheVariants as refused
use Rattle.journal.specs.declared.calls.Call.{Call}
use Rattle.journal.specs.declared.calls.Call.TheVariants as call
use Rattle.journal.specs.declared.calls.CallFault.TheVariants as fault
use Rattle.journal.specs.Books.{Books}
use Rattle.journal.specs.Memories.{Sizes, State}
use Rattle.journal.specs.Promise.{Stands, Told}

module _ {K : Type 0} where
  -- the calls that change reports and holds alone
  abbrev pub Floors : Call K → Type 0
  Floors (call.Report v x) = Unit {0}
  Floors (call.Hold r until) = Unit {0}
  Floors (call.Release r) = Unit {0}
  Floors _ = ⊥

  module _ (t : Time K) where
    -- no true reply refuses a report, a hold or a release for a ring
    abbrev pub NeverForRing : Type 0
    NeverForRing =
        (B : Books K) (s : State K) → Stands t B s → (l : Sizes) (c : Call K) → Floors c → (count : ℕ) (ring : List ℕ) (trial : List K)
        → Told t l B c (Err (fault.Plan (refused.Network (network.Ring count)))) ring trial → ⊥

    -- no table that meets what is in force costs less than the times shown
    abbrev pub ShownCostsLeast : Type 0
    ShownCostsLeast =
        (B : Books K) (s : State K) → Stands t B s → B.opened ≡ true → (other : ℕ → K) → Table t (in_force t B.register) other → Meets t (in_force t B.register) other
        → delay_cost_lem t B.register (at t s.times) ≤ delay_cost_lem t B.register other
