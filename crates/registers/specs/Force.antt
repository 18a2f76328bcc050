-- What registers that say the same share: what they put in force, its least times and rings, and what they cost. Assumes nothing.
use Rattle.std.specs.Prelude.{◌≡◌, ℕ, List}
use Rattle.kinds.specs.Time.{Time}
use Rattle.network.specs.Network.{HasRing, Names, Table, Meets, NoTable, Least}
use Rattle.records.specs.Register.{Register}
use Rattle.records.specs.Stored.{Limits, Drafted}
use Rattle.force.specs.Constraints.{arcs_in_force, in_force}
use Rattle.cost.specs.Cost.{delay_cost_lem}
use Rattle.registers.specs.Steps.{Same}

module _ {K : Type 0} (t : Time K) where
  -- what is so of R is so of S
  pub record ForceShared (R S : Register K) : Type 0 where
    pub table : (time : ℕ → K) → Table t (in_force t R) time → Table t (in_force t S) time
    pub meets : (time : ℕ → K) → Meets t (in_force t R) time → Meets t (in_force t S) time
    pub least : (time : ℕ → K) → Least t (in_force t R) time → Least t (in_force t S) time
    pub no_table : NoTable t (in_force t R) → NoTable t (in_force t S)
    pub has_ring : HasRing t (arcs_in_force t R) → HasRing t (arcs_in_force t S)
    pub names : (events : List ℕ) → Names t (arcs_in_force t R) events → Names t (arcs_in_force t S) events
    pub cost : (time : ℕ → K) → delay_cost_lem t R time ≡ delay_cost_lem t S time
    pub limits : Limits t R → Limits t S
    pub drafted : Drafted t R → Drafted t S

  abbrev pub SameForce : Type 0
  SameForce = (R S : Register K) → Same t R S → ForceShared R S
