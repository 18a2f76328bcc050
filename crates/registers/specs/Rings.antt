-- Where some table meets a register, no report and no hold brings a ring. Assumes nothing.
use Rattle.std.specs.Prelude.{ℕ, List, Option}
use Rattle.kinds.specs.Time.{Time}
use Rattle.network.specs.Network.{HasRing, Names, Table, Meets}
use Rattle.records.specs.Register.{Register}
use Rattle.records.specs.Stored.{Limits}
use Rattle.force.specs.Constraints.{arcs_in_force, in_force}
use Rattle.registers.specs.Steps.{report, hold}

module _ {K : Type 0} (t : Time K) where
  -- whatever the report or the hold names
  pub record RingFree (R : Register K) : Type 0 where
    pub reporting : (v : ℕ) (at : K) → HasRing t (arcs_in_force t (report t R v at)) → ⊥
    pub reporting_names : (v : ℕ) (at : K) (events : List ℕ) → Names t (arcs_in_force t (report t R v at)) events → ⊥
    pub holding : (r : ℕ) (until : Option K) → HasRing t (arcs_in_force t (hold t R r until)) → ⊥
    pub holding_names : (r : ℕ) (until : Option K) (events : List ℕ) → Names t (arcs_in_force t (hold t R r until)) events → ⊥

  abbrev pub NeverRing : Type 0
  NeverRing = (R : Register K) → Limits t R → (time : ℕ → K) → Table t (in_force t R) time → Meets t (in_force t R) time → RingFree R
