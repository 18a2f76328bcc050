-- What a reckoning of the constraints in force leaves in the memories of times and of the ring. Assumes nothing.
use Rattle.std.specs.Prelude.{◌≡◌, ℕ, ◌*◌, ◌≤◌, List, length, take, drop, Ok, Err, Result}
use Rattle.kinds.specs.Time.{Time}
use Rattle.network.specs.declared.faults.NetworkFault.{NetworkFault}
use Rattle.network.specs.declared.faults.NetworkFault.TheVariants as fault
use Rattle.network.specs.Network.{Least, HasRing, Names, NoTable}
use Rattle.network.specs.Reckoning.{at}
use Rattle.records.specs.Register.{Register}
use Rattle.force.specs.Constraints.{arcs_in_force, in_force}

module _ {K : Type 0} (t : Time K) (R : Register K) where
  -- taken, the front of the times is the least table of what is in force and the rest is as it was; refused, all of it is
  abbrev pub TimesAfter : List K → List K → Result (Unit {0}) NetworkFault → Type 0
  TimesAfter was times (Ok x) = Least t (in_force t R) (at t times) × (drop (2 * length R.runs) times ≡ drop (2 * length R.runs) was)
  TimesAfter was times (Err f) = times ≡ was

  -- a ring of what is in force stands at the front of ring memory, and so no table meets it
  pub record RingFound (was ring : List ℕ) (count : ℕ) : Type 0 where
    pub names : Names t (arcs_in_force t R) (take count ring)
    pub none : NoTable t (in_force t R)
    pub rest : drop count ring ≡ drop count was
    pub few : count ≤ 2 * length R.runs

  -- a ring is the only fault
  abbrev pub RingOnly : List ℕ → List ℕ → NetworkFault → Type 0
  RingOnly was ring (fault.Ring count) = RingFound was ring count
  RingOnly was ring _ = ⊥

  -- taken, there is no ring and ring memory is as it was
  abbrev pub RingAfter : List ℕ → List ℕ → Result (Unit {0}) NetworkFault → Type 0
  RingAfter was ring (Ok x) = (HasRing t (arcs_in_force t R) → ⊥) × (ring ≡ was)
  RingAfter was ring (Err f) = RingOnly was ring f
