-- The constraints in force: the network of a register's floors and arcs. Assumes nothing.
use Rattle.std.specs.Prelude.{◌*◌, length}
use Rattle.kinds.specs.Time.{Time}
use Rattle.network.specs.declared.Arc.{Arc}
use Rattle.network.specs.Network.{Arcs, Network}
use Rattle.records.specs.Register.{Register}
use Rattle.force.specs.Force.{InForce}
use Rattle.force.specs.Floors.{floor_of}

module _ {K : Type 0} (t : Time K) where
  -- an arc names itself
  abbrev pub arcs_in_force : Register K → Arcs K
  arcs_in_force R = record { Name = Arc K; Has = InForce t R; arc = λ a. a }

  abbrev pub in_force : Register K → Network K
  in_force R = record { events = 2 * length R.runs; floor = floor_of t R; arcs = arcs_in_force R }
