-- What a settled table, and a traced ring, say of the network.
use Rattle.std.proofs.Common.{ℕ, ◌-◌, List, [], length, refl, arith}
use Rattle.kinds.specs.Time.{Time, Laws}
use Rattle.network.specs.declared.Arc.{Arc}
use Rattle.network.specs.Network.{Ring, HasRing, Table, Meets, NoTable, Least}
use Rattle.network.specs.Reckoning.{at, placed, network_of}
use Rattle.network.specs.Rounds.{InLimits, Settled}
use Rattle.network.proofs.Walks.{fits, latest_size}
use Rattle.network.proofs.Tables.{no_ring, least_is}

module _ {K : Type 0} {t : Time K} (laws : Laws t) (floors : List K) (arcs : List (Arc K)) (limits : InLimits t floors arcs) where
  module _ (table : List K) (s : Settled t floors arcs table) where
    small : Table t (network_of t floors arcs) (at t table)
    small v h = let p = latest_size laws floors arcs limits (length floors - 1) table s.latest (omega arith) v h in omega arith

    meets : Meets t (network_of t floors arcs) (at t table)
    meets = record {
      floors = λ v h. s.latest.walks.latest v 0 _ (omega arith) (record { first = v; walk = []; inside = h; chain = refl; count = refl; value = refl });
      arcs = s.met;
    }

    pub settled_least : Least t (network_of t floors arcs) (at t table)
    settled_least = least_is laws (network_of t floors arcs) (fits laws floors arcs limits) limits.few limits.sized (at t table) (length floors - 1) (omega arith) small meets s.latest.walks refl

    pub settled_no_ring : HasRing t (placed t arcs) → ⊥
    settled_no_ring r = no_ring laws (network_of t floors arcs) (fits laws floors arcs limits) limits.few (at t table) small meets r.0 r.1

  pub ring_no_table : (ks : List ℕ) → Ring t (placed t arcs) ks → NoTable t (network_of t floors arcs)
  ring_no_table ks r time small m = no_ring laws (network_of t floors arcs) (fits laws floors arcs limits) limits.few time small m ks r
