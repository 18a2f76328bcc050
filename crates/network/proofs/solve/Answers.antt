use Rattle.std.proofs.Common.{◌-◌, length, take, drop, refl, arith, List, subst}
use Rattle.network.specs.Network.{Least}
use Rattle.network.specs.Reckoning.{at, network_of}
use Rattle.network.proofs.Chains.{chain_known}
use Rattle.network.proofs.Foremosts.{named, part_long}
use Rattle.network.proofs.Solved.{settled_least, settled_no_ring, ring_no_table}
use Rattle.network.proofs.solve.Goals.{in-None, in-Some}
use Rattle.network.proofs.solve.Goals as goal

pub name_ring-requires : goal.name_ring-requires
name_ring-requires g c =
    let t = g.K.Kind.time in
    let s = c.trace-circuit.result.start in
    let e = c.trace-circuit.result.end in
    let r = c.trace-circuit.ensures in
    let low = r.0 in
    let high = r.1 in
    let long = part_long c.trace-circuit.new.path s e (omega arith) in
    record {
      some = (omega arith, omega arith);
      known = chain_known t c.args.kept.now.arcs.now r.2.event r.2.event (take (e - s) (drop s c.trace-circuit.new.path)) r.2.closed;
    }

pub returns : goal.returns
returns g c =
    let laws = g.met.K.Kind.laws in
    let limits = c.args.kept.now.limits in
    elim c.match-settle.branch [
      | in-None w ↦
          (let s = w.in-None.ensures in
          let P : List g.row.K.Denot → Type 0 = λ times. Least g.K.Kind.time (network_of g.K.Kind.time c.args.kept.now.floors.now c.args.kept.now.arcs.now) (at g.K.Kind.time times) in
          rw w.result-is (subst P (cc (w.copy_from_slice.ensures.after)) (settled_least laws _ _ limits _ s), settled_no_ring laws _ _ limits _ s, cc))
      | in-Some w ↦
          (let r = w.trace-circuit.ensures in
          let high = r.1 in
          let long = part_long w.trace-circuit.new.path w.trace-circuit.result.start w.trace-circuit.result.end (omega arith) in
          rw (w.times-is, w.ring-is, w.result-is) (record { count = _; is = refl; names = named laws (length c.args.kept.now.floors.now) _ limits.sound _ _ limits.few r.2 w.name_ring.ensures.turned; none = ring_no_table laws _ _ limits _ r.2; rest = w.name_ring.ensures.rest; few = omega arith }, refl))
    ]
