use Rattle.std.proofs.Common.{refl, arith}
use Rattle.records.specs.Entered.{register_in}
use Rattle.records.proofs.Walks.{reached, met}
use Rattle.force.specs.Added.{Among, OrderOf}
use Rattle.force.specs.Force.{track_in}
use Rattle.force.proofs.Adds.{added_none, added_back}
use Rattle.force.proofs.Parts.{order_is}
use Rattle.force.proofs.arcs.ArcList.push_orders_of.Goals as goal

pub loop-next-init : goal.loop-next-init
loop-next-init g c =
    let t = g.K.Kind.time in
    let R = register_in t c.args.layout.now.entered.now in
    let j = c.args.j in
    let w = reached (track_in t R) j j _ (omega arith) refl c.before-next.ensures in
    (added_none t (Among (OrderOf t R j) _ j) _ (λ a x. w.none x.0 x.1.0 x.1.1 x.1.2.0), w.low, w.on, omega (arith, w.counted))

pub setting-requires : goal.setting-requires
setting-requires g c = (met (track_in g.K.Kind.time (register_in g.K.Kind.time c.args.layout.now.entered.now)) _ c.args.j c.in-Some.i _ c.requires.inside c.loop-next.invariant.2 c.in-Some.is).ordered

pub push_order-requires : goal.push_order-requires
push_order-requires g c =
    let e = c.args.layout.now.entered.now in
    let s = met (track_in g.K.Kind.time (register_in g.K.Kind.time e)) _ c.args.j c.in-Some.i _ c.requires.inside c.loop-next.invariant.2 c.in-Some.is in
    let few = e.limits.limits.few_runs in
    record { few = (omega (arith, s.ordered.below, c.requires.inside), (omega (arith, c.requires.inside), (c.setting.ensures.small, omega (arith, s.counted, c.loop-next.invariant.3, c.loop-next.invariant.0.long, c.requires.room)))) }

pub loop-next-preserved : goal.loop-next-preserved
loop-next-preserved g c =
    let t = g.K.Kind.time in
    let R = register_in t c.args.layout.now.entered.now in
    let f = track_in t R in
    let j = c.args.j in
    let i = c.in-Some.i in
    let s = met f _ j i _ c.requires.inside c.loop-next.invariant.2 c.in-Some.is in
    let w = reached f j i _ (omega (arith, s.ordered.below)) s.ordered.shared c.before-next-in-Some.ensures in
    let one = order_is t R c.track-track.result c.setting.result i j c.run.result c.run-run.result _ _ c.track-track.ensures c.setting.ensures.value c.run.ensures c.run-run.ensures s.ordered.shared c.push_order.ensures.added in (
      added_back t (OrderOf t R j) _ _ _ _ i _ j w.low s.at c.loop-next.invariant.1 (λ r a l h x. w.none r l h x.0) c.loop-next.invariant.0 one,
      omega (arith, w.low, s.ordered.below),
      w.on,
      omega (arith, s.counted, w.counted, c.push_order.ensures.room, c.loop-next.invariant.3),
    )
