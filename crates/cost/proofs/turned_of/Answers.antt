use Rattle.std.proofs.Common.{refl, ap, arith}
use Rattle.records.specs.Entered.{register_in}
use Rattle.records.proofs.Walks.{past, reached, met}
use Rattle.force.specs.Force.{track_in}
use Rattle.cost.specs.Cost.{sum_below, turn_cost}
use Rattle.cost.proofs.Sums.{sum_more}
use Rattle.cost.proofs.Turned.{turned_reached, turn_is, penalty_small}
use Rattle.cost.proofs.turned_of.Goals as goal

pub loop-next-init : goal.loop-next-init
loop-next-init g c =
    let t = g.K.Kind.time in
    let R = register_in t c.args.layout.now.entered.now in
    let j = c.args.j in
    let w = reached (track_in t R) j j _ (omega arith) refl c.before-next.ensures in
    let start = turned_reached t R j j _ w in
    (omega arith, w.low, w.on, omega (arith, w.low))

pub setting-requires : goal.setting-requires
setting-requires g c = (met (track_in g.K.Kind.time (register_in g.K.Kind.time c.args.layout.now.entered.now)) _ c.args.j c.in-Some.i _ c.requires.inside c.loop-next.invariant.2 c.in-Some.is).ordered

pub loop-next-preserved : goal.loop-next-preserved
loop-next-preserved g c =
    let t = g.K.Kind.time in
    let e = c.args.layout.now.entered.now in
    let R = register_in t e in
    let f = track_in t R in
    let j = c.args.j in
    let i = c.in-Some.i in
    let s = met f _ j i _ c.requires.inside c.loop-next.invariant.2 c.in-Some.is in
    let w = reached f j i _ (omega (arith, s.ordered.below)) s.ordered.shared c.before-next-in-Some.ensures in
    let sum = ap (λ o. sum_below (past o) (turn_cost t R j)) c.in-Some.is in
    let more = sum_more (turn_cost t R j) i in
    let one = turn_is t R j i _ _ c.run.result c.track-penalty.result s.ordered.shared c.setting.ensures.value c.run.ensures c.track-penalty.ensures c.penalty_if-sum.ensures.cost in
    let rest = turned_reached t R j i _ w in
    let small = penalty_small t R j e.limits.limits c.requires.inside c.run.result c.track-penalty.result c.run.ensures c.track-penalty.ensures in (
      omega (arith, c.loop-next.invariant.0),
      omega (arith, w.low, s.ordered.below),
      w.on,
      omega (arith, w.low, s.at, c.loop-next.invariant.3, c.penalty_if-sum.ensures.few),
    )
