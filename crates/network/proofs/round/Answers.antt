use Rattle.std.proofs.Common.{◌≡◌, ◌<◌, length, ap, arith, rules}
use Rattle.std.proofs.lemmas.List.{get_or_read}
use Rattle.network.specs.Reckoning.{arc_at}
use Rattle.network.proofs.Rounds.{arc_is, arc_ends, brings, round_keeps, round_takes, sound_at}
use Rattle.network.proofs.round.Goals as goal
use Rattle.network.proofs.round.Goals.{then-not-compare, else-not-compare, In-Some}

pub offset_bounds-new-end : goal.offset_bounds-new-end
offset_bounds-new-end g c = let h = arc_ends c.args.old.now (sound_at c.args.old.now c.args.kept.now.limits c.requires.lengths.0) c.loop-i-test.true c.arc-item.is in search rules

pub offset_bounds-new-end-then-not-compare : goal.offset_bounds-new-end-then-not-compare
offset_bounds-new-end-then-not-compare g c = offset_bounds-new-end g (goal.at.offset_bounds-new-end-then-not-compare g c).In-Some

pub loop-i-preserved : goal.loop-i-preserved
loop-i-preserved g c =
    let old = c.args.old.now in
    let i = c.loop-i.i in
    let laws = g.met.K.Kind.laws in
    let turn = c.loop-i-test.true in
    let end : c.arc-item.result.to ≡ (arc_at g.K.Kind.time c.args.kept.now.arcs.now i).to = ap (λ a. a.to) (arc_is old (sound_at c.args.old.now c.args.kept.now.limits c.requires.lengths.0) turn c.arc-item.is) in
    let inside = arc_ends old (sound_at c.args.old.now c.args.kept.now.limits c.requires.lengths.0) turn c.arc-item.is in
    let in_new : c.arc-item.result.to < length c.loop-i.new = omega arith in
    let in_from : c.arc-item.result.to < length c.loop-i.from = omega arith in
    let brought = brings old (sound_at c.args.old.now c.args.kept.now.limits c.requires.lengths.0) turn c.arc-item.is c.index-old-arc.is c.in-Some.ensures in
    let there = get_or_read _ _ _ in_new c.index-new-end.is g.K.Kind.time.none in
    elim c.if-not-compare.branch [
      | then-not-compare w ↦ rw (w.new-is, w.from-is) (round_takes laws c.args.kept.now.arcs.now i old c.loop-i.new c.loop-i.from c.arc-item.result.to c.in-Some.x end brought inside in_new in_from (cc) c.loop-i.invariant)
      | else-not-compare w ↦ rw (w.new-is, w.from-is) (round_keeps laws c.args.kept.now.arcs.now i old c.loop-i.new c.loop-i.from c.loop-i.invariant (cc))
    ]
