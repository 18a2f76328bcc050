use Rattle.std.proofs.Common.{◌≡◌, ◌+◌, ◌-◌, ◌*◌, length, take, drop, ◌∙◌, arith}
use Rattle.std.proofs.lemmas.List.{length-take, length-drop}
use Rattle.network.specs.Rounds.{Level}
use Rattle.network.proofs.Rows.{row_ends, levels_more, rising}
use Rattle.network.proofs.Settles.{settles}
use Rattle.network.proofs.Walks.{latest_none, latest_more, latest_sized}
use Rattle.network.proofs.settle.Goals as goal

pub loop-k-init : goal.loop-k-init
loop-k-init g c =
    let laws = g.met.K.Kind.laws in
    let limits = c.args.kept.now.limits in
    (rw c.copy_from_slice.ensures.after (latest_none laws _ _ limits), λ j h. absurd (omega arith), λ h. absurd (omega arith))

pub round-requires-clause-sized : goal.round-requires-clause-sized
round-requires-clause-sized g c = latest_sized g.met.K.Kind.laws _ _ c.args.kept.now.limits c.loop-k.k _ c.loop-k.invariant.0 (let few = c.args.kept.now.limits.few in omega arith)

pub returns-in-None : goal.returns-in-None
returns-in-None g c =
    let laws = g.met.K.Kind.laws in
    let limits = c.args.kept.now.limits in
    let n = length c.args.kept.now.floors.now in
    let k = c.loop-k.k in
    let h = row_ends k n n c.loop-k-test.true in
    let part : length (take (k * n + n - k * n) (drop (k * n) c.loop-k.rows)) ≡ n = simp (length-take, length-drop) (omega arith) in
    let long : length c.round.new.from ≡ n = c.round.auto.from ∙ part in
    let long_new : length c.round.new.new ≡ n = omega (arith, c.round.auto.new) in
    settles laws _ _ limits k _ c.round.new.new c.round.new.from c.loop-k-test.true c.loop-k.invariant.0 c.round.ensures (λ v in_v. c.in-None.ensures v (omega arith))

pub returns-then-k-n : goal.returns-then-k-n
returns-then-k-n g c =
    let laws = g.met.K.Kind.laws in
    let limits = c.args.kept.now.limits in
    let n = length c.args.kept.now.floors.now in
    let k = c.loop-k.k in
    let h = row_ends k n n c.loop-k-test.true in
    let part : length (take (k * n + n - k * n) (drop (k * n) c.loop-k.rows)) ≡ n = simp (length-take, length-drop) (omega arith) in
    let long : length c.round.new.from ≡ n = c.round.auto.from ∙ part in
    let long_new : length c.round.new.new ≡ n = omega (arith, c.round.auto.new) in
    let next = latest_more laws _ _ limits k _ c.round.new.new c.round.new.from (omega arith) c.loop-k.invariant.0 c.round.ensures long_new in
    let level : Level g.K.Kind.time c.args.kept.now.floors.now c.args.kept.now.arcs.now k c.round.new.from = record { old = c.loop-k.times; new = c.round.new.new; is_old = c.loop-k.invariant.0; is_new = next; round = c.round.ensures } in
    rising c.args.kept.now.floors.now k (k * n + n - k * n) c.in-Some.v c.loop-k.rows c.round.new.from long (omega arith) c.if-k-n.true c.loop-k.invariant.1 level c.in-Some.ensures.0 c.in-Some.ensures.1

pub loop-k-preserved : goal.loop-k-preserved
loop-k-preserved g c =
    let laws = g.met.K.Kind.laws in
    let limits = c.args.kept.now.limits in
    let n = length c.args.kept.now.floors.now in
    let k = c.loop-k.k in
    let h = row_ends k n n c.loop-k-test.true in
    let part : length (take (k * n + n - k * n) (drop (k * n) c.loop-k.rows)) ≡ n = simp (length-take, length-drop) (omega arith) in
    let long : length c.round.new.from ≡ n = c.round.auto.from ∙ part in
    let long_new : length c.round.new.new ≡ n = omega (arith, c.round.auto.new) in
    let next = latest_more laws _ _ limits k _ c.round.new.new c.round.new.from (omega arith) c.loop-k.invariant.0 c.round.ensures long_new in
    let level : Level g.K.Kind.time c.args.kept.now.floors.now c.args.kept.now.arcs.now k c.round.new.from = record { old = c.loop-k.times; new = c.round.new.new; is_old = c.loop-k.invariant.0; is_new = next; round = c.round.ensures } in
    let levels = levels_more c.args.kept.now.floors.now k (k * n + n - k * n) c.loop-k.rows c.round.new.from long (omega arith) c.loop-k.invariant.1 level in
    (rw c.copy_from_slice-in-loop-k.ensures.after next, levels, λ _. omega arith)
