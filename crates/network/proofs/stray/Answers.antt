use Rattle.std.proofs.Common.{◌≡◌, ◌<◌, ◌≤◌, sym, ap, ◌∙◌, inl, inr, arith}
use Rattle.std.proofs.lemmas.List.{get_or_read}
use Rattle.network.specs.declared.Arc.{Arc}
use Rattle.network.specs.Reckoning.{arc_at, Stray}
use Rattle.network.proofs.Strays.{some_at, some_none, stray_from, stray_to}
use Rattle.network.proofs.stray.Goals as goal

pub returns-then-arc-events : goal.returns-then-arc-events
returns-then-arc-events g c =
    let t = g.K.Kind.time in
    let n = c.args.events in
    let arcs = c.args.arcs.now in
    let i = c.loop-arc.arc-index in
    let d : Arc g.row.K.Denot = record { from = 0; to = 0; duration = t.none } in
    let read : c.arc-item.result ≡ arc_at t arcs i = get_or_read _ _ _ c.loop-arc-test.true c.arc-item.is _ in
    let start = ap (λ a. a.from) read in
    let out : n ≤ (arc_at t arcs i).from = omega (arith, c.if-arc-events.true) in
    (some_at (Stray n) d arcs i c.loop-arc-test.true (inl out), start ∙ sym (stray_from n d arcs i c.loop-arc.invariant c.loop-arc-test.true out))

pub returns-then-arc-events-2 : goal.returns-then-arc-events-2
returns-then-arc-events-2 g c =
    let t = g.K.Kind.time in
    let n = c.args.events in
    let arcs = c.args.arcs.now in
    let i = c.loop-arc.arc-index in
    let d : Arc g.row.K.Denot = record { from = 0; to = 0; duration = t.none } in
    let read : c.arc-item.result ≡ arc_at t arcs i = get_or_read _ _ _ c.loop-arc-test.true c.arc-item.is _ in
    let start = ap (λ a. a.from) read in
    let end = ap (λ a. a.to) read in
    let inside : (arc_at t arcs i).from < n = omega (arith, c.if-arc-events.false) in
    let out : n ≤ (arc_at t arcs i).to = omega (arith, c.if-arc-events-2.true) in
    (some_at (Stray n) d arcs i c.loop-arc-test.true (inr out), end ∙ sym (stray_to n d arcs i c.loop-arc.invariant c.loop-arc-test.true inside out))

pub returns : goal.returns
returns g c =
    let t = g.K.Kind.time in
    let d : Arc g.row.K.Denot = record { from = 0; to = 0; duration = t.none } in
    some_none (Stray c.args.events) d c.args.arcs.now (λ k h. c.loop-arc.invariant k (omega arith))
