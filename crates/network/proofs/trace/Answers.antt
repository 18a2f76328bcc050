use Rattle.std.proofs.Common.{◌≡◌, length, replicate, ap, ◌∙◌, arith, rules}
use Rattle.network.proofs.Traces.{traced_none}
use Rattle.network.proofs.Marks.{marks_none}
use Rattle.network.proofs.Turns.{Turn, turn_room, turn_row, turn_arc, turn_traced, turn_marks, turn_ends}
use Rattle.network.proofs.trace.Given as given
use Rattle.network.proofs.trace.Goals as goal
use Rattle.network.proofs.trace.Goals.{In-loop-seen}

-- the turn begins
turn : (g : given.Over) (c : goal.In-loop-seen g) → Turn g.K.Kind.time c.args.kept.now.floors.now c.args.kept.now.arcs.now c.args.rows.now c.loop-seen.path c.loop-seen.seen c.args.v c.loop-seen.count c.loop-seen.event
turn g c = record {
  laws = g.met.K.Kind.laws;
  limits = c.args.kept.now.limits;
  rows_long = omega arith;
  path_long = omega arith;
  seen_long = omega arith;
  levels = c.requires.rising.levels;
  traced = c.loop-seen.invariant.0;
  marks = c.loop-seen.invariant.1;
  low = c.loop-seen.invariant.2;
}

pub loop-seen-init : goal.loop-seen-init
loop-seen-init g c =
    let same : length c.args.seen.now ≡ length c.args.kept.now.floors.now = omega arith in
    (traced_none g.met.K.Kind.laws _ _ c.args.kept.now.limits _ _ _ c.requires.rising, marks_none _ _ _ _ (c.fill.ensures.after (search rules) ∙ ap (λ n. replicate n 65535) same), omega arith)

pub overflow_sub-arc-in-loop-seen : goal.overflow_sub-arc-in-loop-seen
overflow_sub-arc-in-loop-seen g c = let h = turn_room (turn g c) c.loop-seen-test.true in omega arith

pub bounds-rows-n : goal.bounds-rows-n
bounds-rows-n g c = turn_row (turn g (goal.at.bounds-rows-n g c).In-loop-seen) c.loop-seen-test.true

pub bounds-path-count : goal.bounds-path-count
bounds-path-count g c = let h = turn_room (turn g (goal.at.bounds-path-count g c).In-loop-seen) c.loop-seen-test.true in omega arith

pub offset_bounds-kept-arc : goal.offset_bounds-kept-arc
offset_bounds-kept-arc g c = let h = turn_arc (turn g (goal.at.offset_bounds-kept-arc g c).In-loop-seen) c.loop-seen-test.true in search rules

pub bounds-kept-arc : goal.bounds-kept-arc
bounds-kept-arc g c = turn_arc (turn g (goal.at.bounds-kept-arc g c).In-loop-seen) c.loop-seen-test.true

pub loop-seen-smaller : goal.loop-seen-smaller
loop-seen-smaller g c = let h = turn_room (turn g (goal.at.loop-seen-smaller g c).In-loop-seen) c.loop-seen-test.true in omega arith

pub loop-seen-preserved : goal.loop-seen-preserved
loop-seen-preserved g c =
    let w = turn g (goal.at.loop-seen-preserved g c).In-loop-seen in
    let h = turn_room w c.loop-seen-test.true in
    (turn_traced w c.loop-seen-test.true _, turn_marks w c.loop-seen-test.true, omega arith)

pub returns : goal.returns
returns g c =
    let w : Turn g.K.Kind.time c.args.kept.now.floors.now c.args.kept.now.arcs.now c.args.rows.now c.loop-seen.path c.loop-seen.seen c.args.v c.loop-seen.count c.loop-seen.event = record {
      laws = g.met.K.Kind.laws;
      limits = c.args.kept.now.limits;
      rows_long = omega arith;
      path_long = omega arith;
      seen_long = omega arith;
      levels = c.requires.rising.levels;
      traced = c.loop-seen.invariant.0;
      marks = c.loop-seen.invariant.1;
      low = c.loop-seen.invariant.2;
    } in
    turn_ends w c.loop-seen-test.false
