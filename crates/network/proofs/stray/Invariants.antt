use Rattle.std.proofs.Common.{ℕ, ◌<◌}
use Rattle.network.specs.Reckoning.{arc_at, Stray}
use Rattle.network.proofs.stray.Given as goal

abbrev pub invariant-loop-arc : goal.invariant-loop-arc
invariant-loop-arc g l = (k : ℕ) → k < l.arc-index → Stray l.events (arc_at g.K.Kind.time l.arcs k) → ⊥
