use Rattle.std.proofs.Common.{◌≡◌, ℕ, ◌<◌, get_or}
use Rattle.network.specs.Reckoning.{arc_at}
use Rattle.network.proofs.list_ends.Given as goal

abbrev pub invariant-loop-j : goal.invariant-loop-j
invariant-loop-j g l = (k : ℕ) → k < l.j → get_or l.ring k 0 ≡ (arc_at g.K.Kind.time l.arcs (get_or l.path k 0)).to
