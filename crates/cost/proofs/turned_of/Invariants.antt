use Rattle.std.proofs.Common.{◌≡◌, ◌+◌, ◌*◌, ◌≤◌}
use Rattle.records.specs.Entered.{register_in}
use Rattle.records.proofs.Walks.{past, OnTrack}
use Rattle.force.specs.Force.{track_in}
use Rattle.cost.specs.Cost.{sum_below, turn_cost, turn_costs}
use Rattle.cost.proofs.turned_of.Given as goal

abbrev pub invariant-loop-next : goal.invariant-loop-next
invariant-loop-next g l =
    let t = g.K.Kind.time in
    let R = register_in t l.layout.entered.now in
    (l.sum + sum_below (past l.next) (turn_cost t R l.j) ≡ turn_costs t R l.j)
    × (past l.next ≤ l.j)
    × OnTrack (track_in t R) l.j l.next
    × (l.sum + 1000000 * past l.next ≤ 1000000 * l.j)

abbrev pub decreases-loop-next : goal.decreases-loop-next
decreases-loop-next g l = past l.next
