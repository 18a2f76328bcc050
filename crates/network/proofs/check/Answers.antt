use Rattle.std.proofs.Common.{◌≡◌, length, take, ap, ◌∙◌}
use Rattle.network.specs.Faults.{network_number, network_place}
use Rattle.network.specs.Reckoning.{lengths, length_rows, network_rows, listed, kept_floors, kept_arcs}
use Rattle.network.proofs.Refusals.{answers_more}
use Rattle.network.proofs.Checks.{take_min, lengthy}
use Rattle.network.proofs.check.Goals as goal

pub returns-clause-answer : goal.returns-clause-answer
returns-clause-answer g c =
    let t = g.K.Kind.time in
    let a = c.args in
    let l = listed a.listing in
    let passed = c.in_ok-check_lengths.ensures in
    let long = lengthy (lengths (length l.floors) (length l.arcs) a.times a.ring a.tables a.marks) passed in
    let floors_is : c.split_at.result.0.now ≡ kept_floors l = c.split_at.ensures.front ∙ ap (λ k. take k l.floors) c.min.ensures ∙ take_min l.events 1024 l.floors long.floors in
    let arcs_is : c.split_at-2.result.0.now ≡ kept_arcs l = c.split_at-2.ensures.front ∙ ap (λ k. take k l.arcs) c.min-2.ensures ∙ take_min l.arc_count 9728 l.arcs long.arcs in
    answers_more network_number network_place (length_rows (lengths (length l.floors) (length l.arcs) a.times a.ring a.tables a.marks)) (network_rows t l.events l.arc_count (kept_floors l) (kept_arcs l)) c.check_network.result passed (rw (floors_is, arcs_is) at c.check_network.ensures.answer)
