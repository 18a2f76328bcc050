use Rattle.std.proofs.Common.{take, ap, ◌∙◌}
use Rattle.std.proofs.lemmas.List.{get_or-take, length-take-le}
use Rattle.records.specs.Records.{track_of}
use Rattle.records.specs.Places.{total}
use Rattle.records.proofs.Counts.{total_kept}
use Rattle.plan.proofs.draft.orders_below.Goals as goal

pub returns : goal.returns
returns g c =
    let t = g.K.Kind.time in
    let a = c.args in
    let f = track_of t (take a.n a.runs.now) in
    c.count_orders.ensures ∙ ap (total f) (length-take-le a.n a.runs.now c.requires.inside) ∙ total_kept f (track_of t a.runs.now) a.n (λ k h. ap (λ r. r.track) (get_or-take a.n a.runs.now k _ h))
