use Rattle.std.proofs.Common.{rules, arith, ◌<◌, ◌≤◌}
use Rattle.std.proofs.lemmas.Iterator.{cases_from_any, YieldsList-from_slice}
use Rattle.std.proofs.lemmas.Iterator.Search.{true_from_Any}
use Rattle.network.specs.declared.Arc.{Arc}
use Rattle.network.proofs.Strays.{some_at}
use Rattle.network.proofs.duration_over.Goals as goal

pub returns : goal.returns
returns g c =
    let t = g.K.Kind.time in
    let r = cases_from_any _ _ _ (λ (a : Arc g.row.K.Denot). 100000 < t.size a.duration) (λ a. t.size a.duration ≤ 100000) c.any.ensures.ran (YieldsList-from_slice c.args.arcs.now c.iter.ensures.rest) (λ y b k. search rules) (λ y b k. search rules) in
    let blank : Arc g.row.K.Denot = record { from = 0; to = 0; duration = t.none } in
    ((λ e. let w = rw e at r in some_at (λ a. 100000 < t.size a.duration) blank c.args.arcs.now w.0 w.1 (w.2 blank)), (λ s. true_from_Any (λ (a : Arc g.row.K.Denot). 100000 < t.size a.duration) (λ a. t.size a.duration ≤ 100000) _ _ (λ y p q. omega arith) r s.1 (s.0, s.2, s.3) s.4))
