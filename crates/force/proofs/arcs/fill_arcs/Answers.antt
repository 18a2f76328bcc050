use Rattle.std.proofs.Common.{List, refl, sym, ◌∙◌, subst, rules}
use Rattle.network.specs.declared.Arc.{Arc}
use Rattle.records.specs.Entered.{register_in}
use Rattle.force.specs.Force.{InForce}
use Rattle.force.specs.Added.{Listed}
use Rattle.force.proofs.Whole.{whole}
use Rattle.force.proofs.arcs.fill_arcs.Goals as goal

pub returns-clause-listed : goal.returns-clause-listed
returns-clause-listed g c =
    let t = g.K.Kind.time in
    let R = register_in t c.args.e.now in
    let P : List (Arc g.row.K.Denot) → Type 0 = λ ys. Listed t (InForce t R) ys c.push_orders.new.self.count in
    let same = sym (c.push_orders.ensures.added.same ∙ c.push_connections.ensures.added.same ∙ c.push_runs.ensures.added.same) in
    subst P (sym (search rules)) (whole t R _ _ _ _ refl c.push_runs.ensures.added c.push_connections.ensures.added c.push_orders.ensures.added)
