use Rattle.std.proofs.Common.{subst, arith}
use Rattle.records.specs.Entered.{register_in}
use Rattle.records.specs.Lent.{Lists, register_lent}
use Rattle.force.specs.Added.{Filled}
use Rattle.force.proofs.Answered.{times_told, ring_told}
use Rattle.force.proofs.plan.reckon_over.Goals as goal

pub returns-clause-times : goal.returns-clause-times
returns-clause-times g c =
    let t = g.K.Kind.time in
    let e = c.args.e.now in
    let filled = subst (λ (l : Lists g.row.K.Denot). Filled t (register_lent t l) c.fill_floors.new.floors) c.records.ensures c.fill_floors.ensures in
    times_told t (register_in t e) e.limits.limits c.events.result c.fill_arcs-arc_count.result c.fill_floors.new.floors c.fill_arcs-arc_count.new.arcs c.events.ensures c.fill_arcs-arc_count.ensures.few (omega arith) (omega arith) filled c.fill_arcs-arc_count.ensures.listed _ c.reckon.new.times c.reckon.result (omega arith) c.reckon.ensures.times

pub returns-clause-ring : goal.returns-clause-ring
returns-clause-ring g c =
    let t = g.K.Kind.time in
    let e = c.args.e.now in
    let filled = subst (λ (l : Lists g.row.K.Denot). Filled t (register_lent t l) c.fill_floors.new.floors) c.records.ensures c.fill_floors.ensures in
    ring_told t (register_in t e) e.limits.limits c.events.result c.fill_arcs-arc_count.result c.fill_floors.new.floors c.fill_arcs-arc_count.new.arcs c.events.ensures c.fill_arcs-arc_count.ensures.few (omega arith) (omega arith) filled c.fill_arcs-arc_count.ensures.listed _ _ _ _ c.requires.written.0 c.requires.written.1 c.requires.work.tables c.requires.work.marks _ c.reckon.new.ring c.reckon.result c.reckon.ensures.answer c.reckon.ensures.exactly c.reckon.ensures.ring
