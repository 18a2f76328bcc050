use Rattle.std.proofs.Common.{length, refl}
use Rattle.std.proofs.lemmas.Result.{err_from_is_err_and}
use Rattle.network.specs.Reckoning.{listed, handed, first_rows, ring_rows, kept_arcs}
use Rattle.network.proofs.Refusals.{first_front, first_not_passed}
use Rattle.network.proofs.Told.{told}
use Rattle.network.proofs.reckon.Goals as goal

pub returns-in_err-kept-clause-answer : goal.returns-in_err-kept-clause-answer
returns-in_err-kept-clause-answer g c =
    let a = c.args in
    let h = handed (listed a.listing) (length a.times.now) (length a.ring.now) (length a.tables.now) (length a.marks.now) in
    let p = err_from_is_err_and c.from_residual.result c.from_residual.ensures.1 in
    rw (p.1, p.2) (first_front (first_rows g.K.Kind.time h) (ring_rows g.K.Kind.time (kept_arcs h.network)) _ _ c.in_err-kept.ensures.answer)

pub returns-in_err-kept-clause-exactly : goal.returns-in_err-kept-clause-exactly
returns-in_err-kept-clause-exactly g c =
    let a = c.args in
    let h = handed (listed a.listing) (length a.times.now) (length a.ring.now) (length a.tables.now) (length a.marks.now) in
    λ passed. absurd (first_not_passed (first_rows g.K.Kind.time h) _ _ c.in_err-kept.ensures.answer passed)

pub returns : goal.returns
returns g c =
    let a = c.args in
    let h = handed (listed a.listing) (length a.times.now) (length a.ring.now) (length a.tables.now) (length a.marks.now) in
    let w = told g.K.Kind.time h c.in_ok-kept.ensures.answer c.in_ok-kept.kept.floors.now c.in_ok-kept.kept.arcs.now a.times.now c.solve.new.times a.ring.now c.solve.new.ring c.solve.result c.in_ok-kept.ensures.kept refl c.solve.auto.times c.solve.ensures in
    record { answer = w.answer; times = w.times; ring = w.ring; exactly = w.exactly }
