use Rattle.std.proofs.Common.{Decides, ℕ, ◌*◌, refl, inl, inr, arith}
use Rattle.records.specs.Stored.{Shown}
use Rattle.rules.proofs.Decisions.{unless, decides_at}
use Rattle.rules.proofs.check_open.Goals as goal

pub returns-then-not-records_listed-clause-rows : goal.returns-then-not-records_listed-clause-rows
returns-then-not-records_listed-clause-rows g c =
    elim c.then-not-records_listed.either [
      | inl e ↦ inl (unless c.records_listed.ensures e, refl, refl)
      | inr p ↦ inr ((λ n. n (c.records_listed.ensures.0 p.0)), inl (p.1, refl, refl))
    ]

pub check_stored-requires : goal.check_stored-requires
check_stored-requires g c = let h = c.records_listed.ensures.0 c.if-not-records_listed.false in (h.tracks, (h.runs, (h.connections, h.settings)))

pub returns-then-not-check_shown-clause-rows : goal.returns-then-not-check_shown-clause-rows
returns-then-not-check_shown-clause-rows g c =
    let taken = c.in-Some.ensures in
    let d : Decides c.check_shown.result (Shown g.K.Kind.time c.args.shown.now (2 * c.args.v.run_count)) = decides_at (λ (n : ℕ). Shown g.K.Kind.time c.args.shown.now n) (omega (arith, taken.runs)) c.check_shown.ensures in
    inr ((λ n. n (c.records_listed.ensures.0 c.if-not-records_listed.false)), inr ((λ n. n c.if-shown-ne-SHOWN.false), inr ((λ n. n taken.stored), inl (unless d c.if-not-check_shown.true, refl, refl))))

pub returns-clause-sound : goal.returns-clause-sound
returns-clause-sound g c =
    let taken = c.in-Some.ensures in
    let d : Decides c.check_shown.result (Shown g.K.Kind.time c.args.shown.now (2 * c.args.v.run_count)) = decides_at (λ (n : ℕ). Shown g.K.Kind.time c.args.shown.now n) (omega (arith, taken.runs)) c.check_shown.ensures in
    record { listed = c.records_listed.ensures.0 c.if-not-records_listed.false; long = c.if-shown-ne-SHOWN.false; stored = taken.stored; sized = d.0 c.if-not-check_shown.false }

pub returns-clause-rows : goal.returns-clause-rows
returns-clause-rows g c = let s = returns-clause-sound g c in ((λ n. n s.listed), ((λ n. n s.long), ((λ n. n s.stored), ((λ n. n s.sized), tt))))
