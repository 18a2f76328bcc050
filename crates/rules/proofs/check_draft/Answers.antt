use Rattle.std.proofs.Common.{refl, inl, inr, ap, ◌∙◌}
use Rattle.records.specs.Lent.{register_lent}
use Rattle.records.specs.Stored.{Drafted}
use Rattle.rules.proofs.Decisions.{unless, decides_at}
use Rattle.rules.proofs.check_draft.Goals as goal

pub check_stored-requires : goal.check_stored-requires
check_stored-requires g c = let h = c.records_listed.ensures.0 c.if-not-records_listed.false in (h.tracks, (h.runs, (h.connections, h.settings)))

pub returns-in_default-clause-rows : goal.returns-in_default-clause-rows
returns-in_default-clause-rows g c = inr ((λ n. n (c.records_listed.ensures.0 c.if-not-records_listed.false)), inl (c.in_default.ensures, refl, refl))

pub returns-then-not-check_drafted-clause-rows : goal.returns-then-not-check_drafted-clause-rows
returns-then-not-check_drafted-clause-rows g c =
    let taken = c.in-Some.ensures in
    let d = decides_at (Drafted g.K.Kind.time) (ap (register_lent g.K.Kind.time) c.records.ensures ∙ taken.register) c.check_drafted.ensures in
    inr ((λ n. n (c.records_listed.ensures.0 c.if-not-records_listed.false)), inr ((λ n. n taken.stored), inl (unless d c.if-not-check_drafted.true, refl, refl)))

pub returns-clause-sound : goal.returns-clause-sound
returns-clause-sound g c =
    let taken = c.in-Some.ensures in
    let d = decides_at (Drafted g.K.Kind.time) (ap (register_lent g.K.Kind.time) c.records.ensures ∙ taken.register) c.check_drafted.ensures in
    record { listed = c.records_listed.ensures.0 c.if-not-records_listed.false; stored = taken.stored; drafted = d.0 c.if-not-check_drafted.false }

pub returns-clause-rows : goal.returns-clause-rows
returns-clause-rows g c = let s = returns-clause-sound g c in ((λ n. n s.listed), ((λ n. n s.stored), ((λ n. n s.drafted), tt)))
