use Rattle.std.proofs.Common.{sym, subst, arith}
use Rattle.std.proofs.lemmas.Bool.{both_ways}
use Rattle.records.specs.Lent.{Lists}
use Rattle.records.specs.Register.{register_from}
use Rattle.records.specs.Stored.{Limits}
use Rattle.records.proofs.stored.check_stored.Goals as goal

pub returns-then-not-limits_kept : goal.returns-then-not-limits_kept
returns-then-not-limits_kept g c =
    let t = g.K.Kind.time in
    let P : Lists g.row.K.Denot → Type 0 = λ x. Limits t (register_from t x.tracks x.runs x.connections x.settings) in
    λ s. both_ways _ c.if-not-limits_kept.true (c.limits_kept.ensures.1 (subst P (sym c.entered.ensures) s.limits))

pub of-requires : goal.of-requires
of-requires g c =
    let t = g.K.Kind.time in
    let P : Lists g.row.K.Denot → Type 0 = λ x. Limits t (register_from t x.tracks x.runs x.connections x.settings) in
    record {
      stored = record { few_tracks = omega arith; few_runs = omega arith; few_connections = omega arith; limits = subst P c.entered.ensures (c.limits_kept.ensures.0 c.if-not-limits_kept.false) };
      lengths = c.requires;
    }
