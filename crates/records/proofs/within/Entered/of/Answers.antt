use Rattle.std.proofs.Common.{length, sym, ap, ◌∙◌, subst, arith}
use Rattle.std.proofs.lemmas.List.{length-take-le}
use Rattle.records.specs.Lent.{Lists}
use Rattle.records.specs.Register.{register_from}
use Rattle.records.specs.Stored.{Limits}
use Rattle.records.proofs.within.Entered.of.Goals as goal

pub invariant_of-result : goal.invariant_of-result
invariant_of-result g c =
    let t = g.K.Kind.time in
    let P : Lists g.row.K.Denot → Type 0 = λ x. Limits t (register_from t x.tracks x.runs x.connections x.settings) in
    record { limits = record { limits = subst P (sym c.entered.ensures) c.requires.stored.limits; bytes = ap (λ (x : Lists g.row.K.Denot). length x.settings) c.entered.ensures ∙ c.requires.lengths.1.1.1 } }

pub returns : goal.returns
returns g c =
    let t = g.K.Kind.time in
    let v = c.args.v in
    let stored = c.requires.stored in
    let e = c.entered.ensures in
    record {
      stored = stored;
      register = ap (λ (x : Lists g.row.K.Denot). register_from t x.tracks x.runs x.connections x.settings) e;
      settings = ap (λ (x : Lists g.row.K.Denot). x.settings) e;
      tracks = ap (λ (x : Lists g.row.K.Denot). length x.tracks) e ∙ length-take-le v.track_count v.tracks.now (omega (arith, stored.few_tracks));
      runs = ap (λ (x : Lists g.row.K.Denot). length x.runs) e ∙ length-take-le v.run_count v.runs.now (omega (arith, stored.few_runs));
      connections = ap (λ (x : Lists g.row.K.Denot). length x.connections) e ∙ length-take-le v.connection_count v.connections.now (omega (arith, stored.few_connections));
    }
