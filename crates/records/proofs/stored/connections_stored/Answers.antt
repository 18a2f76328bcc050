use Rattle.std.proofs.Common.{rules, tests, subst}
use Rattle.std.proofs.lemmas.Iterator.{cases_from_all, YieldsList-from_slice}
use Rattle.std.proofs.lemmas.List.{get_or_default}
use Rattle.records.specs.declared.Connection.{Connection}
use Rattle.records.specs.Records.{connection_at}
use Rattle.records.specs.Stored.{ConnectionStored}
use Rattle.records.proofs.Every.{decides_every}
use Rattle.records.proofs.stored.connections_stored.Goals as goal

pub returns : goal.returns
returns g c =
    let P : Connection g.row.K.Denot → Type 0 = ConnectionStored g.K.Kind.time c.args.runs in
    let xs = c.args.connections.now in
    let h = decides_every P (connection_at g.K.Kind.time xs 0) _ xs (cases_from_all _ _ _ P (λ x. ¬ (P x)) c.all.ensures.ran (YieldsList-from_slice xs cc) (λ x q k. search (rules, tests)) (λ x q k. search (rules, tests))) in
    ((λ e. record { each = λ k i. h.0 e k _ i }), λ s. h.1 (λ k d i. subst P (get_or_default xs k _ d i) (s.each k i)))
