use Rattle.std.proofs.Common.{rules, tests}
use Rattle.std.proofs.lemmas.Iterator.{cases_from_all, YieldsList-from_slice}
use Rattle.records.specs.declared.Run.{Run}
use Rattle.records.specs.Records.{run_at}
use Rattle.records.specs.Stored.{Unused}
use Rattle.records.proofs.Every.{decides_every}
use Rattle.records.proofs.stored.runs_unused.Goals as goal

pub returns : goal.returns
returns g c =
    let P : Run g.row.K.Denot → Type 0 = Unused in
    decides_every P (run_at g.K.Kind.time c.args.runs.now 0) _ _ (cases_from_all _ _ _ P (λ x. ¬ (P x)) c.all.ensures.ran (YieldsList-from_slice c.args.runs.now cc) (λ x q k. (search (rules, tests), (search (rules, tests), (search (rules, tests), search (rules, tests))))) (λ x q k. search (rules, tests)))
