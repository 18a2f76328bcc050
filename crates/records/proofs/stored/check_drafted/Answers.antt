use Rattle.std.proofs.Common.{◌≡◌, List, Bool, Decides, subst, rules, arith}
use Rattle.std.specs.List.{All}
use Rattle.std.proofs.lemmas.List.{get_or_default, take_all}
use Rattle.kinds.specs.Time.{Time}
use Rattle.records.specs.declared.Run.{Run}
use Rattle.records.specs.Register.{Register}
use Rattle.records.specs.Stored.{Unused, Drafted}
use Rattle.records.proofs.stored.check_drafted.Goals as goal

-- the runs that were looked at are all that are entered
decides_drafted : {K : Type 0} (t : Time K) (R : Register K) (xs : List (Run K)) (b : Bool) → xs ≡ R.runs → Decides b (All (λ run. Unused run) xs) → Decides b (Drafted t R)
decides_drafted {K} t R xs b is d =
    let P : Run K → Type 0 = Unused in
    let e : Decides b (All (λ run. Unused run) R.runs) = subst (λ (ys : List (Run K)). Decides b (All (λ run. Unused run) ys)) is d in
    ((λ y. record { each = λ r h. e.0 y r _ h }), λ f. e.1 (λ k x h. subst P (get_or_default R.runs k _ x h) (f.each k h)))

pub returns : goal.returns
returns g c = decides_drafted g.K.Kind.time _ _ _ (search (rules, take_all, arith)) c.runs_unused.ensures
