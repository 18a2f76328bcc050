use Rattle.std.proofs.Common.{rules, tests, ◌≡◌, ◌==◌, ℕ, ◌+◌, ◌≤◌, zero, suc, Bool, List, length, take, count_by, sym, ◌∙◌, refl, ap, subst, inl, inr, add-one, arith}
use Rattle.std.proofs.lemmas.Bool.{cases_eq, eq-eqb, ne_eqb}
use Rattle.std.proofs.lemmas.Iterator.{YieldsList-from_slice}
use Rattle.std.proofs.lemmas.Iterator.Consumers.{YieldsList-from_filter, count_from_yields_List}
use Rattle.std.proofs.lemmas.List.{take_all}
use Rattle.std.proofs.lemmas.List.Sums.{length-filter, count_by_more_yes, count_by_more_no}
use Rattle.kinds.specs.Time.{Time}
use Rattle.records.specs.declared.Run.{Run}
use Rattle.records.specs.Places.{count}
use Rattle.records.specs.Records.{track_of}
use Rattle.records.proofs.Counts.{count_hit, count_miss}
use Rattle.rules.proofs.entries.count_on.Goals as goal

-- a run is on track x
abbrev is_on : {K : Type 0} → ℕ → Run K → Bool
is_on x run = run.track == x

counted : {K : Type 0} (t : Time K) (runs : List (Run K)) (x n : ℕ) → n ≤ length runs → count_by (is_on x) (take n runs) ≡ count (track_of t runs) x n
counted t runs x zero l = refl
counted t runs x (suc n) l =
    let below = counted t runs x n (omega arith) in
    let f = track_of t runs in
    let P : ℕ → Type 0 = λ m. count_by (is_on x) (take m runs) ≡ count f x m in
    subst P (add-one n) (elim (cases_eq (f n) x) [
      | inl e ↦ count_by_more_yes (is_on x) runs n _ (omega arith) (eq-eqb (f n) x e) ∙ ap (λ (k : ℕ). k + 1) below ∙ sym (count_hit f x n e)
      | inr e ↦ count_by_more_no (is_on x) runs n _ (omega arith) (ne_eqb (f n) x e) ∙ below ∙ sym (count_miss f x n e)
    ])

pub returns : goal.returns
returns g c =
    let runs = c.args.runs.now in
    let on = is_on c.args.track in
    count_from_yields_List c.filter.result _ c.count.ensures.ran (YieldsList-from_filter _ on (YieldsList-from_slice runs (cc)) c.filter.ensures.closure (λ x b q k. search (rules, tests)))
    ∙ length-filter on runs
    ∙ sym (ap (count_by on) (take_all (length runs) runs (omega arith)))
    ∙ counted g.K.Kind.time runs c.args.track (length runs) (omega arith)
