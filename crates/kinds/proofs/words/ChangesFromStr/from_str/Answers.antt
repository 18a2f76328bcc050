use Rattle.std.proofs.Common.{◌==◌, List, ℕ, Option, None, ◌≡◌, Bor, Contains, arith}
use Rattle.std.proofs.lemmas.Bool.Decides.{nat_tests}
use Rattle.std.proofs.lemmas.List.Sums.{fails_before_first}
use Rattle.std.proofs.lemmas.Result.{err_from_is_err_and}
use Rattle.std.proofs.lemmas.Str.Pattern.{IsSplitOnceResult, split_once_first}
use Rattle.kinds.specs.Words.{slash}
use Rattle.kinds.proofs.words.ChangesFromStr.from_str.Goals as goal

-- a word that is not cut has no slash
lacks : (word : List ℕ) (r : Option (Bor (List ℕ) × Bor (List ℕ))) → IsSplitOnceResult slash word r → r ≡ None → ¬ Contains word slash
lacks word r split is (place, inside, there) =
    let none = rw is at (split_once_first slash word r split (omega arith)) in
    grind (arith, nat_tests, fails_before_first (λ b. b == slash) word place slash (omega arith))

pub returns-in_err-seconds : goal.returns-in_err-seconds
returns-in_err-seconds c =
    let none = lacks c.args.word.now _ c.split_once.ensures.cases c.in_err-seconds.ensures.ok_part in
    let p = err_from_is_err_and c.from_residual.result c.from_residual.ensures.1 in
    rw p.1 (record { changes = λ t. none t.parted; no_slash = (λ _. none, λ _. grind arith) })
