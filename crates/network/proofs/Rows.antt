-- The memory of rows: a write to row k leaves the rows before it.
use Rattle.std.proofs.Common.{◌≡◌, ℕ, suc, ◌+◌, ◌-◌, ◌*◌, ◌<◌, ◌≤◌, List, length, get_or, drop, sym, ap, ◌∙◌, mul-le-mul_right, suc-mul, arith, below_more}
use borrow.Rule.Slice.PartMut.{put_mid}
use Rattle.std.proofs.lemmas.List.{drop-take}
use Rattle.std.proofs.lemmas.Slice.{take-put_mid_below, between-put_mid}
use Rattle.kinds.specs.Time.{Time}
use Rattle.network.specs.declared.Arc.{Arc}
use Rattle.network.specs.Rounds.{row_of, Level, Levels, Rising}

-- row j ends where a later row k starts, or before
pub row_ends : (j k n : ℕ) → j < k → j * n + n ≤ k * n
row_ends j k n h = let p : suc j * n ≤ k * n = mul-le-mul_right n h in omega (arith, suc-mul j n)

pub row_before : (n k j m : ℕ) (rows ys : List ℕ) → j < k → k * n ≤ length rows → row_of n (put_mid (k * n) m rows ys) j ≡ row_of n rows j
row_before n k j m rows ys h l =
    sym (drop-take (j * n) n (put_mid (k * n) m rows ys)) ∙ ap (drop (j * n)) (take-put_mid_below (k * n) m rows ys (j * n + n) (row_ends j k n h) l) ∙ drop-take (j * n) n rows

pub row_here : (n k m : ℕ) (rows ys : List ℕ) → length ys ≡ n → k * n ≤ length rows → row_of n (put_mid (k * n) m rows ys) k ≡ ys
row_here n k m rows ys e l =
    let d : k * n + n - k * n ≡ n = omega arith in
    let b = between-put_mid (k * n) m rows ys (k * n + n) l (omega arith) in
    rw d at b

pub levels_more : {K : Type 0} {t : Time K} (floors : List K) {arcs : List (Arc K)} (k m : ℕ) (rows ys : List ℕ) → length ys ≡ length floors → k * length floors ≤ length rows → Levels t floors arcs k rows → Level t floors arcs k ys → Levels t floors arcs (k + 1) (put_mid (k * length floors) m rows ys)
levels_more floors k m rows ys e l before here =
    below_more _ _ (λ j h. rw (row_before (length floors) k j m rows ys h l) (before j h)) (rw (row_here (length floors) k m rows ys e l) here)

pub rising : {K : Type 0} {t : Time K} (floors : List K) {arcs : List (Arc K)} (k m v : ℕ) (rows ys : List ℕ) → length ys ≡ length floors → k * length floors ≤ length rows → k + 1 ≡ length floors → Levels t floors arcs k rows → Level t floors arcs k ys → v < length ys → (get_or ys v 0 ≡ 65535 → ⊥) → Rising t floors arcs (put_mid (k * length floors) m rows ys) v
rising floors k m v rows ys e l last before here in_v up =
    let all = levels_more floors k m rows ys e l before here in
    let is_last : length floors - 1 ≡ k = omega arith in
    record {
      some = omega arith;
      levels = λ j h. all j (omega arith);
      inside = omega arith;
      rises = λ q. up (ap (λ row. get_or row v 0) (sym (row_here (length floors) k m rows ys e l)) ∙ ap (λ j. get_or (row_of (length floors) (put_mid (k * length floors) m rows ys) j) v 0) (sym is_last) ∙ q);
    }
