-- Numbers below n that are all apart are at most n.
use Rattle.std.proofs.Common.{◌≡◌, ℕ, zero, suc, ◌+◌, ◌<◌, ◌≤◌, cond, eqb, List, [], ◌∷◌, length, get_or, sym, ap, arith}
use Rattle.std.specs.List.{AllByRecursion}
use Rattle.std.proofs.lemmas.Bool.{cond_both, eqb-true, eqb-false}
use Rattle.network.specs.Network.{Lacks, Apart}

-- us with the first x left out
without : ℕ → List ℕ → List ℕ
without x [] = []
without x (u ∷ us) = cond (eqb u x) us (u ∷ without x us)

length_without : (x : ℕ) (us : List ℕ) → length us ≤ suc (length (without x us))
unfolding without
length_without x [] = omega arith
length_without x (u ∷ us) =
    cond_both (eqb u x) us (u ∷ without x us) (λ vs. suc (length us) ≤ suc (length vs)) (λ _. omega arith) (λ _. let h = length_without x us in omega arith)

lacks_without : (v x : ℕ) (us : List ℕ) → Lacks v us → Lacks v (without x us)
unfolding without
lacks_without v x [] l = l
lacks_without v x (u ∷ us) l = cond_both (eqb u x) us (u ∷ without x us) (Lacks v) (λ _. l.1) (λ _. (l.0, lacks_without v x us l.1))

apart_without : (x : ℕ) (us : List ℕ) → Apart us → Apart (without x us)
unfolding without
apart_without x [] a = a
apart_without x (u ∷ us) a = cond_both (eqb u x) us (u ∷ without x us) Apart (λ _. a.1) (λ _. (lacks_without u x us a.0, apart_without x us a.1))

lacks_self : (x : ℕ) (us : List ℕ) → Apart us → Lacks x (without x us)
unfolding without
lacks_self x [] a = tt
lacks_self x (u ∷ us) a =
    cond_both (eqb u x) us (u ∷ without x us) (Lacks x)
    (λ e. rw (eqb-true u x e) at a.0)
    (λ e. ((λ q. eqb-false u x e (sym q)), lacks_self x us a.1))

below_without : (n x : ℕ) (us : List ℕ) → AllByRecursion (λ u. u < n) us → AllByRecursion (λ u. u < n) (without x us)
unfolding without
below_without n x [] b = b
below_without n x (u ∷ us) b = cond_both (eqb u x) us (u ∷ without x us) (AllByRecursion (λ u. u < n)) (λ _. b.1) (λ _. (b.0, below_without n x us b.1))

lower : (n : ℕ) (us : List ℕ) → AllByRecursion (λ u. u < suc n) us → Lacks n us → AllByRecursion (λ u. u < n) us
lower n [] b l = tt
lower n (u ∷ us) b l =
    let p = b.0 in let ne : n ≡ u → ⊥ = l.0 in
    (omega arith, lower n us b.1 l.1)

pub pigeon : (n : ℕ) (us : List ℕ) → Apart us → AllByRecursion (λ u. u < n) us → length us ≤ n
pigeon zero [] a b = omega arith
pigeon zero (u ∷ us) a b = let p = b.0 in absurd (omega arith)
pigeon (suc n) us a b =
    let p = pigeon n (without n us) (apart_without n us a) (lower n (without n us) (below_without (suc n) n us b) (lacks_self n us a)) in
    let q = length_without n us in
    omega arith

-- a number that tells each place: m of the j-th is base + j
lacks_by : (m : ℕ → ℕ) (base u : ℕ) (us : List ℕ) → m u < base → ((j : ℕ) → j < length us → m (get_or us j 0) ≡ base + j) → Lacks u us
lacks_by m base u [] h f = tt
lacks_by m base u (w ∷ us) h f =
    let z = f 0 (omega arith) in
    ((λ e. let q = ap m e in absurd (omega arith)), lacks_by m (suc base) u us (omega arith) (λ j l. let r = f (suc j) (omega arith) in omega arith))

pub apart_by : (m : ℕ → ℕ) (base : ℕ) (us : List ℕ) → ((j : ℕ) → j < length us → m (get_or us j 0) ≡ base + j) → Apart us
apart_by m base [] f = tt
apart_by m base (u ∷ us) f =
    let z = f 0 (omega arith) in
    let g : (j : ℕ) → j < length us → m (get_or us j 0) ≡ suc base + j = λ j l. (let r = f (suc j) (omega arith) in omega arith) in
    (lacks_by m (suc base) u us (omega arith) g, apart_by m (suc base) us g)

-- and one more that no place has
pub lacks_other : (m : ℕ → ℕ) (u : ℕ) (us : List ℕ) → ((j : ℕ) → j < length us → m (get_or us j 0) ≡ m u → ⊥) → Lacks u us
lacks_other m u [] f = tt
lacks_other m u (w ∷ us) f = ((λ e. f 0 (omega arith) (ap m (sym e))), lacks_other m u us (λ j l. f (suc j) (omega arith)))
