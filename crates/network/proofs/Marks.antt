-- The marks of the events that a trace has come through.
use Rattle.std.proofs.Common.{◌≡◌, ℕ, ◌+◌, ◌<◌, ◌≤◌, ◌⊎◌, List, ◌∷◌, length, get_or, take, set, replicate, ap, ◌∙◌, inl, inr, arith, below_more}
use Rattle.std.specs.List.{AllByRecursion}
use Rattle.std.proofs.lemmas.Bool.{cases_eq}
use Rattle.std.proofs.ByRecursion.{All-from_get_or}
use Rattle.std.proofs.lemmas.List.{length-take, get_or-take, get_or-set_same, get_or-set_other, get_or-replicate}
use Rattle.kinds.specs.Time.{Time}
use Rattle.network.specs.declared.Arc.{Arc}
use Rattle.network.specs.Network.{ends, Apart, Lacks}
use Rattle.network.specs.Reckoning.{arc_at, placed}
use Rattle.network.proofs.Pigeons.{pigeon, apart_by, lacks_other}
use Rattle.network.proofs.Chains.{length_ends}
use Rattle.network.proofs.Traces.{event_at}

-- event e is unmarked, or the arc at the marked place of the path ends there
abbrev pub Mark : {K : Type 0} → Time K → List (Arc K) → List ℕ → ℕ → ℕ → ℕ → Type 0
Mark t arcs path i e m = (m ≡ 65535) ⊎ ((m < i) × ((arc_at t arcs (get_or path m 0)).to ≡ e))

pub record Marks {K : Type 0} (t : Time K) (arcs : List (Arc K)) (n : ℕ) (seen path : List ℕ) (i : ℕ) : Type 0 where
  pub inside : (j : ℕ) → j < i → (arc_at t arcs (get_or path j 0)).to < n
  pub mark : (j : ℕ) → j < i → get_or seen (arc_at t arcs (get_or path j 0)).to 0 ≡ j
  pub back : (e : ℕ) → e < n → Mark t arcs path i e (get_or seen e 0)

module _ {K : Type 0} {t : Time K} (arcs : List (Arc K)) (n : ℕ) where
  pub marks_none : (seen path : List ℕ) → seen ≡ replicate n 65535 → Marks t arcs n seen path 0
  marks_none seen path e = record {
    inside = λ j h. absurd (omega arith);
    mark = λ j h. absurd (omega arith);
    back = λ v h. inl (ap (λ xs. get_or xs v 0) e ∙ get_or-replicate n v 65535 0 h);
  }

  module _ (seen path : List ℕ) (i u : ℕ) (few : n ≤ 1024) (long : length seen ≡ n) (in_u : u < n) (fresh : get_or seen u 0 ≡ 65535) (low : i ≤ length path) (small : i ≤ n) (m : Marks t arcs n seen path i) where
    other_mark : (j : ℕ) → j < i → (arc_at t arcs (get_or path j 0)).to ≡ u → ⊥
    other_mark j h e = let p = m.mark j h in let q = ap (λ v. get_or seen v 0) e in omega arith

    pub room : i < n
    room =
        let ks = take i path in
        let ll : length (take i path) ≡ i = simp length-take (omega arith) in
        let el = length_ends t (placed t arcs) (take i path) in
        let at_j : (j : ℕ) → j < i → get_or (ends t (placed t arcs) (take i path)) j 0 ≡ (arc_at t arcs (get_or path j 0)).to = λ j h. event_at t arcs (take i path) j (omega arith) ∙ ap (λ k. (arc_at t arcs k).to) (get_or-take i path j 0 h) in
        let a : Apart (ends t (placed t arcs) (take i path)) = apart_by (λ v. get_or seen v 0) 0 (ends t (placed t arcs) (take i path)) (λ j h. let l : j < i = omega arith in ap (λ v. get_or seen v 0) (at_j j l) ∙ m.mark j l ∙ (omega arith)) in
        let l : Lacks u (ends t (placed t arcs) (take i path)) = lacks_other (λ v. get_or seen v 0) u (ends t (placed t arcs) (take i path)) (λ j h e. let l : j < i = omega arith in let p = m.mark j l in let q = ap (λ v. get_or seen v 0) (at_j j l) in omega arith) in
        let b : AllByRecursion (λ v. v < n) (ends t (placed t arcs) (take i path)) = All-from_get_or (λ v. v < n) (ends t (placed t arcs) (take i path)) 0 (λ j h. let l : j < i = omega arith in rw (at_j j l) (m.inside j l)) in
        let p = pigeon n (u ∷ ends t (placed t arcs) (take i path)) (l, a) (in_u, b) in
        omega arith

    module _ (f : ℕ) (in_path : i < length path) (end : (arc_at t arcs f).to ≡ u) where
      old_place : (j : ℕ) → j < i → get_or (set path i f) j 0 ≡ get_or path j 0
      old_place j h = get_or-set_other path i j f 0 (λ e. omega arith)

      new_place : get_or (set path i f) i 0 ≡ f
      new_place = get_or-set_same path i f 0 in_path

      kept : (e k : ℕ) → Mark t arcs path i e k → Mark t arcs (set path i f) (i + 1) e k
      kept e k (inl p) = inl p
      kept e k (inr p) = let q = p.0 in inr (omega arith, ap (λ a. (arc_at t arcs a).to) (old_place k p.0) ∙ p.1)

      pub marks_more : Marks t arcs n (set seen u i) (set path i f) (i + 1)
      marks_more = record {
        inside = below_more _ _ (λ j h. rw (old_place j h) (m.inside j h)) (rw (new_place, end) in_u);
        mark = below_more _ _
            (λ j h. rw (old_place j h) (get_or-set_other seen u _ i 0 (other_mark j h) ∙ m.mark j h))
            (rw (new_place, end) (get_or-set_same seen u i 0 (omega arith)));
        back = λ e h. elim (cases_eq e u) [
          | inl q ↦ rw q (rw (get_or-set_same seen u i 0 (omega arith)) (inr (omega arith, ap (λ a. (arc_at t arcs a).to) new_place ∙ end)))
          | inr q ↦ rw (get_or-set_other seen u e i 0 q) (kept e _ (m.back e h))
        ];
      }
