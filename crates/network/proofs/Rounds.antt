-- One arc more in a round.
use Rattle.std.proofs.Common.{◌≡◌, ℕ, ◌+◌, ◌<◌, ◌≤◌, leb, ◌≢◌, List, length, get_or, set, Some, None, sym, refl, ◌∙◌, inl, inr, arith, below_more}
use Rattle.std.proofs.lemmas.List.{get_or-set_same, get_or-set_other, get_or_read}
use Rattle.std.proofs.lemmas.Bool.{cases_eq, le-leb, cond-true, cases_cond}
use Rattle.kinds.specs.Time.{Time, Laws}
use Rattle.network.specs.declared.Arc.{Arc}
use Rattle.kinds.specs.Time.{within}
use Rattle.network.specs.Network.{UpTo, After}
use Rattle.network.specs.Reckoning.{at, arc_at}
use Rattle.network.specs.Rounds.{Round, Source, Sound, Sized, InLimits}
use Rattle.network.proofs.Order.{after_upto, upto_same}

-- an answer that is there is the value, and one within the limit is there
pub some_is : {A : Type 0} (n : ℕ) (x z : A) → Some x ≡ within n z → x ≡ z
some_is n x z e = elim (cases_cond (leb n 400000000) (Some z) None (Some x) e) [
  | inl p ↦ cc
  | inr p ↦ let z : ◌≡◌ {A = ℕ} 0 1 = cc in absurd (omega arith)
]

pub none_not : {A : Type 0} (n : ℕ) (z : A) → n ≤ 400000000 → None ≡ within n z → ⊥
none_not n z h e =
    let s = e ∙ cond-true (leb n 400000000) (Some z) None (le-leb n 400000000 h) in
    let z : ◌≡◌ {A = ℕ} 0 1 = cc in omega arith

-- sound over a table as long as the floors
pub sound_at : {K : Type 0} {t : Time K} {floors : List K} {arcs : List (Arc K)} (old : List K) → InLimits t floors arcs → length old ≡ length floors → Sound t (length old) arcs
sound_at old limits same = rw same limits.sound

-- what is read at arc i, and at its start
module _ {K : Type 0} (old : List K) {t : Time K} {arcs : List (Arc K)} (sound : Sound t (length old) arcs) {i : ℕ} (l : i < length arcs) {a : Arc K} (a_is : a ≡ get_or arcs i a) where
  pub arc_is : a ≡ arc_at t arcs i
  arc_is = get_or_read arcs i a l a_is _

  pub arc_starts : a.from < length old
  arc_starts = rw arc_is (sound.starts i l)

  pub arc_ends : a.to < length old
  arc_ends = rw arc_is (sound.ends i l)

  -- the arc's duration may be joined to whatever time is read
  pub arc_fits : {e : ℕ} {y : K} → y ≡ get_or old e y → e < length old → Sized t 300000000 old → t.size y + t.size a.duration ≤ 400000000
  arc_fits {e} {y} read inside sized =
      let p : t.size y ≤ 300000000 = rw (get_or_read old e y inside read t.none) (sized e inside) in
      let q : t.size a.duration ≤ 100000 = rw arc_is (sound.short i l) in
      omega arith

  module _ {y : K} (y_is : y ≡ get_or old a.from y) where
    pub start_is : y ≡ at t old a.from
    start_is = get_or_read old a.from y arc_starts y_is _

    pub brings : {x : K} → Some x ≡ within (t.size y + t.size a.duration) (t.join y a.duration) → x ≡ t.join (at t old (arc_at t arcs i).from) (arc_at t arcs i).duration
    brings e = let p = some_is _ _ _ e in let q = start_is in let r = arc_is in rw p (rw q (rw r refl))

module _ {K : Type 0} {t : Time K} (laws : Laws t) (arcs : List (Arc K)) (i : ℕ) (old new : List K) (from : List ℕ) where
  -- what arc i brings to its end
  abbrev brought : K
  brought = t.join (at t old (arc_at t arcs i).from) (arc_at t arcs i).duration

  weaker : (v : ℕ) (x : K) (f : ℕ) → Source t arcs i old v x f → Source t arcs (i + 1) old v x f
  weaker v x f (inl p) = inl p
  weaker v x f (inr p) = inr (omega arith, p.1, p.2, p.3)

  pub round_keeps : Round t arcs i old new from → UpTo t brought (at t new (arc_at t arcs i).to) → Round t arcs (i + 1) old new from
  round_keeps r h = record {
    keeps = r.keeps;
    meets = below_more _ _ r.meets h;
    source = λ v l. weaker v _ _ (r.source v l);
  }

  module _ (e : ℕ) (x : K) (is_end : e ≡ (arc_at t arcs i).to) (is_x : x ≡ brought) (in_old : e < length old) (in_new : e < length new) (in_from : e < length from) (after : After t x (at t new e)) where
    -- the new table at v: x at e, and otherwise as it was
    there : (P : K → ℕ → Type 0) (v : ℕ) → (v ≡ e → P x i) → (v ≢ e → P (at t new v) (get_or from v 0)) → P (at t (set new e x) v) (get_or (set from e i) v 0)
    there P v same other =
        elim (cases_eq v e) [
          | inl q ↦ rw (q, get_or-set_same new e x t.none in_new, get_or-set_same from e i 0 in_from) (same q)
          | inr q ↦ rw (get_or-set_other new e v x t.none q, get_or-set_other from e v i 0 q) (other q)
        ]

    -- x stands at or after what was there
    rose : UpTo t (at t new e) x
    rose = laws.total x (at t new e) after

    pub round_takes : Round t arcs i old new from → Round t arcs (i + 1) old (set new e x) (set from e i)
    round_takes r = record {
      keeps = λ v l. there (λ y _. UpTo t (at t old v) y) v
          (λ q. rw q (laws.trans (at t old e) (at t new e) x (r.keeps e in_old) rose))
          (λ _. r.keeps v l);
      meets = below_more _ _
          (λ k h. there (λ y _. UpTo t (t.join (at t old (arc_at t arcs k).from) (arc_at t arcs k).duration) y) (arc_at t arcs k).to
          (λ q. laws.trans _ (at t new e) x (rw q at (r.meets k h)) rose)
          (λ _. r.meets k h))
          (there (λ y _. UpTo t brought y) (arc_at t arcs i).to
          (λ _. upto_same laws (sym is_x))
          (λ ne. absurd (ne (sym is_end))));
      source = λ v l. there (λ y f. Source t arcs (i + 1) old v y f) v
          (λ q. inr (omega arith, sym (q ∙ is_end), is_x, rw q (after_upto laws (r.keeps e in_old) after)))
          (λ _. weaker v _ _ (r.source v l));
    }
