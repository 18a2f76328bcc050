-- Laws of stretches of arcs.
use Rattle.std.proofs.Common.{◌≡◌, ℕ, ◌+◌, ◌<◌, ◌≤◌, ◌≢◌, ◌⊎◌, length, set, sym, refl, ◌∙◌, subst, inl, inr, arith, length-set}
use Rattle.std.proofs.lemmas.List.{get_or-set_same, get_or-set_other}
use Rattle.std.proofs.lemmas.Bool.{cases_lt, cases_order}
use Rattle.kinds.specs.Time.{Time}
use Rattle.network.specs.declared.Arc.{Arc}
use Rattle.force.specs.declared.arcs.ArcList.{ArcList}
use Rattle.force.specs.Added.{Added, Listed, Among}

module _ {K : Type 0} (t : Time K) where
  pub added_none : (P : Arc K → Type 0) (l : ArcList K) → ((a : Arc K) → P a → ⊥) → Added t P l l
  added_none P l empty = record { same = refl; long = refl; grows = omega arith; kept = λ k h. refl; each = λ k a b. absurd (omega arith); all = λ a p. absurd (empty a p) }

  pub added_one : (l : ArcList K) (b : Arc K) → l.count < length l.arcs.now → Added t (λ a. a ≡ b) l (record { arcs = record (l.arcs) { now = set l.arcs.now l.count b }; count = l.count + 1 })
  added_one l b inside =
      let xs = l.arcs.now in
      let m = l.count in
      record {
        same = refl;
        long = length-set xs m b;
        grows = omega arith;
        kept = λ k h. (let ne : k ≢ m = omega arith in get_or-set_other xs m k b _ ne);
        each = λ k h i. (let e : k ≡ m = omega arith in rw e (get_or-set_same xs m b _ inside));
        all = λ a e. (m, (omega arith, omega arith, get_or-set_same xs m b _ inside ∙ sym e));
      }

  pub added_as : (P Q : Arc K → Type 0) (l l' : ArcList K) → ((a : Arc K) → P a → Q a) → ((a : Arc K) → Q a → P a) → Added t P l l' → Added t Q l l'
  added_as P Q l l' there back h = record { same = h.same; long = h.long; grows = h.grows; kept = h.kept; each = λ k a b. there _ (h.each k a b); all = λ a q. h.all a (back a q) }

  pub added_then : (P Q : Arc K → Type 0) (l m n : ArcList K) → Added t P l m → Added t Q m n → Added t (λ a. P a ⊎ Q a) l n
  added_then P Q l m n p q = record {
    same = q.same ∙ p.same;
    long = q.long ∙ p.long;
    grows = omega (arith, p.grows, q.grows);
    kept = λ i h. q.kept i (omega (arith, p.grows)) ∙ p.kept i h;
    each = λ i a b. elim (cases_lt i m.count) [
      | inl h ↦ inl (rw (q.kept i h) (p.each i a h))
      | inr h ↦ inr (q.each i h b)
    ];
    all = λ a e. elim e [
      | inl x ↦ (let r = p.all a x in (r.0, (r.1.0, omega (arith, r.1.1, q.grows), q.kept r.0 r.1.1 ∙ r.1.2)))
      | inr y ↦ (let r = q.all a y in (r.0, (omega (arith, r.1.0, p.grows), r.1.1, r.1.2)))
    ];
  }

  -- one more turn of a loop that counts up
  pub added_more : (C : ℕ → Arc K → Type 0) (l m n : ArcList K) (low r : ℕ) → low ≤ r → Added t (Among C low r) l m → Added t (C r) m n → Added t (Among C low (r + 1)) l n
  added_more C l m n low r above p q =
      added_as (λ a. Among C low r a ⊎ C r a) (Among C low (r + 1)) l n
      (λ a e. elim e [ inl x ↦ (x.0, (x.1.0, omega (arith, x.1.1), x.1.2)) | inr y ↦ (r, (above, omega arith, y)) ])
      (λ a x. elim (cases_lt x.0 r) [
        | inl h ↦ inl (x.0, (x.1.0, h, x.1.2))
        | inr h ↦ inr (let s : x.0 ≡ r = omega (arith, x.1.1) in let P : ℕ → Type 0 = λ i. C i a in subst P s x.1.2)
      ])
      (added_then (Among C low r) (C r) l m n p q)

  -- one more turn of a loop that goes back from run to run, with none of C between
  pub added_back : (C : ℕ → Arc K → Type 0) (l m n : ArcList K) (q i p j : ℕ) → q ≤ i → p ≡ i + 1 → p ≤ j → ((r : ℕ) (a : Arc K) → q ≤ r → r < i → C r a → ⊥) → Added t (Among C p j) l m → Added t (C i) m n → Added t (Among C q j) l n
  added_back C l m n q i p j low next high none h one =
      added_as (λ a. Among C p j a ⊎ C i a) (Among C q j) l n
      (λ a e. elim e [ inl x ↦ (x.0, (omega (arith, x.1.0), x.1.1, x.1.2)) | inr y ↦ (i, (low, omega arith, y)) ])
      (λ a x. elim (cases_order x.0 i) [
        | inl s ↦ inr (let P : ℕ → Type 0 = λ r. C r a in subst P s x.1.2)
        | inr (inl before) ↦ absurd (none x.0 a x.1.0 before x.1.2)
        | inr (inr after) ↦ inl (x.0, (omega arith, x.1.1, x.1.2))
      ])
      (added_then (Among C p j) (C i) l m n h one)

  -- a loop before its first turn
  pub added_start : (C : ℕ → Arc K → Type 0) (l : ArcList K) (low high : ℕ) → high ≤ low → Added t (Among C low high) l l
  added_start C l low high h = added_none (Among C low high) l (λ a x. omega (arith, x.1.0, x.1.1))

  pub listed : (P : Arc K → Type 0) (l m : ArcList K) → l.count ≡ 0 → Added t P l m → Listed t P m.arcs.now m.count
  listed P l m e h = record { each = λ k i. h.each k (omega arith) i; all = λ a p. (let r = h.all a p in (r.0, (r.1.1, r.1.2))) }
