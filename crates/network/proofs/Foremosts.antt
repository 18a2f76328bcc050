-- A ring by the latest durations between its events.
use Rattle.std.proofs.Common.{◌≡◌, ℕ, zero, suc, ◌-◌, ◌<◌, ◌≤◌, ◌⊎◌, List, [], ◌∷◌, reverse, length, take, drop, refl, ap, ◌∙◌, subst, inl, inr, arith}
use Rattle.std.proofs.lemmas.List.{length-take, length-drop}
use Rattle.std.specs.List.{AllByRecursion}
use Rattle.std.proofs.lemmas.Bool.{cases_eq, cases_Bool, cases_lt}
use Rattle.kinds.specs.Time.{Time, Laws}
use Rattle.network.specs.declared.Arc.{Arc}
use Rattle.network.specs.Network.{UpTo, Chain, along, Ring, ends, Foremost, Names}
use Rattle.network.specs.Reckoning.{arc_at, placed}
use Rattle.network.specs.Rounds.{Sound, Turned}
use Rattle.network.proofs.Order.{upto_refl, upto_after}
use Rattle.network.proofs.Chains.{Fit, grows, length_ends, ends_inside}
use Rattle.network.proofs.Pigeons.{pigeon}

module _ {K : Type 0} {t : Time K} (laws : Laws t) (n : ℕ) (arcs : List (Arc K)) (sound : Sound t n arcs) where
  fit : Fit t n (placed t arcs)
  fit = record { starts = sound.starts; ends = sound.ends; short = sound.short }

  abbrev Alike : ℕ → ℕ → Type 0
  Alike j k = ((arc_at t arcs j).from ≡ (arc_at t arcs k).from) × ((arc_at t arcs j).to ≡ (arc_at t arcs k).to)

  alike : (j k : ℕ) → Alike j k ⊎ (Alike j k → ⊥)
  alike j k = elim (cases_eq (arc_at t arcs j).from (arc_at t arcs k).from) [
    | inl p ↦ elim (cases_eq (arc_at t arcs j).to (arc_at t arcs k).to) [ inl q ↦ inl (p, q) | inr q ↦ inr (λ a. q a.1) ]
    | inr p ↦ inr (λ a. p a.0)
  ]

  -- the best of the first m arcs and k
  pub record Best (k m b : ℕ) : Type 0 where
    pub known : b < length arcs
    pub same : Alike b k
    pub up : UpTo t (arc_at t arcs k).duration (arc_at t arcs b).duration
    pub best : (j : ℕ) → j < m → Alike j k → UpTo t (arc_at t arcs j).duration (arc_at t arcs b).duration

  keeps : (k m b : ℕ) → Best k m b → (Alike m k → UpTo t (arc_at t arcs m).duration (arc_at t arcs b).duration) → Best k (suc m) b
  keeps k m b r h = record {
    known = r.known;
    same = r.same;
    up = r.up;
    best = λ j l a. elim (cases_lt j m) [
      | inl q ↦ r.best j q a
      | inr q ↦ (let e : m ≡ j = omega arith in let P : ℕ → Type 0 = λ i. Alike i k → UpTo t (arc_at t arcs i).duration (arc_at t arcs b).duration in subst P e h a)
    ];
  }

  search_best : (k m : ℕ) → k < length arcs → m ≤ length arcs → (b : ℕ) × Best k m b
  search_best k zero h l = (k, record { known = h; same = (refl, refl); up = upto_refl laws _; best = λ j i a. absurd (omega arith) })
  search_best k (suc m) h l =
      let r = search_best k m h (omega arith) in
      elim (alike m k) [
        | inr no_one ↦ (r.0, keeps k m r.0 r.1 (λ a. absurd (no_one a)))
        | inl a ↦ elim (cases_Bool (t.before (arc_at t arcs m).duration (arc_at t arcs r.0).duration)) [
          | inl q ↦ (r.0, keeps k m r.0 r.1 (λ _. q))
          | inr q ↦
              (let rose = laws.total _ _ q in
              let low : Best k m m = record {
                known = omega arith;
                same = a;
                up = laws.trans _ _ _ r.1.up rose;
                best = λ j i s. laws.trans _ _ _ (r.1.best j i s) rose;
              } in
              (m, keeps k m m low (λ _. upto_refl laws _)))
        ]
      ]

  -- a chain with the best arcs between the same events
  pub record Better (u v : ℕ) (ks ls : List ℕ) : Type 0 where
    pub chain : Chain t (placed t arcs) u ls v
    pub foremost : AllByRecursion (Foremost t (placed t arcs)) ls
    pub same : ends t (placed t arcs) ls ≡ ends t (placed t arcs) ks
    pub count : length ls ≡ length ks
    pub up : UpTo t (along t (placed t arcs) t.none ks) (along t (placed t arcs) t.none ls)

  pub better : (u v : ℕ) (ks : List ℕ) → length ks ≤ 1024 → Chain t (placed t arcs) u ks v → (ls : List ℕ) × Better u v ks ls
  better u v [] h c = ([], record { chain = c; foremost = tt; same = refl; count = refl; up = upto_refl laws _ })
  better u v (k ∷ ks) h c =
      let r = better u (arc_at t arcs k).from ks (omega arith) c.2 in
      let b = search_best k (length arcs) c.0 (omega arith) in
      let z = laws.none_size in
      let cn = r.1.count in
      let p = grows laws n (placed t arcs) fit t.none 100000 u ks _ c.2 z (omega arith) in
      let q = grows laws n (placed t arcs) fit t.none 100000 u r.0 _ r.1.chain z (omega arith) in
      let d = sound.short k c.0 in
      let e = sound.short b.0 b.1.known in
      let one = laws.mono_left (along t (placed t arcs) t.none ks) (along t (placed t arcs) t.none r.0) (arc_at t arcs k).duration (omega arith) (omega arith) r.1.up in
      let two = laws.mono_right (arc_at t arcs k).duration (arc_at t arcs b.0).duration (along t (placed t arcs) t.none r.0) (omega arith) (omega arith) b.1.up in (
        b.0 ∷ r.0,
        record {
          chain = (b.1.known, b.1.same.1 ∙ c.1, rw b.1.same.0 r.1.chain);
          foremost = ((λ j l x y. b.1.best j l (x ∙ b.1.same.0, y ∙ b.1.same.1)), r.1.foremost);
          same = ap (λ vs. (arc_at t arcs b.0).to ∷ vs) r.1.same ∙ ap (λ e. e ∷ ends t (placed t arcs) ks) b.1.same.1;
          count = ap suc cn;
          up = laws.trans _ _ _ one two;
        },
      )

  pub ring_short : (ks : List ℕ) → Ring t (placed t arcs) ks → length ks ≤ n
  ring_short ks r =
      let e = length_ends t (placed t arcs) ks in
      let p = pigeon n (ends t (placed t arcs) ks) r.apart (ends_inside laws n (placed t arcs) fit r.event r.event ks r.closed) in
      omega arith

  pub named : (ks es : List ℕ) → n ≤ 1024 → Ring t (placed t arcs) ks → Turned t arcs ks es → Names t (placed t arcs) es
  named ks es h r w =
      let short = ring_short ks r in
      let b = better r.event r.event ks (omega arith) r.closed in
      let same = b.1.same in
      record {
        circuit = b.0;
        ring = record { event = r.event; closed = b.1.chain; apart = rw same r.apart; after = upto_after laws r.after b.1.up };
        foremost = b.1.foremost;
        front = w.front;
        back = w.back;
        circuit_is = ap reverse same ∙ w.circuit_is;
        named = w.named;
        smallest = w.smallest;
      }

-- the part of a path from s up to e
pub part_long : (path : List ℕ) (s e : ℕ) → e ≤ length path → length (take (e - s) (drop s path)) ≡ e - s
part_long path s e h = simp (length-take, length-drop) (omega arith)
