-- What a round does to the latest values along walks.
use Rattle.std.proofs.Common.{◌≡◌, ℕ, suc, ◌+◌, ◌*◌, ◌<◌, ◌≤◌, List, [], ◌∷◌, length, sym, refl, ap, ◌∙◌, inl, inr, arith}
use Rattle.kinds.specs.Time.{Time, Laws}
use Rattle.network.specs.declared.Arc.{Arc}
use Rattle.network.specs.Network.{UpTo, Chain, along, Reaches}
use Rattle.network.specs.Reckoning.{at, arc_at, placed, network_of}
use Rattle.network.specs.Rounds.{Round, Source, Sized, InLimits, Latest}
use Rattle.network.proofs.Chains.{Fit, grows}
use Rattle.network.proofs.Order.{upto_same}

module _ {K : Type 0} {t : Time K} (laws : Laws t) (floors : List K) (arcs : List (Arc K)) (limits : InLimits t floors arcs) where
  pub fits : Fit t (length floors) (placed t arcs)
  fits = record { starts = limits.sound.starts; ends = limits.sound.ends; short = limits.sound.short }

  pub reaches_size : (j v : ℕ) (x : K) → Reaches t (network_of t floors arcs) j v x → j ≤ 1024 → t.size x ≤ 110000000 + j * 100000
  reaches_size j v x r h =
      let e = r.count in
      let p = grows laws (length floors) (placed t arcs) fits (at t floors r.first) 110000000 r.first r.walk v r.chain (limits.sized r.first r.inside) (omega arith) in
      let q : t.size x ≤ 110000000 + length r.walk * 100000 = rw r.value p in
      omega arith

  pub latest_size : (k : ℕ) (table : List K) → Latest t floors arcs k table → k ≤ 1024 → (v : ℕ) → v < length floors → t.size (at t table v) ≤ 110000000 + k * 100000
  latest_size k table l h v in_v =
      let r = l.walks.reached v in_v in
      let p = reaches_size r.0 v _ r.2 (omega arith) in
      omega arith

  pub latest_sized : (k : ℕ) (table : List K) → Latest t floors arcs k table → k ≤ 1024 → Sized t 300000000 table
  latest_sized k table l h v in_v =
      let s = l.same in
      let p = latest_size k table l h v (omega arith) in omega arith

  none_is : (u v : ℕ) (ks : List ℕ) (x : K) → length ks ≡ 0 → Chain t (placed t arcs) u ks v → x ≡ along t (placed t arcs) (at t floors u) ks → UpTo t x (at t floors v)
  none_is u v [] x e c q = upto_same laws (q ∙ ap (at t floors) c)
  none_is u v (k ∷ ks) x e c q = absurd (omega arith)

  pub latest_none : Latest t floors arcs 0 floors
  latest_none = record {
    same = refl;
    walks = record {
      reached = λ v h. (0, omega arith, record { first = v; walk = []; inside = h; chain = refl; count = refl; value = refl });
      latest = λ v j x h r. let e = r.count in none_is r.first v r.walk x (omega arith) r.chain r.value;
    };
  }

  -- an arc more at the end of a walk
  walk_on : (j f : ℕ) (y : K) → f < length arcs → Reaches t (network_of t floors arcs) j (arc_at t arcs f).from y → Reaches t (network_of t floors arcs) (suc j) (arc_at t arcs f).to (t.join y (arc_at t arcs f).duration)
  walk_on j f y h r = record {
    first = r.first;
    walk = f ∷ r.walk;
    inside = r.inside;
    chain = (h, refl, r.chain);
    count = ap suc r.count;
    value = ap (λ z. t.join z (arc_at t arcs f).duration) r.value;
  }

  module _ (k : ℕ) (old new : List K) (row : List ℕ) (few : k < 1024) (l : Latest t floors arcs k old) (r : Round t arcs (length arcs) old new row) where
    came : (v : ℕ) (x : K) (f : ℕ) → v < length floors → Source t arcs (length arcs) old v x f → (j : ℕ) × (j ≤ k + 1) × Reaches t (network_of t floors arcs) j v x
    came v x f h (inl p) =
        let w = l.walks.reached v h in
        (w.0, omega (arith, w.1), rw p.1 w.2)
    came v x f h (inr p) =
        let w = l.walks.reached (arc_at t arcs f).from (limits.sound.starts f p.0) in
        (suc w.0, omega (arith, w.1), rw (p.2, ← p.1) (walk_on w.0 f _ p.0 w.2))

    walked : (u v : ℕ) (ks : List ℕ) → length ks ≤ k + 1 → u < length floors → v < length floors → Chain t (placed t arcs) u ks v → UpTo t (along t (placed t arcs) (at t floors u) ks) (at t new v)
    walked u v [] h in_u in_v c =
        let e = l.same in
        laws.trans _ (at t old v) _ (l.walks.latest v 0 _ (omega arith) (record { first = u; walk = []; inside = in_u; chain = c; count = refl; value = refl })) (r.keeps v (omega arith))
    walked u v (f ∷ ks) h in_u in_v c =
        let y = along t (placed t arcs) (at t floors u) ks in
        let w : Reaches t (network_of t floors arcs) (length ks) (arc_at t arcs f).from y = record { first = u; walk = ks; inside = in_u; chain = c.2; count = refl; value = refl } in
        let up = l.walks.latest (arc_at t arcs f).from (length ks) y (omega arith) w in
        let size_y = reaches_size (length ks) (arc_at t arcs f).from y w (omega arith) in
        let size_o = latest_size k old l (omega arith) (arc_at t arcs f).from (limits.sound.starts f c.0) in
        let size_d = limits.sound.short f c.0 in
        let more = laws.mono_left y (at t old (arc_at t arcs f).from) (arc_at t arcs f).duration (omega arith) (omega arith) up in
        rw (sym c.1) (laws.trans _ _ _ more (r.meets f c.0))

    -- a walk ends at an event
    pub ends_in : (u v : ℕ) (ks : List ℕ) → u < length floors → Chain t (placed t arcs) u ks v → v < length floors
    ends_in u v [] h c = rw (sym c) h
    ends_in u v (f ∷ ks) h c = rw (sym c.1) (limits.sound.ends f c.0)

    pub latest_more : length new ≡ length floors → Latest t floors arcs (k + 1) new
    latest_more same = record {
      same = same;
      walks = record {
        reached = λ v h. let e = l.same in came v _ _ h (r.source v (omega arith));
        latest = λ v j x h w. let e = w.count in rw w.value (walked w.first v w.walk (omega arith) w.inside (ends_in w.first v w.walk w.inside w.chain) w.chain);
      };
    }
