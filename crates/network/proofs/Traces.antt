-- The last rise, traced back arc by arc until an event comes twice: a ring.
use Rattle.std.proofs.Common.{◌≡◌, ℕ, zero, suc, ◌+◌, ◌-◌, ◌*◌, ◌<◌, ◌≤◌, List, [], ◌∷◌, ◌++◌, length, get_or, take, drop, set, sym, refl, ap, ◌∙◌, inl, inr, arith, length-append}
use Rattle.std.proofs.lemmas.Bool.{both_ways}
use Rattle.std.proofs.lemmas.List.{take_more_set, take-append-drop, take-take, length-take, length-drop, get_or-take, get_or-drop, drop_more}
use Rattle.kinds.specs.Time.{Time, Laws}
use Rattle.network.specs.declared.Arc.{Arc}
use Rattle.network.specs.Network.{UpTo, After, Chain, along, Reaches, Ring, ends}
use Rattle.network.specs.Reckoning.{at, arc_at, placed, network_of}
use Rattle.network.specs.Rounds.{Source, InLimits, Latest, Level, Levels, row_of, Rising}
use Rattle.network.proofs.Order.{after_upto, is_false}
use Rattle.network.proofs.Walks.{fits, latest_size}
use Rattle.network.proofs.Chains.{Fit, length_ends, along_append, chain_append, chain_split, grows, along_mono, along_join}
use Rattle.network.proofs.Pigeons.{apart_by}

pub event_at : {K : Type 0} (t : Time K) (arcs : List (Arc K)) (ks : List ℕ) (j : ℕ) → j < length ks → get_or (ends t (placed t arcs) ks) j 0 ≡ (arc_at t arcs (get_or ks j 0)).to
event_at t arcs [] j h = absurd (omega arith)
event_at t arcs (k ∷ ks) zero h = refl
event_at t arcs (k ∷ ks) (suc j) h = event_at t arcs ks j (omega arith)

-- i arcs are traced back from v, and u is the event come to
pub record Traced {K : Type 0} (t : Time K) (floors : List K) (arcs : List (Arc K)) (rows path : List ℕ) (v i u : ℕ) : Type 0 where
  pub x : K
  pub tab : List K
  pub inside : u < length floors
  -- x stands after all that reaches v by fewer than n arcs
  pub beyond : (j : ℕ) (y : K) → j < length floors → Reaches t (network_of t floors arcs) j v y → After t x y
  pub level : ℕ
  pub is_level : level + i ≡ length floors
  pub is_tab : Latest t floors arcs level tab
  pub value : x ≡ along t (placed t arcs) (at t tab u) (take i path)
  pub chain : Chain t (placed t arcs) u (take i path) v
  pub rises : (r : ℕ) → r + 1 ≡ level → get_or (row_of (length floors) rows r) u 0 ≡ 65535 → ⊥

module _ {K : Type 0} {t : Time K} (laws : Laws t) (floors : List K) (arcs : List (Arc K)) (limits : InLimits t floors arcs) where
  fit : Fit t (length floors) (placed t arcs)
  fit = fits laws floors arcs limits

  -- two tables of the latest values are the same
  unique : (k : ℕ) (a b : List K) → Latest t floors arcs k a → Latest t floors arcs k b → (v : ℕ) → v < length floors → at t a v ≡ at t b v
  unique k a b p q v h =
      let r = p.walks.reached v h in
      let s = q.walks.reached v h in
      laws.antisym _ _ (q.walks.latest v r.0 _ r.1 r.2) (p.walks.latest v s.0 _ s.1 s.2)

  -- what raised an event
  raised : (old : List K) (v : ℕ) (x : K) (f : ℕ) → (f ≡ 65535 → ⊥) → Source t arcs (length arcs) old v x f → (f < length arcs) × ((arc_at t arcs f).to ≡ v) × (x ≡ t.join (at t old (arc_at t arcs f).from) (arc_at t arcs f).duration) × After t x (at t old v)
  raised old v x f ne (inl p) = absurd (ne p.0)
  raised old v x f ne (inr p) = p

  raised_by : (old : List K) (v : ℕ) (x : K) (f h : ℕ) → f ≡ h → (h ≡ 65535 → ⊥) → Source t arcs (length arcs) old v x h → (f < length arcs) × ((arc_at t arcs f).to ≡ v) × (x ≡ t.join (at t old (arc_at t arcs f).from) (arc_at t arcs f).duration) × After t x (at t old v)
  raised_by old v x f h e ne s = raised old v x f (λ q. ne (sym e ∙ q)) (rw e s)

  same_by : (old : List K) (v : ℕ) (x : K) (f : ℕ) → f ≡ 65535 → Source t arcs (length arcs) old v x f → x ≡ at t old v
  same_by old v x f e (inl p) = p.1
  same_by old v x f e (inr p) = let q = limits.sound.few in absurd (omega (arith, p.0))

  module _ (rows : List ℕ) where
    pub traced_none : (v : ℕ) (path : List ℕ) → Rising t floors arcs rows v → Traced t floors arcs rows path v 0 v
    traced_none v path r =
        let n = length floors in
        let some = r.some in
        let lev = r.levels (n - 1) (omega arith) in
        let up = raised lev.old v _ _ r.rises (lev.round.source v (let e = lev.is_old.same in let i = r.inside in omega arith)) in
        let full : n - 1 + 1 ≡ n = omega arith in
        record {
          x = at t lev.new v;
          tab = lev.new;
          level = n;
          is_level = omega arith;
          inside = r.inside;
          beyond = λ j y h w. after_upto laws (lev.is_old.walks.latest v j y (omega arith) w) up.3;
          is_tab = rw full at lev.is_new;
          value = refl;
          chain = refl;
          rises = λ k h e. let q : k ≡ n - 1 = omega arith in r.rises (rw q at e);
        }

    module _ (v i u k f : ℕ) (path : List ℕ) (levels : Levels t floors arcs (length floors) rows) (tr : Traced t floors arcs rows path v i u) (is_k : k + 1 ≡ tr.level) (is_f : f ≡ get_or (row_of (length floors) rows k) u 0) (in_path : i < length path) where
      lev : Level t floors arcs k (row_of (length floors) rows k)
      lev = let e = tr.is_level in levels k (omega arith)

      up : (f < length arcs) × ((arc_at t arcs f).to ≡ u) × (at t lev.new u ≡ t.join (at t lev.old (arc_at t arcs f).from) (arc_at t arcs f).duration) × After t (at t lev.new u) (at t lev.old u)
      up = raised_by lev.old u _ f _ is_f (tr.rises k is_k) (lev.round.source u (let e = lev.is_old.same in let h = tr.inside in omega arith))

      pub traced_arc : f < length arcs
      traced_arc = up.0

      pub traced_end : (arc_at t arcs f).to ≡ u
      traced_end = up.1

      start : ℕ
      start = (arc_at t arcs f).from

      -- the table of the trace is the one that the row came to
      here : at t tr.tab u ≡ at t lev.new u
      here = unique tr.level tr.tab lev.new tr.is_tab (rw is_k at lev.is_new) u tr.inside

      longer : take (i + 1) (set path i f) ≡ take i path ++ (f ∷ [])
      longer = take_more_set path i f in_path

      -- had the start not risen in the row before, the event would have had its value before
      rose : (r : ℕ) → r + 1 ≡ k → get_or (row_of (length floors) rows r) (arc_at t arcs f).from 0 ≡ 65535 → ⊥
      rose r e quiet =
          let w = tr.is_level in
          let under = levels r (omega arith) in
          let in_start = limits.sound.starts f up.0 in
          let still : at t under.new (arc_at t arcs f).from ≡ at t under.old (arc_at t arcs f).from = same_by under.old (arc_at t arcs f).from _ _ quiet (under.round.source (arc_at t arcs f).from (let q = under.is_old.same in omega arith)) in
          let joint : at t lev.old (arc_at t arcs f).from ≡ at t under.new (arc_at t arcs f).from = unique k lev.old under.new lev.is_old (rw e at under.is_new) (arc_at t arcs f).from in_start in
          let joint_u : at t lev.old u ≡ at t under.new u = unique k lev.old under.new lev.is_old (rw e at under.is_new) u tr.inside in
          let met = under.round.meets f up.0 in
          let value : at t lev.new u ≡ t.join (at t under.old (arc_at t arcs f).from) (arc_at t arcs f).duration = up.2 ∙ ap (λ z. t.join z (arc_at t arcs f).duration) (joint ∙ still) in
          let low : UpTo t (at t lev.new u) (at t lev.old u) = rw (value, joint_u, ← up.1) met in
          both_ways _ up.3 low

      pub traced_more : Traced t floors arcs rows (set path i f) v (i + 1) (arc_at t arcs f).from
      traced_more = record {
        x = tr.x;
        tab = lev.old;
        level = k;
        is_level = let e = tr.is_level in omega arith;
        inside = limits.sound.starts f up.0;
        beyond = tr.beyond;
        is_tab = lev.is_old;
        value = rw longer (tr.value ∙ ap (λ y. along t (placed t arcs) y (take i path)) (here ∙ up.2) ∙ sym (along_append t (placed t arcs) (at t lev.old (arc_at t arcs f).from) (take i path) (f ∷ [])));
        chain = rw longer (chain_append t (placed t arcs) (arc_at t arcs f).from u v (take i path) (f ∷ []) tr.chain (up.0, up.1, refl));
        rises = rose;
      }

  -- an event that comes twice closes a ring
  module _ (rows path : List ℕ) (v i u s : ℕ) (tr : Traced t floors arcs rows path v i u) (in_s : s < i) (in_path : i ≤ length path) (again : (arc_at t arcs (get_or path s 0)).to ≡ u) where
    abbrev ring : List ℕ
    ring = drop s (take i path)

    rest : List ℕ
    rest = take s path

    parts : take i path ≡ take s path ++ drop s (take i path)
    parts = sym (take-append-drop s (take i path)) ∙ ap (λ p. p ++ drop s (take i path)) (take-take s i path (omega arith))

    split : (w : ℕ) × Chain t (placed t arcs) w (take s path) v × Chain t (placed t arcs) u (drop s (take i path)) w
    split = chain_split t (placed t arcs) u v (take s path) (drop s (take i path)) (rw parts at tr.chain)

    ends_at : (w : ℕ) (ks : List ℕ) (k : ℕ) (ls : List ℕ) → ks ≡ k ∷ ls → Chain t (placed t arcs) u ks w → (arc_at t arcs k).to ≡ w
    ends_at w [] k ls e c = let z : ◌≡◌ {A = ℕ} 0 1 = cc in absurd (omega arith)
    ends_at w (h ∷ hs) k ls e c = let q : h ≡ k = cc in rw (sym q) c.1

    back : split.0 ≡ u
    back =
        let long : s < length (take i path) = simp length-take (omega arith) in
        let head = drop_more (take i path) s 0 long in
        let first : get_or (take i path) s 0 ≡ get_or path s 0 = get_or-take i path s 0 in_s in
        sym (ends_at split.0 (drop s (take i path)) (get_or (take i path) s 0) _ head split.2) ∙ ap (λ k. (arc_at t arcs k).to) first ∙ again

    pub closes : Chain t (placed t arcs) u (drop s (take i path)) u
    closes = rw back at split.2

    ring_long : length (drop s (take i path)) ≡ i - s
    ring_long = simp (length-drop, length-take) (omega arith)

    rest_long : length (take s path) ≡ s
    rest_long = simp length-take (omega arith)

    rest_chain : Chain t (placed t arcs) u (take s path) v
    rest_chain = rw back at split.1

    y : K
    y = at t tr.tab u

    -- were the circuit's total at or before nothing, the walk without it would be at least as late
    pub rises_round : After t (along t (placed t arcs) t.none (drop s (take i path))) t.none
    rises_round = is_false _ (λ low.
        let lv = tr.is_level in
        let y = at t tr.tab u in
        let total = along t (placed t arcs) t.none (drop s (take i path)) in
        let size_y : t.size y ≤ 110000000 + tr.level * 100000 = latest_size laws floors arcs limits tr.level tr.tab tr.is_tab (omega arith) u tr.inside in
        let long = ring_long in
        let long_rest = rest_long in
        let z = laws.none_size in
        let size_total : t.size total ≤ 100000 + length (drop s (take i path)) * 100000 = grows laws (length floors) (placed t arcs) fit t.none 100000 u (drop s (take i path)) u closes z (omega arith) in
        let size_round : t.size (along t (placed t arcs) y (drop s (take i path))) ≤ 110000000 + tr.level * 100000 + length (drop s (take i path)) * 100000 = grows laws (length floors) (placed t arcs) fit y (110000000 + tr.level * 100000) u (drop s (take i path)) u closes size_y (omega arith) in
        let joined = along_join laws (length floors) (placed t arcs) fit y (110000000 + tr.level * 100000) u (drop s (take i path)) u closes size_y (omega arith) in
        let down = laws.mono_right total t.none y (omega arith) (omega arith) low in
        let unit = laws.none_right y (omega arith) in
        let less : UpTo t (along t (placed t arcs) y (drop s (take i path))) y = rw joined (rw unit at down) in
        let less_all = along_mono laws (length floors) (placed t arcs) fit (along t (placed t arcs) y (drop s (take i path))) y (110000000 + tr.level * 100000 + length (drop s (take i path)) * 100000) u (take s path) v rest_chain size_round (omega arith) (omega arith) less in
        let whole : tr.x ≡ along t (placed t arcs) (along t (placed t arcs) y (drop s (take i path))) (take s path) = tr.value ∙ ap (along t (placed t arcs) y) parts ∙ along_append t (placed t arcs) y (take s path) (drop s (take i path)) in
        let w = tr.is_tab.walks.reached u tr.inside in
        let j_low = w.1 in
        let short : Reaches t (network_of t floors arcs) (s + w.0) v (along t (placed t arcs) y (take s path)) = record {
          first = w.2.first;
          walk = take s path ++ w.2.walk;
          inside = w.2.inside;
          chain = chain_append t (placed t arcs) w.2.first u v (take s path) w.2.walk rest_chain w.2.chain;
          count = length-append (take s path) w.2.walk ∙ (let q = w.2.count in omega arith);
          value = ap (λ y. along t (placed t arcs) y (take s path)) w.2.value ∙ sym (along_append t (placed t arcs) (at t floors w.2.first) (take s path) w.2.walk);
        } in
        both_ways _ (tr.beyond (s + w.0) _ (omega arith) short) (rw whole less_all))

    pub ring_is : (m : ℕ → ℕ) → ((j : ℕ) → j < i → m (arc_at t arcs (get_or path j 0)).to ≡ j) → Ring t (placed t arcs) (drop s (take i path))
    ring_is m marks = record {
      event = u;
      closed = closes;
      apart = apart_by m s (ends t (placed t arcs) (drop s (take i path))) (λ j h.
          let long = ring_long in
          let el = length_ends t (placed t arcs) (drop s (take i path)) in
          let in_j : j < length (drop s (take i path)) = omega arith in
          let at_j : get_or (drop s (take i path)) j 0 ≡ get_or path (s + j) 0 = get_or-drop s (take i path) j 0 ∙ get_or-take i path (s + j) 0 (omega arith) in
          ap m (event_at t arcs (drop s (take i path)) j in_j ∙ ap (λ k. (arc_at t arcs k).to) at_j) ∙ marks (s + j) (omega arith));
      after = rises_round;
    }
