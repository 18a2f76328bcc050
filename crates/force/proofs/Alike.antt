-- Networks that differ only in how their arcs are named have the same tables, least times and rings.
use Rattle.std.proofs.Common.{◌≡◌, ℕ, suc, ◌-◌, ◌<◌, ◌⊎◌, List, [], ◌∷◌, reverse, length, sym, refl, ap, ◌∙◌, subst, inl, inr, arith}
use Rattle.std.specs.List.{AllByRecursion}
use Rattle.kinds.specs.Time.{Time}
use Rattle.network.specs.declared.Arc.{Arc}
use Rattle.network.specs.Network.{Arcs, Network, UpTo, After, Apart, Chain, along, ends, Ring, HasRing, Foremost, Names, Reaches, Table, Meets, NoTable, LatestWalks, Equation, Least}

-- each arc that A has, B has under some name
abbrev pub Renames : {K : Type 0} → Arcs K → Arcs K → Type 0
Renames A B = (k : A.Name) → A.Has k → (j : B.Name) × B.Has j × (B.arc j ≡ A.arc k)

module _ {K : Type 0} (t : Time K) (A B : Arcs K) (there : Renames A B) where
  -- a chain under the other names
  pub renamed : (u v : ℕ) (ks : List A.Name) → Chain t A u ks v → List B.Name
  renamed u v [] c = []
  renamed u v (k ∷ ks) c = (there k c.0).0 ∷ renamed u (A.arc k).from ks c.2

  pub renamed_chain : (u v : ℕ) (ks : List A.Name) (c : Chain t A u ks v) → Chain t B u (renamed u v ks c) v
  unfolding renamed
  renamed_chain u v [] c = c
  renamed_chain u v (k ∷ ks) c =
      let r = there k c.0 in
      let P : ℕ → Type 0 = λ w. Chain t B u (renamed u (A.arc k).from ks c.2) w in
      (r.1, ap (λ (a : Arc K). a.to) r.2 ∙ c.1, subst P (sym (ap (λ (a : Arc K). a.from) r.2)) (renamed_chain u (A.arc k).from ks c.2))

  pub renamed_along : (x : K) (u v : ℕ) (ks : List A.Name) (c : Chain t A u ks v) → along t B x (renamed u v ks c) ≡ along t A x ks
  unfolding renamed
  renamed_along x u v [] c = refl
  renamed_along x u v (k ∷ ks) c =
      let e = renamed_along x u (A.arc k).from ks c.2 in
      let d = ap (λ (a : Arc K). a.duration) (there k c.0).2 in
      ap (λ y. t.join y (B.arc (there k c.0).0).duration) e ∙ ap (t.join (along t A x ks)) d

  pub renamed_ends : (u v : ℕ) (ks : List A.Name) (c : Chain t A u ks v) → ends t B (renamed u v ks c) ≡ ends t A ks
  unfolding renamed
  renamed_ends u v [] c = refl
  renamed_ends u v (k ∷ ks) c =
      let e = renamed_ends u (A.arc k).from ks c.2 in
      let d = ap (λ (a : Arc K). a.to) (there k c.0).2 in
      ap (λ (w : ℕ). w ∷ ends t B (renamed u (A.arc k).from ks c.2)) d ∙ ap (λ (ws : List ℕ). (A.arc k).to ∷ ws) e

  pub renamed_length : (u v : ℕ) (ks : List A.Name) (c : Chain t A u ks v) → length (renamed u v ks c) ≡ length ks
  unfolding renamed
  renamed_length u v [] c = refl
  renamed_length u v (k ∷ ks) c = ap suc (renamed_length u (A.arc k).from ks c.2)

  pub renamed_ring : (ks : List A.Name) (r : Ring t A ks) → Ring t B (renamed r.event r.event ks r.closed)
  renamed_ring ks r =
      let P : K → Type 0 = λ x. After t x t.none in
      let Q : List ℕ → Type 0 = Apart in
      record {
        event = r.event;
        closed = renamed_chain r.event r.event ks r.closed;
        apart = subst Q (sym (renamed_ends r.event r.event ks r.closed)) r.apart;
        after = subst P (sym (renamed_along t.none r.event r.event ks r.closed)) r.after;
      }

  pub ring_there : HasRing t A → HasRing t B
  ring_there h = (renamed h.1.event h.1.event h.0 h.1.closed, renamed_ring h.0 h.1)

  module _ (back : Renames B A) where
    foremost_there : (k : A.Name) (h : A.Has k) → Foremost t A k → Foremost t B (there k h).0
    foremost_there k h fore j has starts ends_at =
        let r = there k h in
        let b = back j has in
        let from : (a c : Arc K) → a ≡ c → a.from ≡ c.from = λ a c e. ap (λ (a : Arc K). a.from) e in
        let to : (a c : Arc K) → a ≡ c → a.to ≡ c.to = λ a c e. ap (λ (a : Arc K). a.to) e in
        let P : Arc K → Type 0 = λ a. UpTo t a.duration (B.arc r.0).duration in
        let Q : Arc K → Type 0 = λ a. UpTo t (A.arc b.0).duration a.duration in
        subst P b.2 (subst Q (sym r.2) (fore b.0 b.1 (from _ _ b.2 ∙ starts ∙ from _ _ r.2) (to _ _ b.2 ∙ ends_at ∙ to _ _ r.2)))

    foremosts_there : (u v : ℕ) (ks : List A.Name) (c : Chain t A u ks v) → AllByRecursion (Foremost t A) ks → AllByRecursion (Foremost t B) (renamed u v ks c)
    unfolding renamed
    foremosts_there u v [] c all = tt
    foremosts_there u v (k ∷ ks) c all = (foremost_there k c.0 all.0, foremosts_there u (A.arc k).from ks c.2 all.1)

    -- the same events name a ring of both
    pub names_there : (events : List ℕ) → Names t A events → Names t B events
    names_there events n =
        let e = n.ring.event in
        record {
          circuit = renamed e e n.circuit n.ring.closed;
          ring = renamed_ring n.circuit n.ring;
          foremost = foremosts_there e e n.circuit n.ring.closed n.foremost;
          front = n.front;
          back = n.back;
          circuit_is = ap reverse (renamed_ends e e n.circuit n.ring.closed) ∙ n.circuit_is;
          named = n.named;
          smallest = n.smallest;
        }

-- the same events and floors, and the same arcs under other names
pub record Alike {K : Type 0} (N M : Network K) : Type 0 where
  pub events : N.events ≡ M.events
  pub floors : (v : ℕ) → v < N.events → N.floor v ≡ M.floor v
  pub there : Renames N.arcs M.arcs
  pub back : Renames M.arcs N.arcs

pub turned_round : {K : Type 0} (N M : Network K) → Alike N M → Alike M N
turned_round N M a = record { events = sym a.events; floors = λ v h. sym (a.floors v (omega (arith, a.events))); there = a.back; back = a.there }

module _ {K : Type 0} (t : Time K) (N M : Network K) (a : Alike N M) where
  pub table_there : (time : ℕ → K) → Table t N time → Table t M time
  table_there time s v h = s v (omega (arith, a.events))

  pub meets_there : (time : ℕ → K) → Meets t N time → Meets t M time
  meets_there time m = record {
    floors = λ v h. (let inside : v < N.events = omega (arith, a.events) in let P : K → Type 0 = λ x. UpTo t x (time v) in subst P (a.floors v inside) (m.floors v inside));
    arcs = λ j has. (let b = a.back j has in let P : Arc K → Type 0 = λ x. UpTo t (t.join (time x.from) x.duration) (time x.to) in subst P b.2 (m.arcs b.0 b.1));
  }

  pub reaches_there : (j v : ℕ) (x : K) → Reaches t N j v x → Reaches t M j v x
  reaches_there j v x r = record {
    first = r.first;
    walk = renamed t N.arcs M.arcs a.there r.first v r.walk r.chain;
    inside = omega (arith, r.inside, a.events);
    chain = renamed_chain t N.arcs M.arcs a.there r.first v r.walk r.chain;
    count = renamed_length t N.arcs M.arcs a.there r.first v r.walk r.chain ∙ r.count;
    value = r.value ∙ ap (λ y. along t N.arcs y r.walk) (a.floors r.first r.inside) ∙ sym (renamed_along t N.arcs M.arcs a.there (M.floor r.first) r.first v r.walk r.chain);
  }

module _ {K : Type 0} (t : Time K) (N M : Network K) (a : Alike N M) where
  pub no_table_there : NoTable t N → NoTable t M
  no_table_there none time s m = none time (table_there t M N (turned_round N M a) time s) (meets_there t M N (turned_round N M a) time m)

  pub walks_there : (m : ℕ) (time : ℕ → K) → LatestWalks t N m time → LatestWalks t M m time
  walks_there m time w = record {
    reached = λ v h. (let r = w.reached v (omega (arith, a.events)) in (r.0, r.1, reaches_there t N M a r.0 v (time v) r.2));
    latest = λ v j x few r. w.latest v j x few (reaches_there t M N (turned_round N M a) j v x r);
  }

  pub equation_there : (time : ℕ → K) (v : ℕ) → v < N.events → Equation t N time v → Equation t M time v
  equation_there time v inside e =
      let P : K → Type 0 = λ x. UpTo t x (time v) in
      let Q : Arc K → Type 0 = λ x. UpTo t (t.join (time x.from) x.duration) (time v) in
      let E : Type 0 = (time v ≡ M.floor v) ⊎ ((k : M.arcs.Name) × M.arcs.Has k × ((M.arcs.arc k).to ≡ v) × (time v ≡ t.join (time (M.arcs.arc k).from) (M.arcs.arc k).duration)) in
      let equal : E = elim e.equal [
        | inl s ↦ inl (s ∙ a.floors v inside)
        | inr s ↦ (let r = a.there s.0 s.1 in inr (r.0, r.1, ap (λ (x : Arc K). x.to) r.2 ∙ s.2, s.3 ∙ sym (ap (λ (x : Arc K). t.join (time x.from) x.duration) r.2)))
      ] in
      record {
        floor = subst P (a.floors v inside) e.floor;
        brings = λ j has ends_at. (let b = a.back j has in subst Q b.2 (e.brings b.0 b.1 (ap (λ (x : Arc K). x.to) b.2 ∙ ends_at)));
        equal = equal;
      }

  pub least_there : (time : ℕ → K) → Least t N time → Least t M time
  least_there time l =
      let P : ℕ → Type 0 = λ n. LatestWalks t M (n - 1) time in
      record {
        table = table_there t N M a time l.table;
        meets = meets_there t N M a time l.meets;
        least = λ other s m v h. l.least other (table_there t M N (turned_round N M a) other s) (meets_there t M N (turned_round N M a) other m) v (omega (arith, a.events));
        walks = subst P a.events (walks_there (N.events - 1) time l.walks);
        equations = λ v h. (let inside : v < N.events = omega (arith, a.events) in equation_there time v inside (l.equations v inside));
      }
