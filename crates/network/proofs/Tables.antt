-- Tables that meet a network: they are at or after every walk, they leave no ring, and what walks attain solves the equations.
use Rattle.std.proofs.Common.{◌≡◌, ℕ, ◌-◌, ◌<◌, ◌≤◌, ◌⊎◌, List, [], ◌∷◌, length, sym, refl, ap, ◌∙◌, inl, inr, arith}
use Rattle.std.proofs.lemmas.Bool.{both_ways}
use Rattle.kinds.specs.Time.{Time, Laws}
use Rattle.network.specs.Network.{UpTo, Network, Chain, along, ends, Ring, Reaches, Table, Meets, LatestWalks, Equation, Least}
use Rattle.network.proofs.Order.{upto_refl}
use Rattle.network.proofs.Chains.{Fit, grows, along_join, ends_inside, starts_inside, length_ends}
use Rattle.network.proofs.Pigeons.{pigeon}

module _ {K : Type 0} {t : Time K} (laws : Laws t) (N : Network K) (fit : Fit t N.events N.arcs) (few : N.events ≤ 1024) where
  -- along a chain a table that meets the network is not passed
  chain_met : (time : ℕ → K) → Table t N time → Meets t N time → (x : K) (u v : ℕ) (ks : List N.arcs.Name) → t.size x ≤ 250000000 → UpTo t x (time u) → u < N.events → length ks ≤ 1024 → Chain t N.arcs u ks v → UpTo t (along t N.arcs x ks) (time v)
  chain_met time small m x u v [] size_x up in_u h c = rw (sym c) up
  chain_met time small m x u v (k ∷ ks) size_x up in_u h c =
      let w = (N.arcs.arc k).from in
      let below = chain_met time small m x u w ks size_x up in_u (omega arith) c.2 in
      let size_y = grows laws N.events N.arcs fit x 250000000 u ks w c.2 size_x (omega arith) in
      let size_w = small w (fit.starts k c.0) in
      let size_d = fit.short k c.0 in
      rw (sym c.1) (laws.trans _ _ _ (laws.mono_left _ _ _ (omega arith) (omega arith) below) (m.arcs k c.0))

  pub no_ring : (time : ℕ → K) → Table t N time → Meets t N time → (ks : List N.arcs.Name) → Ring t N.arcs ks → ⊥
  no_ring time small m [] r = both_ways _ r.after (upto_refl laws t.none)
  no_ring time small m (k ∷ ks) r =
      let u = r.event in
      let in_u = starts_inside laws N.events N.arcs fit u u (k ∷ ks) r.closed (omega arith) in
      let el = length_ends t N.arcs (k ∷ ks) in
      let short : length (k ∷ ks) ≤ N.events = (let p = pigeon N.events (ends t N.arcs (k ∷ ks)) r.apart (ends_inside laws N.events N.arcs fit u u (k ∷ ks) r.closed) in omega arith) in
      let size_u : t.size (time u) ≤ 250000000 = small u in_u in
      let low = chain_met time small m (time u) u u (k ∷ ks) size_u (upto_refl laws _) in_u (omega arith) r.closed in
      let joined = along_join laws N.events N.arcs fit (time u) 250000000 u (k ∷ ks) u r.closed size_u (omega arith) in
      let size_t = grows laws N.events N.arcs fit t.none 100000 u (k ∷ ks) u r.closed laws.none_size (omega arith) in
      let up = laws.later (time u) (along t N.arcs t.none (k ∷ ks)) (omega arith) r.after in
      both_ways _ up (rw joined at low)

  module _ (sized : (v : ℕ) → v < N.events → t.size (N.floor v) ≤ 110000000) where
    pub met : (time : ℕ → K) → Table t N time → Meets t N time → (j v : ℕ) (x : K) → j ≤ 1024 → Reaches t N j v x → UpTo t x (time v)
    met time small m j v x h r =
        let e = r.count in
        let s = sized r.first r.inside in
        rw r.value (chain_met time small m (N.floor r.first) r.first v r.walk (omega arith) (m.floors r.first r.inside) r.inside (omega arith) r.chain)

    module _ (time : ℕ → K) (l : ℕ) (few_arcs : l ≤ 1024) (small : Table t N time) (m : Meets t N time) (w : LatestWalks t N l time) where
      -- the last arc of the walk that attains a time
      last_arc : (u v : ℕ) (ks : List N.arcs.Name) → u < N.events → length ks ≤ l → Chain t N.arcs u ks v → time v ≡ along t N.arcs (N.floor u) ks → (time v ≡ N.floor v) ⊎ ((k : N.arcs.Name) × N.arcs.Has k × ((N.arcs.arc k).to ≡ v) × (time v ≡ t.join (time (N.arcs.arc k).from) (N.arcs.arc k).duration))
      last_arc u v [] in_u h c e = inl (e ∙ ap N.floor c)
      last_arc u v (k ∷ ks) in_u h c e =
          let from = (N.arcs.arc k).from in
          let d = (N.arcs.arc k).duration in
          let y = along t N.arcs (N.floor u) ks in
          let up = w.latest from (length ks) y (omega arith) (record { first = u; walk = ks; inside = in_u; chain = c.2; count = refl; value = refl }) in
          let size_u = sized u in_u in
          let size_y = grows laws N.events N.arcs fit (N.floor u) 110000000 u ks from c.2 size_u (omega arith) in
          let size_f = small from (fit.starts k c.0) in
          let size_d = fit.short k c.0 in
          let more = laws.mono_left y (time from) d (omega arith) (omega arith) up in
          let down : UpTo t (t.join (time from) d) (time v) = rw (sym c.1) (m.arcs k c.0) in
          inr (k, c.0, c.1, laws.antisym _ _ (rw e more) down)

      pub solves : (v : ℕ) → v < N.events → Equation t N time v
      solves v h =
          let r = w.reached v h in
          let n = r.2.count in
          let j = r.1 in
          record {
            floor = m.floors v h;
            brings = λ k has e. rw (sym e) (m.arcs k has);
            equal = last_arc r.2.first v r.2.walk r.2.inside (omega arith) r.2.chain r.2.value;
          }

      pub least_is : l ≡ N.events - 1 → Least t N time
      least_is e = record {
        table = small;
        meets = m;
        least = λ other small_other met_other v h. (let r = w.reached v h in let j = r.1 in met other small_other met_other r.0 v (time v) (omega arith) r.2);
        walks = rw (sym e) w;
        equations = solves;
      }
