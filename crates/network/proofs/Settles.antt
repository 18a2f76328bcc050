-- A round that raises nothing: the table is the least that meets the network.
use Rattle.std.proofs.Common.{◌≡◌, ℕ, zero, suc, ◌+◌, ◌-◌, ◌<◌, ◌≤◌, List, length, get_or, sym, refl, inl, inr, arith}
use Rattle.kinds.specs.Time.{Time, Laws}
use Rattle.network.specs.declared.Arc.{Arc}
use Rattle.network.specs.Reckoning.{at, arc_at}
use Rattle.network.specs.Rounds.{Round, Source, InLimits, Latest, Settled}
use Rattle.network.proofs.Order.{upto_refl}
use Rattle.network.proofs.Walks.{latest_more}

module _ {K : Type 0} {t : Time K} (laws : Laws t) (floors : List K) (arcs : List (Arc K)) (limits : InLimits t floors arcs) where
  module _ (k : ℕ) (old new : List K) (row : List ℕ) (in_k : k < length floors) (l : Latest t floors arcs k old) (r : Round t arcs (length arcs) old new row) (quiet : (v : ℕ) → v < length floors → get_or row v 0 ≡ 65535) where
    still_by : (v : ℕ) (x : K) (f : ℕ) → f ≡ 65535 → Source t arcs (length arcs) old v x f → x ≡ at t old v
    still_by v x f e (inl p) = p.1
    still_by v x f e (inr p) = let q = limits.sound.few in absurd (omega (arith, p.0))

    still : (v : ℕ) → v < length floors → at t new v ≡ at t old v
    still v h = let e = l.same in still_by v _ _ (quiet v h) (r.source v (omega arith))

    again : Round t arcs (length arcs) old old row
    again = record {
      keeps = λ v h. upto_refl laws _;
      meets = λ f h. rw (sym (still (arc_at t arcs f).to (limits.sound.ends f h))) (r.meets f h);
      source = λ v h. let e = l.same in inl (quiet v (omega arith), refl);
    }

    further : (i : ℕ) → k + i ≤ 1024 → Latest t floors arcs (k + i) old
    further zero h = let e : k + 0 ≡ k = omega arith in rw e l
    further (suc i) h =
        let e : k + suc i ≡ k + i + 1 = omega arith in
        rw e (latest_more laws floors arcs limits (k + i) old old row (omega arith) (further i (omega arith)) again l.same)

    pub settles : Settled t floors arcs old
    settles =
        let i = length floors - 1 - k in
        let e : k + i ≡ length floors - 1 = omega arith in
        let last : Latest t floors arcs (length floors - 1) old = rw e at (further i (omega arith)) in
        record { latest = last; met = again.meets }
