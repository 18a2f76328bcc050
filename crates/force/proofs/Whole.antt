-- All arcs that are added are all that are in force.
use Rattle.std.proofs.Common.{◌≡◌, ℕ, ◌⊎◌, length, sym, subst, inl, inr, arith}
use Rattle.kinds.specs.Time.{Time}
use Rattle.network.specs.declared.Arc.{Arc}
use Rattle.records.specs.Records.{track_at}
use Rattle.records.specs.Register.{Register}
use Rattle.force.specs.declared.arcs.ArcList.{ArcList}
use Rattle.force.specs.Added.{Added, Listed, RunArcs, OrderArcs, ConnectionArcs, Follows}
use Rattle.force.specs.Force.{InForce, running, dwell, connection, departures, arrivals, meeting, Ahead, run_in, track_in}
use Rattle.force.proofs.Adds.{added_as, added_then, listed}

module _ {K : Type 0} (t : Time K) (R : Register K) where
  abbrev From : Arc K → Type 0
  From a = (RunArcs t R (length R.runs) a ⊎ ConnectionArcs t R (length R.connections) a) ⊎ OrderArcs t R (length R.runs) a

  follows_in_force : (u v : ℕ) (a : Arc K) → Ahead t R u v → Follows (track_at t R.tracks (track_in t R v)) u (run_in t R u) v (run_in t R v) a → InForce t R a
  follows_in_force u v a h (inl d) = departures u v h d
  follows_in_force u v a h (inr (inl d)) = arrivals u v h d
  follows_in_force u v a h (inr (inr d)) = meeting u v h d

  moved : (u v w x : ℕ) (a : Arc K) → w ≡ x → Follows (track_at t R.tracks w) u (run_in t R u) v (run_in t R v) a → Follows (track_at t R.tracks x) u (run_in t R u) v (run_in t R v) a
  moved u v w x a e f = let P : ℕ → Type 0 = λ z. Follows (track_at t R.tracks z) u (run_in t R u) v (run_in t R v) a in subst P e f

  ahead_order : (u v : ℕ) (a : Arc K) → Ahead t R u v → Follows (track_at t R.tracks (track_in t R v)) u (run_in t R u) v (run_in t R v) a → OrderArcs t R (length R.runs) a
  ahead_order u v a (inl h) f = (v, (omega arith, h.0.inside, (u, (omega arith, h.0.below, (h.0.shared, inl (h.1, f))))))
  ahead_order u v a (inr h) f = (u, (omega arith, h.0.inside, (v, (omega arith, h.0.below, (h.0.shared, inr (h.1, moved u v _ _ a h.0.shared f))))))

  there : (a : Arc K) → From a → InForce t R a
  there a (inl (inl (r, (low, high, inl h)))) = running r high h
  there a (inl (inl (r, (low, high, inr h)))) = dwell r high h
  there a (inl (inr (c, (low, high, h)))) = connection c high h.0 h.1
  there a (inr (j, (low, high, (i, (low', below, (shared, inl h)))))) = follows_in_force i j a (inl (record { below = below; inside = high; shared = shared }, h.0)) h.1
  there a (inr (j, (low, high, (i, (low', below, (shared, inr h)))))) = follows_in_force j i a (inr (record { below = below; inside = high; shared = shared }, h.0)) (moved j i _ _ a (sym shared) h.1)

  back : (a : Arc K) → InForce t R a → From a
  back a (running r inside h) = inl (inl (r, (omega arith, inside, inl h)))
  back a (dwell r inside h) = inl (inl (r, (omega arith, inside, inr h)))
  back a (connection c inside kept h) = inl (inr (c, (omega arith, inside, (kept, h))))
  back a (departures u v h d) = inr (ahead_order u v a h (inl d))
  back a (arrivals u v h d) = inr (ahead_order u v a h (inr (inl d)))
  back a (meeting u v h d) = inr (ahead_order u v a h (inr (inr d)))

  pub whole : (k l m n : ArcList K) → k.count ≡ 0 → Added t (RunArcs t R (length R.runs)) k l → Added t (ConnectionArcs t R (length R.connections)) l m → Added t (OrderArcs t R (length R.runs)) m n → Listed t (InForce t R) n.arcs.now n.count
  whole k l m n e a b c =
      let A : Arc K → Type 0 = RunArcs t R (length R.runs) in
      let C : Arc K → Type 0 = ConnectionArcs t R (length R.connections) in
      let O : Arc K → Type 0 = OrderArcs t R (length R.runs) in
      let RC : Arc K → Type 0 = λ a. A a ⊎ C a in
      listed t (InForce t R) k n e (added_as t From (InForce t R) k n there back (added_then t RC O k m n (added_then t A C k l m a b) c))
