-- The cost of turned orders, from one run of a track back to the run before it.
use Rattle.std.proofs.Common.{◌≡◌, ℕ, ◌<◌, ◌≤◌, ◌≢◌, cond, eqb, length, refl, ◌∙◌}
use Rattle.std.proofs.lemmas.Bool.{eq-eqb, ne_eqb}
use Rattle.kinds.specs.Time.{Time}
use Rattle.records.specs.declared.Run.{Run}
use Rattle.records.specs.declared.Track.{Track}
use Rattle.records.specs.Records.{track_at}
use Rattle.records.specs.Register.{Register}
use Rattle.records.specs.Stored.{Limits}
use Rattle.records.proofs.Walks.{past, Reached}
use Rattle.force.specs.Force.{run_in, track_in}
use Rattle.cost.specs.Cost.{sum_below, turn_cost}
use Rattle.cost.proofs.Sums.{sum_still}

module _ {K : Type 0} (t : Time K) (R : Register K) (j : ℕ) where
  -- a run on another track costs nothing
  pub turn_none : (i : ℕ) → track_in t R i ≢ track_in t R j → turn_cost t R j i ≡ 0
  turn_none i off = let e = ne_eqb (track_in t R i) (track_in t R j) off in rw e refl

  -- what lies between the runs of the walk costs nothing
  pub turned_reached : (i : ℕ) (o : _) → Reached (track_in t R) j i o → sum_below i (turn_cost t R j) ≡ sum_below (past o) (turn_cost t R j)
  turned_reached i o h = sum_still (turn_cost t R j) (past o) i h.low (λ k a b. turn_none k (h.none k a b))

  -- b is the setting of the order of two runs that share a track; x is run j, and k is its track
  pub turn_is : (i b n : ℕ) (x : Run K) (k : Track K) → track_in t R i ≡ track_in t R j → b ≡ R.order i j → x ≡ run_in t R j → k ≡ track_at t R.tracks x.track → n ≡ cond (eqb b 1) k.penalty 0 → n ≡ turn_cost t R j i
  turn_is i b n x k on is_b is_x is_k e = let same = eq-eqb (track_in t R i) (track_in t R j) on in e ∙ rw (same, is_b, is_k, is_x) refl

  pub penalty_small : Limits t R → j < length R.runs → (x : Run K) (k : Track K) → x ≡ run_in t R j → k ≡ track_at t R.tracks x.track → k.penalty ≤ 1000000
  penalty_small limits inside x k is_x is_k = rw (is_k, is_x) (limits.tracks.each (track_in t R j) (limits.runs.each j inside).0.1.0).1.1
