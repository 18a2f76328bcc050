-- Each kind of constraint, from the arcs that are added for it.
use Rattle.std.proofs.Common.{◌≡◌, ℕ, ◌+◌, ◌<◌, length, set, None, Option, sym, subst}
use Rattle.kinds.specs.Time.{Time}
use Rattle.network.specs.declared.Arc.{Arc}
use Rattle.records.specs.declared.Run.{Run}
use Rattle.records.specs.declared.Track.{Track}
use Rattle.force.specs.declared.arcs.ArcList.{ArcList}
use Rattle.force.specs.Added.{Added, OfRun, Turns, OrderOf, Keeps, ConnectionOf}
use Rattle.force.specs.Force.{Joins, run_in, track_in}
use Rattle.records.specs.Records.{track_at, connection_at}
use Rattle.records.specs.declared.Connection.{Connection}
use Rattle.records.specs.Register.{Register}
use Rattle.force.proofs.Adds.{added_one, added_as}

module _ {K : Type 0} (t : Time K) where
  pub unless_none : (o : Option K) (b : Arc K) (l : ArcList K) → o ≡ None → l.count < length l.arcs.now → Added t (Joins o b.from b.to b.duration) l (record { arcs = record (l.arcs) { now = set l.arcs.now l.count b }; count = l.count + 1 })
  unless_none o b l e inside =
      let P : Option K → Type 0 = λ o. Added t (Joins o b.from b.to b.duration) l (record { arcs = record (l.arcs) { now = set l.arcs.now l.count b }; count = l.count + 1 }) in
      subst P (sym e) (added_one t l b inside)

  pub run_is : (r : ℕ) (x y : Run K) (l m : ArcList K) → x ≡ y → Added t (OfRun r x) l m → Added t (OfRun r y) l m
  run_is r x y l m e h = let P : Run K → Type 0 = λ z. Added t (OfRun r z) l m in subst P e h

  pub order_is : (R : Register K) (w : Track K) (b i j : ℕ) (x y : Run K) (l m : ArcList K) → w ≡ track_at t R.tracks y.track → b ≡ R.order i j → x ≡ run_in t R i → y ≡ run_in t R j → track_in t R i ≡ track_in t R j → Added t (Turns w b i x j y) l m → Added t (OrderOf t R j i) l m
  order_is R w b i j x y l m is_w is_b is_x is_y shared h =
      let W : Track K → Type 0 = λ z. Added t (Turns z b i x j y) l m in
      let B : ℕ → Type 0 = λ z. Added t (Turns (track_at t R.tracks y.track) z i x j y) l m in
      let X : Run K → Type 0 = λ z. Added t (Turns (track_at t R.tracks y.track) (R.order i j) i z j y) l m in
      let Y : Run K → Type 0 = λ z. Added t (Turns (track_at t R.tracks z.track) (R.order i j) i (run_in t R i) j z) l m in
      let T : Arc K → Type 0 = Turns (track_at t R.tracks (track_in t R j)) (R.order i j) i (run_in t R i) j (run_in t R j) in
      added_as t T (OrderOf t R j i) l m (λ a f. (shared, f)) (λ a f. f.1)
      (subst Y is_y (subst X is_x (subst B is_b (subst W is_w h))))

  pub connection_is : (R : Register K) (i : ℕ) (c : Connection K) (o : Run K) (l m : ArcList K) → c ≡ connection_at t R.connections i → o ≡ run_in t R c.onward → Added t (Keeps (R.link i) c o) l m → Added t (ConnectionOf t R i) l m
  connection_is R i c o l m is_c is_o h =
      let b = R.link i in
      let O : Run K → Type 0 = λ z. Added t (Keeps b c z) l m in
      let C : Connection K → Type 0 = λ z. Added t (Keeps b z (run_in t R z.onward)) l m in
      subst C is_c (subst O is_o h)
