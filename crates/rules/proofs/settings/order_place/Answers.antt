use Rattle.std.proofs.Common.{◌≡◌, ℕ, ◌+◌, ◌<◌, ◌≤◌, List, length, take, ap, ◌∙◌, arith}
use Rattle.std.proofs.lemmas.List.{length-take-le, get_or-take}
use Rattle.kinds.specs.Time.{Time}
use Rattle.records.specs.declared.Run.{Run}
use Rattle.records.specs.Records.{track_of}
use Rattle.records.specs.Places.{count, total, place}
use Rattle.records.proofs.Counts.{count_kept, total_kept, place_below}
use Rattle.rules.proofs.settings.order_place.Given.{Over}
use Rattle.rules.proofs.settings.order_place.Goals as goal

module _ {K : Type 0} (t : Time K) (runs : List (Run K)) (n : ℕ) (inside : n ≤ length runs) where
  abbrev f : ℕ → ℕ
  f = track_of t runs

  abbrev front : ℕ → ℕ
  front = track_of t (take n runs)

  -- the first n runs are on the tracks that they are on among all
  same : (k : ℕ) → k < n → front k ≡ f k
  same k h = ap (λ r. r.track) (get_or-take n runs k _ h)

  total_front : total front (length (take n runs)) ≡ total f n
  total_front = ap (total front) (length-take-le n runs inside) ∙ total_kept front f n same

  count_front : (x : ℕ) → count front x (length (take n runs)) ≡ count f x n
  count_front x = ap (count front x) (length-take-le n runs inside) ∙ count_kept front f x n same

-- the two parts of the place
parts : (g : Over) (c : goal.After-count_on g) → c.count_orders.result + c.count_on.result ≡ place (track_of g.K.Kind.time c.args.e.now.runs.now) c.args.i c.args.j
parts g c =
    let t = g.K.Kind.time in
    let runs = c.args.e.now.runs.now in
    let a = total_front t runs c.args.j (omega (arith, c.requires.inside)) in
    let b = count_front t runs c.args.i (omega (arith, c.requires.below, c.requires.inside)) c.run.result.track in
    let on : c.run.result.track ≡ track_of t runs c.args.i = ap (λ r. r.track) c.run.ensures in
    let e = ap (λ (x : ℕ). count (track_of t runs) x c.args.i) on in
    omega (arith, c.count_orders.ensures, c.count_on.ensures)

pub overflow_add-result : goal.overflow_add-result
overflow_add-result g c =
    let h = parts g c in
    let low = place_below _ _ _ _ c.requires in omega (arith, c.args.e.now.limits.limits.few_orders)

pub returns : goal.returns
returns g c = parts g c
