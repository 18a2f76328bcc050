-- What the network answers is what is told of the constraints in force.
use Rattle.std.proofs.Common.{◌≡◌, ℕ, ◌*◌, ◌<◌, ◌≤◌, List, [], ◌∷◌, ◌++◌, length, take, drop, Ok, Err, Result, sym, ap, ◌∙◌, subst, inl, inr, arith}
use Rattle.std.proofs.lemmas.List.{get_or-take, length-take-le}
use Rattle.kinds.specs.Time.{Time}
use Rattle.network.specs.declared.Arc.{Arc}
use Rattle.network.specs.declared.faults.NetworkFault.{NetworkFault}
use Rattle.network.specs.declared.faults.NetworkFault.TheVariants as fault
use Rattle.network.specs.Network.{HasRing, NoTable}
use Rattle.network.specs.Refusals.{Row, row, Passed, First, Answers}
use Rattle.network.specs.Faults.{network_number, network_place}
use Rattle.network.specs.Reckoning.{at, arc_at, placed, network_of, handed, first_rows, reckon_rows, RingExactly, TimesHold, RingHolds, Stray}
use Rattle.network.specs.Reckoning as reckoning
use Rattle.network.proofs.Strays.{some_none}
use Rattle.records.specs.Register.{Register}
use Rattle.records.specs.Stored.{Limits}
use Rattle.force.specs.Force.{InForce}
use Rattle.force.specs.Constraints.{arcs_in_force, in_force}
use Rattle.force.specs.Added.{Listed, Filled}
use Rattle.force.specs.Reckoned.{TimesAfter, RingOnly, RingAfter}
use Rattle.force.proofs.Alike.{Alike, ring_there, names_there, least_there, no_table_there}
use Rattle.force.proofs.Fronts.{least_same}
use Rattle.force.proofs.Sizes.{in_force_sound, in_force_fit, floor_small}
use Rattle.force.proofs.Networks.{filled_alike}

-- where the rows in front do not apply, the last one does
last_row : (xs : List Row) (y : Row) (n p : ℕ) → Passed xs → First (xs ++ y ∷ []) n p → y.when × (n ≡ y.number)
last_row [] y n p a (inl h) = (h.0, h.1)
last_row [] y n p a (inr h) = absurd h.1
last_row (x ∷ xs) y n p a (inl h) = absurd (a.0 h.0)
last_row (x ∷ xs) y n p a (inr h) = last_row xs y n p a.1 h.1

last_passed : (xs : List Row) (y : Row) → Passed (xs ++ y ∷ []) → y.when → ⊥
last_passed [] y a = a.0
last_passed (x ∷ xs) y a = last_passed xs y a.1

module _ {K : Type 0} (t : Time K) (R : Register K) (limits : Limits t R) (n m : ℕ) (floors : List K) (arcs : List (Arc K)) (events : n ≡ 2 * length R.runs) (few : m ≤ 9728) (floors_long : length floors ≡ 1024) (arcs_long : length arcs ≡ 9728) (filled : Filled t R floors) (listed : Listed t (InForce t R) arcs m) where
  -- the network that is handed
  abbrev network : reckoning.Listed K
  network = record { events = n; floors = floors; arc_count = m; arcs = arcs }

  kept_alike : Alike (network_of t (take n floors) (take m arcs)) (in_force t R)
  kept_alike =
      let P : ℕ → Type 0 = λ k. Alike (network_of t (take k floors) (take m arcs)) (in_force t R) in
      subst P (sym events) (filled_alike t R floors arcs m (omega (arith, limits.few_runs)) (omega arith) filled listed)

  rows_passed : (times ring tables marks : ℕ) → times ≡ 1024 → ring ≡ 1024 → tables ≡ 2048 → marks ≡ 1050624 → Passed (first_rows t (handed network times ring tables marks))
  rows_passed times ring tables marks a b c d =
      let few_runs = limits.few_runs in
      let blank : Arc K = record { from = 0; to = 0; duration = t.none } in
      let same : length (take m arcs) ≡ m = length-take-le m arcs (omega arith) in
      let long : length (take n floors) ≡ n = length-take-le n floors (omega arith) in
      let member : (k : ℕ) → k < length (take m arcs) → InForce t R (arc_at t (take m arcs) k) = λ k h. (let inside : k < m = omega arith in let P : Arc K → Type 0 = InForce t R in subst P (sym (get_or-take m arcs k _ inside)) (listed.each k inside)) in (
        (λ f. f floors_long),
        (
          (λ f. f arcs_long),
          (
            (λ f. f a),
            (
              (λ f. f b),
              (
                (λ f. f c),
                (
                  (λ f. f d),
                  (
                    some_none (Stray n) blank (take m arcs) (λ k h bad. let s = in_force_sound t R limits _ (member k h) in elim bad [ inl x ↦ omega (arith, x, s.starts) | inr x ↦ omega (arith, x, s.ends) ]),
                    (
                      some_none (λ x. 110000000 < t.size x) t.none (take n floors) (λ k h bad. let inside : k < n = omega arith in let e = ap t.size (get_or-take n floors k t.none inside ∙ filled.each k (omega arith)) in omega (arith, floor_small t R limits k (omega arith))),
                      (
                        some_none (λ x. 100000 < t.size x.duration) blank (take m arcs) (λ k h bad. omega (arith, (in_force_sound t R limits _ (member k h)).lasts.0)),
                        ((λ f. omega arith), ((λ f. omega arith), tt)),
                      ),
                    ),
                  ),
                ),
              ),
            ),
          ),
        ),
      )

  pub times_told : (was times : List K) (r : Result (Unit {0}) NetworkFault) → length times ≡ 1024 → TimesHold t network was times r → TimesAfter t R was times r
  times_told was times (Ok x) long h =
      let P : ℕ → Type 0 = λ k. drop k times ≡ drop k was in (
        least_same t (in_force t R) (in_force_fit t R limits) (at t (take n times)) (at t times) (λ v l. let inside : v < n = omega arith in get_or-take n times v t.none inside) (least_there t (network_of t (take n floors) (take m arcs)) (in_force t R) kept_alike (at t (take n times)) h.0),
        subst P events h.1,
      )
  times_told was times (Err f) long h = h

  found : (was ring : List ℕ) (f : NetworkFault) → network_number f ≡ 12 → NoTable t (in_force t R) → reckoning.RingAfter t network was ring f → RingOnly t R was ring f
  found was ring fault.Length e none h = omega arith
  found was ring (fault.Event place) e none h = omega arith
  found was ring fault.Floor e none h = omega arith
  found was ring fault.Duration e none h = omega arith
  found was ring fault.Count e none h = omega arith
  found was ring (fault.Ring count) e none h = record {
    names = names_there t (placed t (take m arcs)) (arcs_in_force t R) kept_alike.there kept_alike.back (take count ring) h.0;
    none = none;
    rest = h.1;
    few = omega (arith, h.2);
  }

  pub ring_told : (times ring_length tables marks : ℕ) → times ≡ 1024 → ring_length ≡ 1024 → tables ≡ 2048 → marks ≡ 1050624 → (was ring : List ℕ) (r : Result (Unit {0}) NetworkFault) → Answers network_number network_place (reckon_rows t (handed network times ring_length tables marks)) r → RingExactly t (handed network times ring_length tables marks) → RingHolds t network was ring r → RingAfter t R was ring r
  ring_told times ring_length tables marks a b c d was ring (Ok x) answer exactly h =
      let H = handed network times ring_length tables marks in
      let none = last_passed (first_rows t H) (row 12 0 (HasRing t (placed t (take m arcs)))) answer in
      ((λ some. none (ring_there t (arcs_in_force t R) (placed t (take m arcs)) kept_alike.back some)), h)
  ring_told times ring_length tables marks a b c d was ring (Err f) answer exactly h =
      let H = handed network times ring_length tables marks in
      let passed = rows_passed times ring_length tables marks a b c d in
      let last = last_row (first_rows t H) (row 12 0 (HasRing t (placed t (take m arcs)))) (network_number f) (network_place f) passed answer in
      found was ring f last.1 (no_table_there t (network_of t (take n floors) (take m arcs)) (in_force t R) kept_alike ((exactly passed).0 last.0)) h
