-- The network that is handed on is the network of the constraints in force.
use Rattle.std.proofs.Common.{◌≡◌, ℕ, ◌*◌, ◌<◌, ◌≤◌, List, length, take, refl, ◌∙◌, arith}
use Rattle.std.proofs.lemmas.List.{get_or-take, length-take-le}
use Rattle.kinds.specs.Time.{Time}
use Rattle.network.specs.declared.Arc.{Arc}
use Rattle.network.specs.Reckoning.{at, network_of}
use Rattle.records.specs.Register.{Register}
use Rattle.force.specs.Force.{InForce}
use Rattle.force.specs.Floors.{floor_of}
use Rattle.force.specs.Constraints.{in_force}
use Rattle.force.specs.Added.{Listed, Filled}
use Rattle.force.proofs.Alike.{Alike}

module _ {K : Type 0} (t : Time K) where
  -- the front of a list that lists what is in force
  pub listed_take : (P : Arc K → Type 0) (ys : List (Arc K)) (n : ℕ) → n ≤ length ys → Listed t P ys n → Listed t P (take n ys) (length (take n ys))
  listed_take P ys n room h =
      let e : length (take n ys) ≡ n = length-take-le n ys room in
      record {
        each = λ k l. (let k_n : k < n = omega arith in rw (get_or-take n ys k _ k_n) (h.each k k_n));
        all = λ a p. (let r = h.all a p in (r.0, (omega (arith, r.1.0), get_or-take n ys r.0 _ r.1.0 ∙ r.1.1)));
      }

  module _ (R : Register K) where
    pub alike : (floors : List K) (arcs : List (Arc K)) → length floors ≡ 2 * length R.runs → ((v : ℕ) → v < length floors → at t floors v ≡ floor_of t R v) → Listed t (InForce t R) arcs (length arcs) → Alike (network_of t floors arcs) (in_force t R)
    alike floors arcs events same listed = record {
      events = events;
      floors = same;
      there = λ k h. (_, listed.each k h, refl);
      back = λ a h. (let r = listed.all a h in (r.0, r.1.0, r.1.1));
    }

    -- the fronts of the memories that are filled
    pub filled_alike : (floors : List K) (arcs : List (Arc K)) (m : ℕ) → 2 * length R.runs ≤ length floors → m ≤ length arcs → Filled t R floors → Listed t (InForce t R) arcs m → Alike (network_of t (take (2 * length R.runs) floors) (take m arcs)) (in_force t R)
    filled_alike floors arcs m room few h listed =
        let n = 2 * length R.runs in
        let e : length (take n floors) ≡ n = length-take-le n floors room in
        alike (take n floors) (take m arcs) e (λ v l. let inside : v < n = omega arith in get_or-take n floors v t.none inside ∙ h.each v inside) (listed_take (InForce t R) arcs m few listed)
