-- What is told of a network that was solved.
use Rattle.std.proofs.Common.{◌≡◌, ℕ, List, ◌++◌, length, take, drop, Ok, Err, Result, sym, refl, ap, ◌∙◌, subst, inl, arith}
use Rattle.std.proofs.Math.Seq.{take-append_seam}
use Rattle.std.proofs.lemmas.Slice.{drop-append-drop}
use Rattle.std.proofs.lemmas.List.{length-take-le, take-append-drop}
use Rattle.kinds.specs.Time.{Time}
use Rattle.network.specs.declared.Arc.{Arc}
use Rattle.network.specs.declared.faults.NetworkFault.{NetworkFault}
use Rattle.network.specs.Network.{Least, HasRing}
use Rattle.network.specs.Refusals.{Passed, First, Answers}
use Rattle.network.specs.Faults.{network_number, network_place}
use Rattle.network.specs.Reckoning.{at, placed, Handed, kept_floors, kept_arcs, network_kept, first_rows, ring_rows, reckon_rows, RingExactly, TimesHold, RingAfter, RingHolds}
use Rattle.network.specs.Rounds.{Solved}
use Rattle.network.proofs.Refusals.{passed_more, first_more}
use Rattle.network.proofs.Checks.{checked}

module _ {K : Type 0} (t : Time K) (h : Handed K) (passed : Passed (first_rows t h)) where
  pub record Told (times_was times_now : List K) (ring_was ring_now : List ℕ) (r : Result (Unit {0}) NetworkFault) : Type 0 where
    pub answer : Answers network_number network_place (reckon_rows t h) r
    pub times : TimesHold t h.network times_was times_now r
    pub ring : RingHolds t h.network ring_was ring_now r
    pub exactly : RingExactly t h

  told_kept : (was times : List K) (ring_was ring : List ℕ) (r : Result (Unit {0}) NetworkFault) → length was ≡ h.times → length times ≡ h.network.events → Solved t (kept_floors h.network) (kept_arcs h.network) (take h.network.events was) times ring_was ring r → Told was (times ++ drop h.network.events was) ring_was ring r
  told_kept was times ring_was ring (Ok x) all long s =
      let P : ℕ → Type 0 = λ e. Least t (network_kept t h.network) (at t (take e (times ++ drop h.network.events was))) in
      record {
        answer = passed_more (first_rows t h) (ring_rows t (kept_arcs h.network)) passed (s.1, tt);
        times = (subst P long (rw (take-append_seam times (drop h.network.events was)) s.0), drop-append-drop h.network.events was times h.network.events (omega arith) long);
        ring = s.2;
        exactly = λ _. ((λ some. absurd (s.1 some)), (λ none. absurd (none (at t times) s.0.table s.0.meets)));
      }
  told_kept was times ring_was ring (Err f) all long s =
      let k = checked t h passed in
      let P : NetworkFault → Type 0 = λ e. First (reckon_rows t h) (network_number e) (network_place e) in
      let R : NetworkFault → Type 0 = RingAfter t h.network ring_was ring in
      let few = s.0.few in
      let long_kept = k.events in
      let some : HasRing t (placed t (kept_arcs h.network)) = (s.0.names.circuit, s.0.names.ring) in
      record {
        answer = subst P (sym s.0.is) (first_more (first_rows t h) (ring_rows t (kept_arcs h.network)) 12 0 passed (inl (some, refl, refl)));
        times = ap (λ front. front ++ drop h.network.events was) s.1 ∙ take-append-drop h.network.events was;
        ring = subst R (sym s.0.is) (s.0.names, s.0.rest, omega arith);
        exactly = λ _. ((λ _. s.0.none), (λ _. some));
      }

  pub told : (floors : List K) (arcs : List (Arc K)) (was times : List K) (ring_was ring : List ℕ) (r : Result (Unit {0}) NetworkFault) → (floors ≡ kept_floors h.network) × (arcs ≡ kept_arcs h.network) → length was ≡ h.times → length times ≡ length (take (length floors) was) → Solved t floors arcs (take (length floors) was) times ring_was ring r → Told was (times ++ drop (length floors) was) ring_was ring r
  told floors arcs was times ring_was ring r kept all long s =
      let k = checked t h passed in
      let room = k.lengths.times in
      let few = k.few in
      let same : length floors ≡ h.network.events = ap length kept.0 ∙ k.events in
      let whole : length (take (length floors) was) ≡ length floors = length-take-le (length floors) was (omega arith) in
      let P : ℕ → Type 0 = λ e. Told was (times ++ drop e was) ring_was ring r in
      subst P (sym same) (told_kept was times ring_was ring r all (long ∙ whole ∙ same) (rw (same, kept.0, kept.1) at s))
