-- What is known of a network once no refusal applies.
use Rattle.std.proofs.Common.{◌≡◌, ℕ, ◌<◌, ◌≤◌, min, List, length, take, sym, refl, ap, ◌∙◌, inl, inr, arith}
use Rattle.std.proofs.lemmas.Bool.{cases_eq, cases_lt}
use Rattle.std.proofs.lemmas.List.{length-take-le, take_all}
use Rattle.kinds.specs.Time.{Time}
use Rattle.network.specs.declared.Arc.{Arc}
use Rattle.network.specs.declared.faults.NetworkFault.{NetworkFault}
use Rattle.network.specs.declared.faults.NetworkFault.TheVariants as fault
use Rattle.network.specs.Refusals.{Passed, First}
use Rattle.network.specs.Faults.{network_number, network_place}
use Rattle.network.specs.Reckoning.{arc_at, Lengths, length_rows, lengths_of, network_rows, Listed, Handed, kept_floors, first_rows, RingAfter, Stray}
use Rattle.network.specs.Rounds.{InLimits}
use Rattle.network.proofs.Strays.{some_at}
use Rattle.network.proofs.Refusals.{first_under}

stable : (a b : ℕ) → ((a ≡ b → ⊥) → ⊥) → a ≡ b
stable a b f = elim (cases_eq a b) [ inl e ↦ e | inr ne ↦ absurd (f ne) ]

not_over : (a b : ℕ) → (b < a → ⊥) → a ≤ b
not_over a b f = elim (cases_lt b a) [ inl l ↦ absurd (f l) | inr l ↦ l ]

pub record Lengthy (l : Lengths) : Type 0 where
  pub floors : l.floors ≡ 1024
  pub arcs : l.arcs ≡ 9728
  pub times : l.times ≡ 1024
  pub ring : l.ring ≡ 1024
  pub tables : l.tables ≡ 2048
  pub marks : l.marks ≡ 1050624

pub lengthy : (l : Lengths) → Passed (length_rows l) → Lengthy l
lengthy l p = record { floors = stable _ _ p.0; arcs = stable _ _ p.1.0; times = stable _ _ p.1.1.0; ring = stable _ _ p.1.1.1.0; tables = stable _ _ p.1.1.1.1.0; marks = stable _ _ p.1.1.1.1.1.0 }

module _ {K : Type 0} (t : Time K) where
  -- what the rows of the network leave
  pub in_limits : (n m : ℕ) (floors : List K) (arcs : List (Arc K)) → length floors ≡ min n 1024 → length arcs ≡ min m 9728 → Passed (network_rows t n m floors arcs) → InLimits t floors arcs
  in_limits n m floors arcs long long_arcs p =
      let few = not_over n 1024 p.1.1.1.0 in
      let few_arcs = not_over m 9728 p.1.1.1.1.0 in
      let d : Arc K = record { from = 0; to = 0; duration = t.none } in
      record {
        few = omega arith;
        sound = record {
          few = omega arith;
          starts = λ k i. elim (cases_lt (arc_at t arcs k).from n) [ inl l ↦ omega arith | inr l ↦ absurd (p.0 (some_at (Stray n) d arcs k i (inl l))) ];
          ends = λ k i. elim (cases_lt (arc_at t arcs k).to n) [ inl l ↦ omega arith | inr l ↦ absurd (p.0 (some_at (Stray n) d arcs k i (inr l))) ];
          short = λ k i. not_over _ _ (λ l. p.1.1.0 (some_at (λ a. 100000 < t.size a.duration) d arcs k i l));
        };
        sized = λ v i. not_over _ _ (λ l. p.1.0 (some_at (λ x. 110000000 < t.size x) t.none floors v i l));
      }

  pub record Checked (h : Handed K) : Type 0 where
    pub lengths : Lengthy (lengths_of h)
    pub events : length (kept_floors h.network) ≡ h.network.events
    pub few : h.network.events ≤ 1024
    pub few_arcs : h.network.arc_count ≤ 9728

  pub checked : (h : Handed K) → Passed (first_rows t h) → Checked h
  checked h p =
      let long = lengthy (lengths_of h) (p.0, (p.1.0, (p.1.1.0, (p.1.1.1.0, (p.1.1.1.1.0, (p.1.1.1.1.1.0, tt)))))) in
      let few = not_over h.network.events 1024 p.1.1.1.1.1.1.1.1.1.0 in
      let few_arcs = not_over h.network.arc_count 9728 p.1.1.1.1.1.1.1.1.1.1.0 in
      record { lengths = long; few = few; few_arcs = few_arcs; events = length-take-le h.network.events h.network.floors (omega arith) }

  -- no fault before the reckoning is a ring
  pub not_ring : (h : Handed K) (l : Listed K) (ring : List ℕ) (f : NetworkFault) → First (first_rows t h) (network_number f) (network_place f) → RingAfter t l ring ring f
  not_ring h l ring fault.Length r = refl
  not_ring h l ring (fault.Event place) r = refl
  not_ring h l ring fault.Floor r = refl
  not_ring h l ring fault.Duration r = refl
  not_ring h l ring fault.Count r = refl
  not_ring h l ring (fault.Ring count) r = absurd (first_under 12 (first_rows t h) 0 (omega arith, (omega arith, (omega arith, (omega arith, (omega arith, (omega arith, (omega arith, (omega arith, (omega arith, (omega arith, (omega arith, tt))))))))))) r)

-- as many as there are
pub take_min : {X : Type 0} (k n : ℕ) (xs : List X) → length xs ≡ n → take (min k n) xs ≡ take k xs
take_min k n xs e =
    elim (cases_lt k n) [
      | inl l ↦ (let q : min k n ≡ k = omega arith in ap (λ i. take i xs) q)
      | inr l ↦ (let q : min k n ≡ n = omega arith in ap (λ i. take i xs) q ∙ take_all n xs (omega arith) ∙ sym (take_all k xs (omega arith)))
    ]
