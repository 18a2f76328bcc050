-- Least times by computation: a table that passes the test of every floor and arc, and of which a walk attains each time, is the least.
use Rattle.std.proofs.Common.{◌≡◌, ℕ, zero, suc, ◌+◌, ◌-◌, ◌*◌, ◌<◌, ◌≤◌, Bool, true, ◌&&◌, ltb, leb, List, [], ◌∷◌, length, sym, refl, ap, ◌∙◌, subst, inl, inr, arith}
use Rattle.std.proofs.lemmas.Bool.{and_parts, ltb-true, leb-true, cases_eq}
use Rattle.kinds.specs.Time.{Time, Laws}
use Rattle.network.specs.declared.Arc.{Arc}
use Rattle.network.specs.Network.{Reaches, Table, Meets, Least}
use Rattle.network.specs.Reckoning.{at}
use Rattle.network.proofs.Chains.{Fit}
use Rattle.network.proofs.Tables.{met, least_is}
use Rattle.records.specs.Register.{Register}
use Rattle.force.specs.Force.{InForce}
use Rattle.force.specs.Floors.{floor_of}
use Rattle.force.specs.Constraints.{arcs_in_force, in_force}
use Rattle.cost.specs.Cost.{delay_cost_lem}
use Rattle.worked.specs.Words.{Shows}
use Rattle.worked.proofs.Every.{below, below_at, every_arc, passes}

-- P of n numbers from k on
abbrev pub From : ℕ → ℕ → (ℕ → Type 0) → Type 0
From k zero P = Unit {0}
From k (suc n) P = P k × From (suc k) n P

pub from_at : (k n : ℕ) (P : ℕ → Type 0) → From k n P → (v : ℕ) → k ≤ v → v < k + n → P v
from_at k zero P h v low high = absurd (omega arith)
from_at k (suc n) P h v low high = elim (cases_eq v k) [
  | inl e ↦ subst P (sym e) h.0
  | inr ne ↦ from_at (suc k) n P h.1 v (omega arith) (omega arith)
]

module _ {K : Type 0} (t : Time K) (R : Register K) where
  -- an arc joins events of the register by a duration within its size
  abbrev pub starts_in : Arc K → Bool
  starts_in a = ltb a.from (2 * length R.runs)

  abbrev pub ends_in : Arc K → Bool
  ends_in a = ltb a.to (2 * length R.runs)

  abbrev pub is_short : Arc K → Bool
  is_short a = leb (t.size a.duration) 100000

  abbrev pub arc_fits : Arc K → Bool
  arc_fits a = starts_in a && (ends_in a && is_short a)

  abbrev pub arc_met : (ℕ → K) → Arc K → Bool
  arc_met time a = arc_fits a && t.before (t.join (time a.from) a.duration) (time a.to)

  abbrev pub floor_met : (ℕ → K) → ℕ → Bool
  floor_met time v = t.before (floor_of t R v) (time v) && (leb (t.size (floor_of t R v)) 110000000 && leb (t.size (time v)) 250000000)

  -- every floor and every arc in force is met, and nothing passes its size
  abbrev pub all_met : (ℕ → K) → Bool
  all_met time = leb (2 * length R.runs) 1024 && (below (2 * length R.runs) (floor_met time) && every_arc (arc_met time) t R)

  -- arcs that pass a test which asks that they fit
  pub fit_by : (p : Arc K → Bool) → ((a : Arc K) → p a ≡ true → arc_fits a ≡ true) → every_arc p t R ≡ true → Fit t (2 * length R.runs) (arcs_in_force t R)
  fit_by p fits h =
      let fit : (a : Arc K) → InForce t R a → arc_fits a ≡ true = λ a has. fits a (passes p t R h a has) in
      record {
        starts = λ a has. ltb-true _ _ (and_parts (starts_in a) _ (fit a has)).0;
        ends = λ a has. ltb-true _ _ (and_parts (ends_in a) (is_short a) (and_parts (starts_in a) _ (fit a has)).1).0;
        short = λ a has. leb-true _ _ (and_parts (ends_in a) (is_short a) (and_parts (starts_in a) _ (fit a has)).1).1;
      }

  module _ (time : ℕ → K) where
    -- a walk of j arcs attains the time of event v
    abbrev pub Walk : ℕ → ℕ → Type 0
    Walk j v = Reaches t (in_force t R) j v (time v)

    abbrev pub Attained : ℕ → Type 0
    Attained v = (j : ℕ) × (j ≤ 2 * length R.runs - 1) × Walk j v

    -- the time is the floor
    pub start : (v : ℕ) → v < 2 * length R.runs → time v ≡ floor_of t R v → Walk 0 v
    start v h e = record { first = v; walk = []; inside = h; chain = refl; count = refl; value = e }

    -- an arc brings it from an event whose time is attained
    pub on : {j u : ℕ} (v : ℕ) (d : K) → Walk j u → InForce t R (record { from = u; to = v; duration = d }) → time v ≡ t.join (time u) d → Walk (suc j) v
    on {j} {u} v d r has e =
        let a : Arc K = record { from = u; to = v; duration = d } in
        record {
          first = r.first;
          walk = a ∷ r.walk;
          inside = r.inside;
          chain = (has, refl, r.chain);
          count = ap suc r.count;
          value = e ∙ ap (λ z. t.join z d) r.value;
        }

  module _ (laws : Laws t) (time : ℕ → K) (h : all_met time ≡ true) where
    few : 2 * length R.runs ≤ 1024
    few = leb-true _ _ (and_parts (leb (2 * length R.runs) 1024) _ h).0

    parts : (below (2 * length R.runs) (floor_met time) ≡ true) × (every_arc (arc_met time) t R ≡ true)
    parts = and_parts _ _ (and_parts (leb (2 * length R.runs) 1024) _ h).1

    fit : Fit t (2 * length R.runs) (arcs_in_force t R)
    fit = fit_by (arc_met time) (λ a m. (and_parts (arc_fits a) _ m).0) parts.1

    floor_at : (v : ℕ) → v < 2 * length R.runs → floor_met time v ≡ true
    floor_at = below_at _ (floor_met time) parts.0

    sized : (v : ℕ) → v < 2 * length R.runs → t.size (floor_of t R v) ≤ 110000000
    sized v l = leb-true _ _ (and_parts _ _ (and_parts (t.before (floor_of t R v) (time v)) _ (floor_at v l)).1).0

    pub table_by : Table t (in_force t R) time
    table_by v l = leb-true _ _ (and_parts _ _ (and_parts (t.before (floor_of t R v) (time v)) _ (floor_at v l)).1).1

    pub meets_by : Meets t (in_force t R) time
    meets_by = record {
      floors = λ v l. (and_parts (t.before (floor_of t R v) (time v)) _ (floor_at v l)).0;
      arcs = λ a has. (and_parts (arc_fits a) _ (passes (arc_met time) t R parts.1 a has)).1;
    }

    least_by : From 0 (2 * length R.runs) (Attained time) → Least t (in_force t R) time
    least_by walks =
        least_is laws (in_force t R) fit few sized time (2 * length R.runs - 1) (omega (arith, few)) table_by meets_by
        (record {
          reached = λ v l. from_at 0 _ (Attained time) walks v (omega arith) (omega arith);
          latest = λ v j x l r. met laws (in_force t R) fit few sized time table_by meets_by j v x (omega (arith, few)) r;
        })
        refl

  -- so a register shows such times at what they cost
  pub shows_by : Laws t → (times : List K) → all_met (at t times) ≡ true → From 0 (2 * length R.runs) (Attained (at t times)) → Shows t R times (delay_cost_lem t R (at t times))
  shows_by laws times h walks = record { least = least_by laws (at t times) h walks; costs = refl }
