-- What follows for every plan that stands for books.
use Rattle.std.proofs.Common.{◌≡◌, ℕ, Bool, true, false, List, ◌∷◌, ◌++◌, get_or, take, Some, None, refl, inl, inr, arith}
use Rattle.kinds.specs.Time.{Time, Laws}
use Rattle.network.specs.Reckoning.{at}
use Rattle.network.specs.Refusals.{Row, row, First}
use Rattle.records.specs.Register.{register_of}
use Rattle.records.specs.Stored.{Limits}
use Rattle.cost.proofs.Costs.{cheapest}
use Rattle.rules.specs.Rows.{report_rows, hold_rows}
use Rattle.plan.specs.Calls.{ring_rows}
use Rattle.registers.specs.Steps.{report, hold}
use Rattle.registers.specs.Rings.{RingFree}
use Rattle.registers.proofs.Forces.{same_limits}
use Rattle.registers.proofs.Rings.{never_ring_lem}
use Rattle.journal.specs.declared.calls.Call.TheVariants as call
use Rattle.journal.specs.Books.{Books}
use Rattle.journal.specs.Memories.{AllListed, State}
use Rattle.journal.specs.Promise.{Stands, memory_of}
use Rattle.journal.specs.Theorems.{NeverForRing, ShownCostsLeast}

open_of : (b : Bool) → (b ≡ false → ⊥) → b ≡ true
open_of true n = refl
open_of false n = absurd (n refl)

-- refused for a ring, a call on open plans was one on an open plan
was_open : (b : Bool) (rows : List Row) (p : ℕ) → First (row 0 0 (b ≡ false) ∷ rows) 12 p → b ≡ true
was_open b rows p (inl h) = absurd (omega (arith, h.1))
was_open b rows p (inr h) = open_of b h.0

module _ {K : Type 0} (t : Time K) (laws : Laws t) where
  limits : (B : Books K) (s : State K) → Stands t B s → Limits t B.register
  limits B s st = same_limits t (register_of t (memory_of s)) B.register st.same st.stored.limits

  free : (B : Books K) (s : State K) → Stands t B s → B.opened ≡ true → RingFree t B.register
  free B s st shown = never_ring_lem t laws B.register (limits B s st) (at t s.times) (st.shows shown).table (st.shows shown).meets

  pub never_for_ring_lem : NeverForRing t
  never_for_ring_lem B s st l (call.Report v x) floors count ring trial told = (free B s st (was_open B.opened (row 1 0 (AllListed l → ⊥) ∷ report_rows t B.register v x ++ ring_rows t (report t B.register v x)) _ told.answers)).reporting_names v x (take count ring) told.named
  never_for_ring_lem B s st l (call.Hold r until) floors count ring trial told = (free B s st (was_open B.opened (row 1 0 (AllListed l → ⊥) ∷ hold_rows t B.register r until ++ ring_rows t (hold t B.register r (Some until))) _ told.answers)).holding_names r _ (take count ring) told.named
  never_for_ring_lem B s st l (call.Release r) floors count ring trial told = (free B s st (was_open B.opened (row 0 0 (get_or B.slips r false ≡ false) ∷ row 1 0 (AllListed l → ⊥) ∷ ring_rows t (hold t B.register r None)) _ told.answers)).holding_names r _ (take count ring) told.named
  never_for_ring_lem B s st l _ floors count ring trial told = absurd floors

  pub shown_costs_least_lem : ShownCostsLeast t
  shown_costs_least_lem B s st shown other table meets = cheapest t laws B.register (limits B s st) (at t s.times) (st.shows shown) other table meets
