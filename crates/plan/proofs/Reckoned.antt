-- From the answer of a reckoning to that of the call.
use Rattle.std.proofs.Common.{◌≡◌, ℕ, List, [], Ok, Err, Result, refl, subst, inl, arith}
use Rattle.kinds.specs.Time.{Time}
use Rattle.network.specs.declared.faults.NetworkFault.{NetworkFault}
use Rattle.network.specs.declared.faults.NetworkFault.TheVariants as network
use Rattle.network.specs.Reckoning.{at}
use Rattle.network.specs.Refusals.{Row, Passed, First}
use Rattle.network.proofs.Refusals.{answers_more, first_front, Under, first_under}
use Rattle.records.specs.Register.{Register, Memory}
use Rattle.force.specs.Reckoned.{TimesAfter, RingAfter}
use Rattle.rules.specs.declared.faults.PlanFault.{PlanFault}
use Rattle.rules.specs.declared.faults.PlanFault.TheVariants as fault
use Rattle.rules.specs.declared.switches.Switch.{Switch}
use Rattle.rules.specs.declared.switches.Switch.TheVariants as switch
use Rattle.rules.specs.Faults.{plan_number, plan_place}
use Rattle.plan.specs.Calls.{Lengths, ring_rows, RingLeft, Reckons, turning_call_rows}
use Rattle.plan.proofs.Told.{Left, left}

abbrev pub failed : (X : Type 0) → PlanFault → Result X PlanFault
failed X f = Err f

abbrev pub taken : (X : Type 0) → X → Result X PlanFault
taken X x = Ok x

-- the fault of the network stays whole inside the plan's
abbrev pub lifted : {X : Type 0} → Result X NetworkFault → Result X PlanFault
lifted (Ok x) = Ok x
lifted (Err f) = Err (fault.Network f)

module _ {K : Type 0} (t : Time K) where
  pub reckoned : (R : Register K) (was times : List K) (ring_was ring : List ℕ) (r : Result (Unit {0}) NetworkFault) → TimesAfter t R was times r → RingAfter t R ring_was ring r → Reckons t [] R was times ring_was ring (lifted r)
  reckoned R was times ring_was ring (Ok x) shown quiet = record {
    answers = ((λ none. none (at t times) shown.0.table shown.0.meets), tt);
    shows = shown;
    names = quiet.1;
  }
  reckoned R was times ring_was ring (Err network.Length) shown found = absurd found
  reckoned R was times ring_was ring (Err (network.Event place)) shown found = absurd found
  reckoned R was times ring_was ring (Err network.Floor) shown found = absurd found
  reckoned R was times ring_was ring (Err network.Duration) shown found = absurd found
  reckoned R was times ring_was ring (Err network.Count) shown found = absurd found
  reckoned R was times ring_was ring (Err (network.Ring count)) shown found = record {
    answers = inl (found.none, refl, refl);
    shows = shown;
    names = (found.names, found.rest, found.few);
  }

  module _ (was times : List K) (ring_was ring : List ℕ) where
    -- the rows in front do not apply, and the register is the same
    pub reckons : {X : Type 0} (rows : List Row) (R S : Register K) (r : Result X PlanFault) → Passed rows → R ≡ S → Reckons t [] R was times ring_was ring r → Reckons t rows S was times ring_was ring r
    reckons rows R S r passed same h =
        let k = subst (λ (T : Register K). Reckons t [] T was times ring_was ring r) same h in
        record { answers = answers_more plan_number plan_place rows (ring_rows t S) r passed k.answers; shows = k.shows; names = k.names }

    -- the same of a call that answers something else
    pub reckons_taken : {X Y : Type 0} (rows : List Row) (R : Register K) (x : X) (y : Y) → Reckons t rows R was times ring_was ring (taken X x) → Reckons t rows R was times ring_was ring (taken Y y)
    reckons_taken rows R x y h = record { answers = h.answers; shows = h.shows; names = h.names }

    pub reckons_failed : {X Y : Type 0} (rows : List Row) (R : Register K) (f : PlanFault) (r : Result Y PlanFault) → Left f r → Reckons t rows R was times ring_was ring (failed X f) → Reckons t rows R was times ring_was ring r
    reckons_failed {X} {Y} rows R f r e h = left (Reckons t rows R was times ring_was ring) f r e (record { answers = h.answers; shows = h.shows; names = h.names })

  module _ (rows : List Row) (R : Register K) (under : Under 12 rows) (times : List K) (ring : List ℕ) where
    -- a fault before the reckoning names no ring
    quiet : (f : PlanFault) → First rows (plan_number f) (plan_place f) → RingLeft t R ring ring f
    quiet (fault.Network (network.Ring count)) h = absurd (first_under 12 rows 0 under h)
    quiet _ h = refl

    -- refused before the reckoning
    pub refused : {X : Type 0} (f : PlanFault) (r : Result X PlanFault) → Left f r → First rows (plan_number f) (plan_place f) → Reckons t rows R times times ring ring r
    refused f r e h = left (Reckons t rows R times times ring ring) f r e (record {
      answers = first_front rows (ring_rows t R) _ _ h;
      shows = refl;
      names = quiet f h;
    })

-- the rows of turning a setting have numbers below that of a ring
pub turning_under : {K : Type 0} (t : Time K) (l : Lengths) (m : Memory K) (shown : List K) (s : Switch) (setting : ℕ) → Under 12 (turning_call_rows t l m shown s setting)
turning_under t l m shown (switch.Order i j) setting = (omega arith, (omega arith, (omega arith, (omega arith, (omega arith, (omega arith, (omega arith, (omega arith, (omega arith, (omega arith, (omega arith, (omega arith, tt))))))))))))
turning_under t l m shown (switch.Connection c) setting = (omega arith, (omega arith, (omega arith, (omega arith, (omega arith, (omega arith, (omega arith, (omega arith, (omega arith, tt)))))))))
