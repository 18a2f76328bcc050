-- What a call that reckons promises of one register it promises of each that says the same.
use Rattle.std.proofs.Common.{◌≡◌, ℕ, ◌*◌, ◌≤◌, List, ◌++◌, length, take, drop, Ok, Err, Result, ap, subst}
use Rattle.kinds.specs.Time.{Time}
use Rattle.network.specs.declared.faults.NetworkFault.TheVariants as network
use Rattle.network.specs.Reckoning.{at}
use Rattle.network.specs.Refusals.{Row}
use Rattle.records.specs.Register.{Register}
use Rattle.rules.specs.declared.faults.PlanFault.{PlanFault}
use Rattle.rules.specs.declared.faults.PlanFault.TheVariants as fault
use Rattle.rules.specs.Faults.{plan_number, plan_place}
use Rattle.plan.specs.Calls.{ring_rows, RingLeft, TimesLeft, RingAnswer, Reckons}
use Rattle.registers.specs.Steps.{Same}
use Rattle.registers.proofs.Forces.{force_shared}
use Rattle.registers.proofs.Matches.{Matching, matching_more, matching_answers}
use Rattle.registers.proofs.Rows.{ring_match}

module _ {K : Type 0} (t : Time K) (R S : Register K) (h : Same t R S) where
  runs_alike : length R.runs ≡ length S.runs
  runs_alike = ap length h.runs

  ring_left_there : (was ring : List ℕ) (f : PlanFault) → RingLeft t R was ring f → RingLeft t S was ring f
  ring_left_there was ring (fault.Network (network.Ring count)) l =
      let P : ℕ → Type 0 = λ n. count ≤ 2 * n in
      ((force_shared t R S h).names (take count ring) l.0, l.1, subst P runs_alike l.2)
  ring_left_there was ring _ l = l

  module _ {X : Type 0} where
    pub times_left_there : (was times : List K) (r : Result X PlanFault) → TimesLeft t R was times r → TimesLeft t S was times r
    times_left_there was times (Ok x) l =
        let P : ℕ → Type 0 = λ n. drop (2 * n) times ≡ drop (2 * n) was in
        ((force_shared t R S h).least (at t times) l.0, subst P runs_alike l.1)
    times_left_there was times (Err f) l = l

    pub ring_answer_there : (was ring : List ℕ) (r : Result X PlanFault) → RingAnswer t R was ring r → RingAnswer t S was ring r
    ring_answer_there was ring (Ok x) l = l
    ring_answer_there was ring (Err f) l = ring_left_there was ring f l

    -- the rows in front of the ring's may be others that match
    pub reckons_there : (xs ys : List Row) (was times : List K) (ring_was ring : List ℕ) (r : Result X PlanFault) → Matching xs ys → Reckons t xs R was times ring_was ring r → Reckons t ys S was times ring_was ring r
    reckons_there xs ys was times ring_was ring r m k = record {
      answers = matching_answers plan_number plan_place (xs ++ ring_rows t R) (ys ++ ring_rows t S) r (matching_more xs ys (ring_rows t R) (ring_rows t S) m (λ _. ring_match t R S h)) k.answers;
      shows = times_left_there was times r k.shows;
      names = ring_answer_there ring_was ring r k.names;
    }
