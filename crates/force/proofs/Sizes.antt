-- The constraints in force of a register that keeps the limits can be reckoned, and its least times are within their size.
use Rattle.std.proofs.Common.{ℕ, ◌+◌, ◌*◌, ◌/◌, ◌%◌, ◌<◌, ◌≤◌, length, IfSome, Some, None, Option, unwrap_or, sym, ap, subst, inl, inr, arith, MatchOption}
use Rattle.std.proofs.lemmas.Bool.{cases_eq, cond_both}
use Rattle.kinds.specs.Time.{Time, Laws}
use Rattle.network.specs.declared.Arc.{Arc}
use Rattle.network.specs.Network.{Least}
use Rattle.network.proofs.Chains.{Fit, grows}
use Rattle.records.specs.declared.Run.{Run}
use Rattle.records.specs.Register.{Register}
use Rattle.records.specs.Stored.{Sized, SizedIfAny, Duration, Limits}
use Rattle.force.specs.Force.{InForce, running, dwell, connection, departures, arrivals, meeting, Joins, Ahead, run_in, track_in}
use Rattle.force.specs.Floors.{held, floor_of}
use Rattle.force.specs.Constraints.{arcs_in_force, in_force}
use Rattle.force.proofs.Fills.{floor_even, floor_odd}

module _ {K : Type 0} (t : Time K) where
  -- an arc that joins events below n by a duration within its size and not before nothing
  pub record Sound (n : ℕ) (a : Arc K) : Type 0 where
    pub starts : a.from < n
    pub ends : a.to < n
    pub lasts : Duration t a.duration

  joins_sound : (n u v : ℕ) (w : K) (o : Option K) (a : Arc K) → u < n → v < n → Duration t w → Joins o u v w a → Sound n a
  joins_sound n u v w None a h i d e = let P : Arc K → Type 0 = Sound n in subst P (sym e) (record { starts = h; ends = i; lasts = d })
  joins_sound n u v w (Some x) a h i d e = absurd e

  dwell_sound : (n r : ℕ) (x : Run K) (a : Arc K) (q : Option ℕ) → r < n → Duration t x.dwell → IfSome q (λ p. p < r) → MatchOption q ⊥ (λ p. Joins x.departed (2 * p + 1) (2 * r) x.dwell a) → Sound (2 * n) a
  dwell_sound n r x a None inside d before h = absurd h
  dwell_sound n r x a (Some p) inside d before h = joins_sound (2 * n) (2 * p + 1) (2 * r) x.dwell x.departed a (omega arith) (omega arith) d h

  departure_small : (d h : Option K) (s : K) → SizedIfAny t d → SizedIfAny t h → Sized t s → Sized t (unwrap_or d (held t s h))
  departure_small (Some x) h s a b c = a
  departure_small None None s a b c = c
  departure_small None (Some y) s a b c = let P : K → Type 0 = Sized t in cond_both (t.before s y) y s P (λ _. b) (λ _. c)

  arrival_small : (r : Option K) (s : K) → SizedIfAny t r → Sized t s → Sized t (unwrap_or r s)
  arrival_small (Some x) s a c = a
  arrival_small None s a c = c

  module _ (R : Register K) (limits : Limits t R) where
    ahead_inside : (u v : ℕ) → Ahead t R u v → (u < length R.runs) × (v < length R.runs)
    ahead_inside u v (inl h) = (omega (arith, h.0.below, h.0.inside), h.0.inside)
    ahead_inside u v (inr h) = (h.0.inside, omega (arith, h.0.below, h.0.inside))

    pub in_force_sound : (a : Arc K) → InForce t R a → Sound (2 * length R.runs) a
    in_force_sound a (running r inside h) = joins_sound _ _ _ _ _ a (omega arith) (omega arith) (limits.runs.each r inside).1.0.1.1.0 h
    in_force_sound a (dwell r inside h) =
        let x = limits.runs.each r inside in
        dwell_sound (length R.runs) r (run_in t R r) a (run_in t R r).predecessor inside x.1.0.1.1.1 x.0.0 h
    in_force_sound a (connection c inside kept h) =
        let f = limits.connections.each c inside in
        joins_sound _ _ _ _ _ a (omega (arith, f.0)) (omega (arith, f.1.0)) f.1.1.1.1 h
    in_force_sound a (departures u v h d) =
        let i = ahead_inside u v h in
        let k = limits.tracks.each (track_in t R v) (limits.runs.each v i.1).0.1.0 in
        joins_sound _ _ _ _ _ a (omega (arith, i.0)) (omega (arith, i.1)) k.0 d.1
    in_force_sound a (arrivals u v h d) =
        let i = ahead_inside u v h in
        let k = limits.tracks.each (track_in t R v) (limits.runs.each v i.1).0.1.0 in
        joins_sound _ _ _ _ _ a (omega (arith, i.0)) (omega (arith, i.1)) k.0 d.1
    in_force_sound a (meeting u v h d) =
        let i = ahead_inside u v h in
        let k = limits.tracks.each (track_in t R v) (limits.runs.each v i.1).0.1.0 in
        joins_sound _ _ _ _ _ a (omega (arith, i.0)) (omega (arith, i.1)) k.1.0 d.1

    pub in_force_fit : Fit t (2 * length R.runs) (arcs_in_force t R)
    in_force_fit = record {
      starts = λ a h. (in_force_sound a h).starts;
      ends = λ a h. (in_force_sound a h).ends;
      short = λ a h. (in_force_sound a h).lasts.0;
    }

    pub floor_small : (v : ℕ) → v < 2 * length R.runs → t.size (floor_of t R v) ≤ 1000000
    floor_small v h =
        let P : K → Type 0 = Sized t in
        let inside : v / 2 < length R.runs = omega arith in
        let x = limits.runs.each (v / 2) inside in
        let y = run_in t R (v / 2) in
        elim (cases_eq (v % 2) 0) [
          | inl e ↦ subst P (sym (floor_even t R v e)) (departure_small y.departed y.hold y.departure x.1.1.0 x.1.1.1.1.0 x.1.0.0)
          | inr e ↦ subst P (sym (floor_odd t R v e)) (arrival_small y.arrived y.arrival x.1.1.1.0 x.1.0.1.0)
        ]

    -- a time joined along at most 1,023 arcs from a floor
    pub least_small : Laws t → (time : ℕ → K) → Least t (in_force t R) time → (v : ℕ) → v < 2 * length R.runs → t.size (time v) ≤ 103300000
    least_small laws time least v h =
        let r = least.walks.reached v h in
        let few = limits.few_runs in
        let w = r.2 in
        let long = w.count in
        let short = r.1 in
        let g = grows laws (2 * length R.runs) (arcs_in_force t R) in_force_fit (floor_of t R w.first) 1000000 w.first w.walk v w.chain (floor_small w.first w.inside) (omega arith) in
        let e = ap t.size w.value in
        omega arith
