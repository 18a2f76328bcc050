-- A report takes arcs away and a hold changes none, so where some table meets a register neither brings a ring.
use Rattle.std.proofs.Common.{◌≡◌, ℕ, ◌+◌, ◌*◌, ◌/◌, ◌%◌, ◌<◌, eqb, length, set, IfNone, Some, None, Option, sym, refl, ap, ◌∙◌, subst, inl, inr, arith, MatchOption}
use Rattle.std.proofs.lemmas.List.{get_or-set_same, get_or-set_other, set_past, length-set}
use Rattle.std.proofs.lemmas.Bool.{cases_eq, cases_lt, cond_both}
use Rattle.kinds.specs.Time.{Time, Laws}
use Rattle.network.specs.declared.Arc.{Arc}
use Rattle.network.specs.Network.{HasRing, Table, Meets}
use Rattle.network.proofs.Tables.{no_ring}
use Rattle.records.specs.declared.Track.{Track}
use Rattle.records.specs.declared.Run.{Run}
use Rattle.records.specs.declared.Connection.{Connection}
use Rattle.records.specs.Records.{run_at, track_at, connection_at, track_of}
use Rattle.records.specs.Register.{Register}
use Rattle.records.specs.Stored.{Limits}
use Rattle.force.specs.Force.{Joins, Running, Dwell, Connects, Departures, Arrivals, Meeting, Ahead, InForce, running, dwell, connection, departures, arrivals, meeting}
use Rattle.force.specs.Constraints.{arcs_in_force, in_force}
use Rattle.force.proofs.Alike.{ring_there}
use Rattle.force.proofs.Sizes.{in_force_fit}
use Rattle.plan.specs.Steps.{reported, holding}
use Rattle.registers.specs.Steps.{with_run, report, hold}
use Rattle.registers.specs.Rings.{RingFree, NeverRing}
use Rattle.registers.proofs.Kept.{ordered_still}

module _ {K : Type 0} where
  -- what is not reported now was not reported before
  abbrev pub Covers : Option K → Option K → Type 0
  Covers now was = IfNone now (was ≡ None)

  covers_refl : (o : Option K) → Covers o o
  covers_refl None = refl
  covers_refl (Some x) = tt

  -- run x is run y, but for its hold and for reports that y may lack
  pub record Later (x y : Run K) : Type 0 where
    pub track : x.track ≡ y.track
    pub direction : x.direction ≡ y.direction
    pub predecessor : x.predecessor ≡ y.predecessor
    pub running : x.running ≡ y.running
    pub dwell : x.dwell ≡ y.dwell
    pub departed : Covers x.departed y.departed
    pub arrived : Covers x.arrived y.arrived

  pub later_refl : (x : Run K) → Later x x
  later_refl x = record { track = refl; direction = refl; predecessor = refl; running = refl; dwell = refl; departed = covers_refl x.departed; arrived = covers_refl x.arrived }

  pub later_reported : (x : Run K) (side : ℕ) (at : K) → Later (reported x side at) x
  later_reported x side at =
      let D : Option K → Type 0 = λ o. Covers o x.departed in
      let A : Option K → Type 0 = λ o. Covers o x.arrived in
      record {
        track = refl;
        direction = refl;
        predecessor = refl;
        running = refl;
        dwell = refl;
        departed = cond_both (eqb side 0) (Some at) x.departed D (λ _. tt) (λ _. covers_refl x.departed);
        arrived = cond_both (eqb side 0) x.arrived (Some at) A (λ _. covers_refl x.arrived) (λ _. tt);
      }

  pub later_holding : (x : Run K) (until : Option K) → Later (holding x until) x
  later_holding x until = record { track = refl; direction = refl; predecessor = refl; running = refl; dwell = refl; departed = covers_refl x.departed; arrived = covers_refl x.arrived }

  -- an arc whose end is not reported now was one before
  joins_was : (now was : Option K) (u v : ℕ) (w d : K) (a : Arc K) → Covers now was → w ≡ d → Joins now u v w a → Joins was u v d a
  joins_was None was u v w d a c e h =
      let P : Option K → Type 0 = λ o. Joins o u v d a in
      let made : K → Arc K = λ y. record { from = u; to = v; duration = y } in
      subst P (sym c) (h ∙ ap made e)
  joins_was (Some x) was u v w d a c e h = absurd h

  running_was : (r : ℕ) (x y : Run K) (a : Arc K) → Later x y → Running r x a → Running r y a
  running_was r x y a l h = joins_was x.arrived y.arrived _ _ x.running y.running a l.arrived l.running h

  dwell_from : (q : Option ℕ) (r : ℕ) (x y : Run K) (a : Arc K) → Later x y → MatchOption q ⊥ (λ p. Joins x.departed (2 * p + 1) (2 * r) x.dwell a) → MatchOption q ⊥ (λ p. Joins y.departed (2 * p + 1) (2 * r) y.dwell a)
  dwell_from None r x y a l h = h
  dwell_from (Some p) r x y a l h = joins_was x.departed y.departed (2 * p + 1) (2 * r) x.dwell y.dwell a l.departed l.dwell h

  dwell_was : (r : ℕ) (x y : Run K) (a : Arc K) → Later x y → Dwell r x a → Dwell r y a
  dwell_was r x y a l h =
      let P : Option ℕ → Type 0 = λ q. MatchOption q ⊥ (λ p. Joins x.departed (2 * p + 1) (2 * r) x.dwell a) in
      dwell_from y.predecessor r x y a l (subst P l.predecessor h)

  connects_was : (c : Connection K) (x y : Run K) (a : Arc K) → Later x y → Connects c x a → Connects c y a
  connects_was c x y a l h = joins_was x.departed y.departed _ _ c.time c.time a l.departed refl h

  module _ (k : Track K) (u v : ℕ) (x x_was y y_was : Run K) (a : Arc K) (ahead : Later x x_was) (behind : Later y y_was) where
    direction_was : x.direction ≡ y.direction → x_was.direction ≡ y_was.direction
    direction_was e = sym ahead.direction ∙ e ∙ behind.direction

    departures_was : Departures k u x v y a → Departures k u x_was v y_was a
    departures_was h = (direction_was h.0, joins_was y.departed y_was.departed _ _ k.headway k.headway a behind.departed refl h.1)

    arrivals_was : Arrivals k u x v y a → Arrivals k u x_was v y_was a
    arrivals_was h = (direction_was h.0, joins_was y.arrived y_was.arrived _ _ k.headway k.headway a behind.arrived refl h.1)

    meeting_was : Meeting k u x v y a → Meeting k u x_was v y_was a
    meeting_was h = ((λ e. h.0 (ahead.direction ∙ e ∙ sym behind.direction)), joins_was y.departed y_was.departed _ _ k.meeting k.meeting a behind.departed refl h.1)

module _ {K : Type 0} (t : Time K) (R : Register K) where
  -- run r is later
  module _ (r : ℕ) (x : Run K) (later : Later x (run_at t R.runs r)) where
    pub each_later : (k : ℕ) → Later (run_at t (set R.runs r x) k) (run_at t R.runs k)
    each_later k =
        let P : Run K → Type 0 = λ y. Later y (run_at t R.runs k) in
        elim (cases_eq k r) [
          | inl same ↦
              (let Q : ℕ → Type 0 = λ i. Later (run_at t (set R.runs r x) i) (run_at t R.runs i) in
              let S : Run K → Type 0 = λ y. Later y (run_at t R.runs r) in
              subst Q (sym same) (elim (cases_lt r (length R.runs)) [
                | inl l ↦ (let here : run_at t (set R.runs r x) r ≡ x = get_or-set_same R.runs r x _ l in subst S (sym here) later)
                | inr l ↦ (let here : run_at t (set R.runs r x) r ≡ run_at t R.runs r = ap (λ ys. run_at t ys r) (set_past R.runs r x l) in subst S (sym here) (later_refl (run_at t R.runs r)))
              ]))
          | inr ne ↦ (let there : run_at t (set R.runs r x) k ≡ run_at t R.runs k = get_or-set_other R.runs r k x _ ne in subst P (sym there) (later_refl (run_at t R.runs k)))
        ]

    ahead_was : (u v : ℕ) → Ahead t (with_run R r x) u v → Ahead t R u v
    ahead_was u v (inl h) = inl (ordered_still t R.runs r x later.track u v h.0, h.1)
    ahead_was u v (inr h) = inr (ordered_still t R.runs r x later.track v u h.0, h.1)

    inside_was : (k : ℕ) → k < length (set R.runs r x) → k < length R.runs
    inside_was k l = let n = length-set R.runs r x in omega arith

    -- each arc in force was in force
    pub in_force_was : (a : Arc K) → InForce t (with_run R r x) a → InForce t R a
    in_force_was a (running k i h) = running k (inside_was k i) (running_was k _ _ a (each_later k) h)
    in_force_was a (dwell k i h) = dwell k (inside_was k i) (dwell_was k _ _ a (each_later k) h)
    in_force_was a (connection c i e h) = connection c i e (connects_was (connection_at t R.connections c) _ _ a (each_later (connection_at t R.connections c).onward) h)
    in_force_was a (departures u v h d) =
        let now : ℕ → Run K = run_at t (set R.runs r x) in
        let P : ℕ → Type 0 = λ n. Departures (track_at t R.tracks n) u (now u) v (now v) a in
        departures u v (ahead_was u v h) (departures_was (track_at t R.tracks (track_of t R.runs v)) u v _ _ _ _ a (each_later u) (each_later v) (subst P (each_later v).track d))
    in_force_was a (arrivals u v h d) =
        let now : ℕ → Run K = run_at t (set R.runs r x) in
        let P : ℕ → Type 0 = λ n. Arrivals (track_at t R.tracks n) u (now u) v (now v) a in
        arrivals u v (ahead_was u v h) (arrivals_was (track_at t R.tracks (track_of t R.runs v)) u v _ _ _ _ a (each_later u) (each_later v) (subst P (each_later v).track d))
    in_force_was a (meeting u v h d) =
        let now : ℕ → Run K = run_at t (set R.runs r x) in
        let P : ℕ → Type 0 = λ n. Meeting (track_at t R.tracks n) u (now u) v (now v) a in
        meeting u v (ahead_was u v h) (meeting_was (track_at t R.tracks (track_of t R.runs v)) u v _ _ _ _ a (each_later u) (each_later v) (subst P (each_later v).track d))

    -- so a ring was a ring
    pub ring_was : HasRing t (arcs_in_force t (with_run R r x)) → HasRing t (arcs_in_force t R)
    ring_was = ring_there t (arcs_in_force t (with_run R r x)) (arcs_in_force t R) (λ a has. (a, in_force_was a has, refl))

  module _ (laws : Laws t) (limits : Limits t R) (time : ℕ → K) (table : Table t (in_force t R) time) (meets : Meets t (in_force t R) time) where
    pub ringless : HasRing t (arcs_in_force t R) → ⊥
    ringless h = no_ring laws (in_force t R) (in_force_fit t R limits) (omega (arith, limits.few_runs)) time table meets h.0 h.1

    report_ringless : (v : ℕ) (at : K) → HasRing t (arcs_in_force t (report t R v at)) → ⊥
    report_ringless v at h = ringless (ring_was (v / 2) (reported (run_at t R.runs (v / 2)) (v % 2) at) (later_reported (run_at t R.runs (v / 2)) (v % 2) at) h)

    hold_ringless : (r : ℕ) (until : Option K) → HasRing t (arcs_in_force t (hold t R r until)) → ⊥
    hold_ringless r until h = ringless (ring_was r (holding (run_at t R.runs r) until) (later_holding (run_at t R.runs r) until) h)

    pub ring_free : RingFree t R
    ring_free = record {
      reporting = report_ringless;
      reporting_names = λ v at events n. report_ringless v at (n.circuit, n.ring);
      holding = hold_ringless;
      holding_names = λ r until events n. hold_ringless r until (n.circuit, n.ring);
    }

module _ {K : Type 0} (t : Time K) (laws : Laws t) where
  pub never_ring_lem : NeverRing t
  never_ring_lem R limits time table meets = ring_free t R laws limits time table meets
