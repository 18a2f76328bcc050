-- What is known once no row of a call applies.
use Rattle.std.proofs.Common.{◌≡◌, ℕ, ◌*◌, ◌/◌, ◌%◌, ◌<◌, ◌≤◌, true, false, List, [], ◌∷◌, ◌++◌, length, get_or, ◌≢◌, IfSome, Some, None, Option, refl, inl, inr, arith, MatchOption}
use Rattle.std.proofs.lemmas.Bool.{cases_eq, cases_Bool}
use Rattle.kinds.specs.Time.{Time}
use Rattle.network.specs.Refusals.{Row, Passed}
use Rattle.records.specs.declared.Track.{Track}
use Rattle.records.specs.declared.Run.{Run}
use Rattle.records.specs.declared.Connection.{Connection}
use Rattle.records.specs.Records.{run_at, track_of}
use Rattle.records.specs.Places.{Ordered}
use Rattle.records.specs.Register.{Register, Memory, all_of}
use Rattle.records.specs.Stored.{Sized, Duration, TrackStored, Linked, Scheduled, ConnectionStored, Limits}
use Rattle.records.proofs.Counts.{place_below}
use Rattle.rules.specs.declared.switches.Switch.{Switch}
use Rattle.rules.specs.declared.switches.Switch.TheVariants as switch
use Rattle.rules.specs.Rows.{Given, NotEarlier, NoDuration, TooLate, track_rows, orders_with, run_rows, connection_rows, switch_rows, setting_place, setting_of, setting_rows, turning_rows, event_rows, report_rows, hold_rows, release_rows}

-- of more rows that do not apply the first do not
pub passed_front : (xs ys : List Row) → Passed (xs ++ ys) → Passed xs
passed_front [] ys p = tt
passed_front (x ∷ xs) ys p = (p.0, passed_front xs ys p.1)

pub passed_back : (xs ys : List Row) → Passed (xs ++ ys) → Passed ys
passed_back [] ys p = p
passed_back (x ∷ xs) ys p = passed_back xs ys p.1

-- what is not there is none
pub none_given : {X : Type 0} (o : Option X) → (Given o → ⊥) → o ≡ None
none_given None n = refl
none_given (Some x) n = absurd (n tt)

-- what is not absent is there
pub still_given : {X : Type 0} (o : Option X) → ((Given o → ⊥) → ⊥) → Given o
still_given None n = absurd (n (λ h. h))
still_given (Some x) n = tt

at_most : (n p : ℕ) → (n < p → ⊥) → p ≤ n
at_most n p h = omega arith

-- what is not another number is the same
same : (n p : ℕ) → (n ≢ p → ⊥) → n ≡ p
same n p h = elim (cases_eq n p) [ inl e ↦ e | inr e ↦ absurd (h e) ]

earlier : (n : ℕ) (o : Option ℕ) → (NotEarlier n o → ⊥) → IfSome o (λ p. p < n)
earlier n None h = tt
earlier n (Some p) h = omega arith

module _ {K : Type 0} (t : Time K) where
  duration : (d : K) → (NoDuration t d → ⊥) → Duration t d
  duration d n = (at_most 100000 (t.size d) (λ h. n (inl h)), elim (cases_Bool (t.before t.none d)) [ inl e ↦ e | inr e ↦ absurd (n (inr e)) ])

  -- entering a track
  pub track_passed : (R : Register K) (x : Track K) → Passed (track_rows t R x) → TrackStored t x × (length R.tracks < 64)
  track_passed R x p = ((duration x.headway (λ h. p.0 (inl h)), (duration x.meeting (λ h. p.0 (inr h)), omega arith)), omega arith)

  -- entering a run
  pub record RunPassed (R : Register K) (x : Run K) : Type 0 where
    pub linked : Linked (length R.tracks) (length R.runs) x
    pub scheduled : Scheduled t x
    pub room : length R.runs < 512
    pub orders : orders_with t R x.track ≤ 4096

  pub run_passed : (R : Register K) (x : Run K) → Passed (run_rows t R x) → RunPassed R x
  run_passed R x p =
      let over = p.1.1.0 in
      let durations = p.1.1.1.0 in
      let full = p.1.1.1.1.0 in
      let range = p.1.1.1.1.1.0 in
      record {
        linked = (earlier (length R.runs) x.predecessor p.1.0, (omega arith, (at_most 1000 x.weight (λ h. range (inl h)), at_most 1 x.direction (λ h. range (inr h)))));
        scheduled = (at_most 1000000 (t.size x.departure) (λ h. over (inl h)), (at_most 1000000 (t.size x.arrival) (λ h. over (inr h)), (duration x.running (λ h. durations (inl h)), duration x.dwell (λ h. durations (inr h)))));
        room = (let h : 512 ≤ length R.runs → ⊥ = λ l. full (inl l) in omega arith);
        orders = at_most 4096 (orders_with t R x.track) (λ h. full (inr h));
      }

  -- entering a connection
  pub connection_passed : (R : Register K) (x : Connection K) → Passed (connection_rows t R x) → ConnectionStored t (length R.runs) x × (length R.connections < 512)
  connection_passed R x p = ((omega arith, (omega arith, (p.1.1.0, (omega arith, duration x.time p.1.1.1.0)))), omega arith)

  -- naming an order or a connection
  pub order_passed : (R : Register K) (i j : ℕ) → Passed (switch_rows t R (switch.Order i j)) → Ordered (track_of t R.runs) (length R.runs) i j
  order_passed R i j p = record { below = omega arith; inside = omega arith; shared = same _ _ p.1.1.1.0 }

  pub link_passed : (R : Register K) (c : ℕ) → Passed (switch_rows t R (switch.Connection c)) → c < length R.connections
  link_passed R c p = omega arith

  -- the setting of a switch is the byte at its place
  pub setting_read : (m : Memory K) (s : Switch) → setting_of t (all_of t m) s ≡ get_or m.settings (setting_place t (all_of t m) s) 0
  setting_read m (switch.Order i j) = refl
  setting_read m (switch.Connection c) = refl

  -- that place is inside
  pub setting_inside : (R : Register K) (s : Switch) → Limits t R → Passed (switch_rows t R s) → setting_place t R s < 4608
  setting_inside R (switch.Order i j) l p = let h = place_below (track_of t R.runs) (length R.runs) i j (order_passed R i j p) in omega (arith, l.few_orders)
  setting_inside R (switch.Connection c) l p = omega (arith, l.few_connections)

  -- giving a setting
  pub setting_named : (R : Register K) (s : Switch) (v : ℕ) → Passed (setting_rows t R s v) → Passed (switch_rows t R s)
  setting_named R s v p = passed_front (switch_rows t R s) _ p

  pub setting_flag : (R : Register K) (s : Switch) (v : ℕ) → Passed (setting_rows t R s v) → v ≤ 1
  setting_flag R s v p = let h = (passed_back (switch_rows t R s) _ p).0 in omega arith

  pub setting_new : (R : Register K) (s : Switch) (v : ℕ) → Passed (setting_rows t R s v) → setting_of t R s ≢ v
  setting_new R s v p = (passed_back (switch_rows t R s) _ p).1.0

  -- turning a switch
  pub turning_set : (R : Register K) (s : Switch) (v : ℕ) → Passed (turning_rows t R s v) → Passed (setting_rows t R s v)
  turning_set R s v p = passed_front (setting_rows t R s v) _ p

  pub turning_timely : (R : Register K) (s : Switch) (v : ℕ) → Passed (turning_rows t R s v) → TooLate t R s → ⊥
  turning_timely R s v p = (passed_back (setting_rows t R s v) _ p).0

  -- events, reports and holds
  pub event_passed : (R : Register K) (v : ℕ) → Passed (event_rows t R v) → v < 2 * length R.runs
  event_passed R v p = omega arith

  pub record ReportPassed (R : Register K) (v : ℕ) (at : K) : Type 0 where
    pub known : v < 2 * length R.runs
    pub sized : Sized t at
    pub departure : v % 2 ≡ 0 → (run_at t R.runs (v / 2)).arrived ≡ None
    pub arrival : v % 2 ≡ 1 → MatchOption (run_at t R.runs (v / 2)).departed ⊥ (λ d. t.before d at ≡ true)

  fits : (o : Option K) (at : K) → (IfSome o (λ d. t.before d at ≡ false) → ⊥) → MatchOption o ⊥ (λ d. t.before d at ≡ true)
  fits None at n = n tt
  fits (Some d) at n = elim (cases_Bool (t.before d at)) [ inl e ↦ e | inr e ↦ absurd (n e) ]

  pub report_passed : (R : Register K) (v : ℕ) (at : K) → Passed (report_rows t R v at) → ReportPassed R v at
  report_passed R v at p = record {
    known = omega arith;
    sized = omega arith;
    departure = λ e. none_given (run_at t R.runs (v / 2)).arrived (λ h. p.1.1.0 (inl (e, h)));
    arrival = λ e. fits (run_at t R.runs (v / 2)).departed at (λ h. p.1.1.0 (inr (e, h)));
  }

  pub record HoldPassed (R : Register K) (r : ℕ) (until : K) : Type 0 where
    pub known : r < length R.runs
    pub sized : Sized t until
    pub free : (run_at t R.runs r).hold ≡ None
    pub waiting : (run_at t R.runs r).departed ≡ None

  pub hold_passed : (R : Register K) (r : ℕ) (until : K) → Passed (hold_rows t R r until) → HoldPassed R r until
  hold_passed R r until p = record {
    known = omega arith;
    sized = omega arith;
    free = none_given (run_at t R.runs r).hold p.1.1.0;
    waiting = none_given (run_at t R.runs r).departed p.1.1.1.0;
  }

  pub record ReleasePassed (R : Register K) (plan slip_plan slip_run : ℕ) : Type 0 where
    pub own : slip_plan ≡ plan
    pub known : slip_run < length R.runs
    pub held : Given (run_at t R.runs slip_run).hold

  pub release_passed : (R : Register K) (plan slip_plan slip_run : ℕ) → Passed (release_rows t R plan slip_plan slip_run) → ReleasePassed R plan slip_plan slip_run
  release_passed R plan slip_plan slip_run p = record { own = same _ _ p.0; known = omega arith; held = still_given (run_at t R.runs slip_run).hold p.1.1.0 }
