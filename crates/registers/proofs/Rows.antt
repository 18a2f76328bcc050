-- The rows on registers that say the same match.
use Rattle.std.proofs.Common.{◌≡◌, ℕ, List, sym, refl, ◌∙◌}
use Rattle.kinds.specs.Time.{Time}
use Rattle.network.specs.Refusals.{Row, Passed}
use Rattle.records.specs.declared.Track.{Track}
use Rattle.records.specs.declared.Run.{Run}
use Rattle.records.specs.declared.Connection.{Connection}
use Rattle.records.specs.Register.{Register}
use Rattle.rules.specs.declared.switches.Switch.{Switch}
use Rattle.rules.specs.declared.switches.Switch.TheVariants as switch
use Rattle.rules.specs.Rows.{TooLate, setting_of, track_rows, run_rows, connection_rows, switch_rows, setting_rows, turning_rows, event_rows, report_rows, hold_rows, release_rows}
use Rattle.rules.proofs.Rows.{order_passed, link_passed}
use Rattle.plan.specs.Calls.{ring_rows}
use Rattle.registers.specs.Steps.{Same}
use Rattle.registers.specs.Rows.{RowsShared}
use Rattle.registers.proofs.Sames.{with_settings, at_same, same_sym}
use Rattle.registers.proofs.Forces.{force_shared}
use Rattle.registers.proofs.Matches.{Matching, matching_refl, matching_more, matching_answered}

module _ {K : Type 0} (t : Time K) where
  -- what departed in one has departed in the other
  late_there : (R S : Register K) → Same t R S → (s : Switch) → TooLate t R s → TooLate t S s
  late_there R S h (switch.Order i j) late = let P : Register K → Type 0 = λ T. TooLate t T (switch.Order i j) in at_same t P R S h late
  late_there R S h (switch.Connection c) late = let P : Register K → Type 0 = λ T. TooLate t T (switch.Connection c) in at_same t P R S h late

  -- a switch that there is has one setting in both
  pub setting_same : (R S : Register K) → Same t R S → (s : Switch) → Passed (switch_rows t R s) → setting_of t R s ≡ setting_of t S s
  setting_same R S h (switch.Order i j) p = h.orders i j (order_passed t R i j p)
  setting_same R S h (switch.Connection c) p = h.links c (link_passed t R c p)

  module _ (R S : Register K) (h : Same t R S) where
    -- rows that read no setting
    pub records_match : (rows : Register K → List Row) → Matching (rows R) (rows (with_settings R S.order S.link)) → Matching (rows R) (rows S)
    records_match rows m = let P : Register K → Type 0 = λ T. Matching (rows R) (rows T) in at_same t P R S h m

    pub track_match : (x : Track K) → Matching (track_rows t R x) (track_rows t S x)
    track_match x = records_match (λ T. track_rows t T x) (matching_refl (track_rows t R x))

    pub run_match : (x : Run K) → Matching (run_rows t R x) (run_rows t S x)
    run_match x = records_match (λ T. run_rows t T x) (matching_refl (run_rows t R x))

    pub connection_match : (x : Connection K) → Matching (connection_rows t R x) (connection_rows t S x)
    connection_match x = records_match (λ T. connection_rows t T x) (matching_refl (connection_rows t R x))

    pub switch_match : (s : Switch) → Matching (switch_rows t R s) (switch_rows t S s)
    switch_match (switch.Order i j) = records_match (λ T. switch_rows t T (switch.Order i j)) (matching_refl (switch_rows t R (switch.Order i j)))
    switch_match (switch.Connection c) = records_match (λ T. switch_rows t T (switch.Connection c)) (matching_refl (switch_rows t R (switch.Connection c)))

    -- the setting is read behind the rows that say that there is such a switch
    pub setting_match : (s : Switch) (v : ℕ) → Matching (setting_rows t R s v) (setting_rows t S s v)
    setting_match s v = matching_more (switch_rows t R s) (switch_rows t S s) _ _ (switch_match s) (λ p.
        (let e = setting_same R S h s p in
        (record { number = refl; place = refl; there = λ w. w; back = λ w. w }, λ _. (record { number = refl; place = refl; there = λ w. sym e ∙ w; back = λ w. e ∙ w }, λ _. tt))))

    pub turning_match : (s : Switch) (v : ℕ) → Matching (turning_rows t R s v) (turning_rows t S s v)
    turning_match s v = matching_more (setting_rows t R s v) (setting_rows t S s v) _ _ (setting_match s v) (λ p.
        (record { number = refl; place = refl; there = late_there R S h s; back = late_there S R (same_sym t R S h) s }, λ _. tt))

    pub event_match : (v : ℕ) → Matching (event_rows t R v) (event_rows t S v)
    event_match v = records_match (λ T. event_rows t T v) (matching_refl (event_rows t R v))

    pub report_match : (v : ℕ) (at : K) → Matching (report_rows t R v at) (report_rows t S v at)
    report_match v at = records_match (λ T. report_rows t T v at) (matching_refl (report_rows t R v at))

    pub hold_match : (r : ℕ) (until : K) → Matching (hold_rows t R r until) (hold_rows t S r until)
    hold_match r until = records_match (λ T. hold_rows t T r until) (matching_refl (hold_rows t R r until))

    pub release_match : (plan slip_plan slip_run : ℕ) → Matching (release_rows t R plan slip_plan slip_run) (release_rows t S plan slip_plan slip_run)
    release_match plan slip_plan slip_run = records_match (λ T. release_rows t T plan slip_plan slip_run) (matching_refl (release_rows t R plan slip_plan slip_run))

    -- a ring of one is a ring of the other
    pub ring_match : Matching (ring_rows t R) (ring_rows t S)
    ring_match = (record { number = refl; place = refl; there = (force_shared t R S h).no_table; back = (force_shared t S R (same_sym t R S h)).no_table }, λ _. tt)

    pub rows_shared : RowsShared t R S
    rows_shared = record {
      track = λ x. matching_answered _ _ (track_match x);
      run = λ x. matching_answered _ _ (run_match x);
      connection = λ x. matching_answered _ _ (connection_match x);
      switch = λ s. matching_answered _ _ (switch_match s);
      setting = λ s v. matching_answered _ _ (setting_match s v);
      turning = λ s v. matching_answered _ _ (turning_match s v);
      event = λ v. matching_answered _ _ (event_match v);
      report = λ v at. matching_answered _ _ (report_match v at);
      hold = λ r until. matching_answered _ _ (hold_match r until);
      release = λ plan slip_plan slip_run. matching_answered _ _ (release_match plan slip_plan slip_run);
      ring = matching_answered _ _ ring_match;
    }
