-- The calls on an open plan as steps from books to books.
use Rattle.std.proofs.Common.{◌≡◌, ℕ, ◌*◌, ◌/◌, true, List, [], ◌++◌, length, set, Ok, Err, Option, sym, refl, ap, ◌∙◌, subst, inl, inr, arith, length-set}
use Rattle.std.proofs.lemmas.Bool.{false≢true, cases_eq, cases_lt}
use Rattle.std.proofs.lemmas.List.{length-take-le, get_or-set_same, get_or-set_other}
use lib.Seq.{set_out}
use Rattle.kinds.specs.Time.{Time, Laws}
use Rattle.network.specs.Network.{Least}
use Rattle.network.specs.Reckoning.{at}
use Rattle.network.specs.Refusals.{Row, Passed, First}
use Rattle.network.proofs.Refusals.{Under, first_not_passed}
use Rattle.records.specs.declared.Run.{Run}
use Rattle.records.specs.Lent.{Lists}
use Rattle.records.specs.Records.{run_at}
use Rattle.records.specs.Register.{Register, Memory, register_of}
use Rattle.records.specs.Stored.{Stored, Limits, Shown}
use Rattle.force.specs.Constraints.{in_force}
use Rattle.force.specs.declared.work.Work.{Work}
use Rattle.force.specs.Work.{work_lengths}
use Rattle.force.proofs.Sizes.{least_small}
use Rattle.cost.specs.Cost.{delay_cost_lem}
use Rattle.rules.specs.declared.faults.PlanFault.{PlanFault}
use Rattle.rules.specs.declared.switches.Switch.{Switch}
use Rattle.rules.specs.declared.switches.Switch.TheVariants as switch
use Rattle.rules.specs.Faults.{plan_number, plan_place}
use Rattle.rules.specs.Rows.{RecordsListed, open_rows, Given, report_rows, turning_rows, event_rows, switch_rows, setting_of}
use Rattle.rules.proofs.Rows.{passed_front, passed_back, report_passed, setting_named, turning_set}
use Rattle.plan.specs.declared.states.Open.{Open}
use Rattle.plan.specs.States.{memory}
use Rattle.plan.specs.Steps.{report_memory, switch_memory}
use Rattle.plan.specs.Calls.{Lengths, Listed, lengths, open_call_rows, ring_rows, Reckons}
use Rattle.plan.proofs.Reckoned.{failed, taken as took}
use Rattle.registers.specs.Steps.{Same, report, set_switch}
use Rattle.registers.specs.Rows.{RowsShared}
use Rattle.registers.specs.Stays.{LimitsKept}
use Rattle.registers.proofs.Sames.{same_sym, same_trans}
use Rattle.registers.proofs.Forces.{force_shared, same_limits}
use Rattle.registers.proofs.Kept.{report_kept, set_switch_kept}
use Rattle.registers.proofs.Agrees.{steps_of}
use Rattle.registers.proofs.Matches.{Matching, first_behind}
use Rattle.registers.proofs.Rows.{rows_shared, report_match, turning_match, setting_same}
use Rattle.registers.proofs.Stays.{limits_kept_lem}
use Rattle.journal.specs.declared.calls.Call.{Call}
use Rattle.journal.specs.declared.calls.Call.TheVariants as call
use Rattle.journal.specs.declared.calls.Answer.TheVariants as answer
use Rattle.journal.specs.declared.calls.CallFault.TheVariants as fault
use Rattle.journal.specs.declared.calls.Plan.TheVariants as stage
use Rattle.journal.specs.declared.memories.Memories.{Memories}
use Rattle.journal.specs.Books.{Books, with_register, taken}
use Rattle.journal.specs.Memories.{AllListed, sizes, lists_held, state}
use Rattle.journal.specs.Rows.{controlling, call_rows}
use Rattle.journal.specs.Promise.{Stands, Told, RingTold, to_force}
use Rattle.journal.proofs.Rules.{report_under, turning_under, event_under, switch_under}
use Rattle.journal.proofs.States.{state_of, same_state}
use Rattle.journal.proofs.Told.{none_told}
use Rattle.journal.proofs.Reckonings.{reckoned_taken, reckoned_refused}

-- the hold of a run is not changed by a report
run_kept : {K : Type 0} (t : Time K) (runs : List (Run K)) (k : ℕ) (x : Run K) → x.hold ≡ (run_at t runs k).hold → (r : ℕ) → (run_at t (set runs k x) r).hold ≡ (run_at t runs r).hold
run_kept t runs k x e r =
    elim (cases_lt k (length runs)) [
      | inl inside ↦ elim (cases_eq r k) [
        | inl q ↦ ap (λ i. (run_at t (set runs k x) i).hold) q ∙ ap (λ y. y.hold) (get_or-set_same runs k x _ inside) ∙ e ∙ ap (λ i. (run_at t runs i).hold) (sym q)
        | inr ne ↦ ap (λ y. y.hold) (get_or-set_other runs k r x _ ne)
      ]
      | inr out ↦ ap (λ ys. (run_at t ys r).hold) (set_out runs k x out)
    ]

switched_runs : {K : Type 0} (R : Register K) (s : Switch) (setting : ℕ) → (set_switch R s setting).runs ≡ R.runs
switched_runs R (switch.Order i j) setting = refl
switched_runs R (switch.Connection c) setting = refl

module _ {K : Type 0} (t : Time K) (laws : Laws t) (o : Open) (m : Memories K) (work : Work K) (listed : AllListed (sizes m work)) (B : Books K) (st : Stands t B (state (stage.Open o) m)) where
  abbrev before : Memory K
  before = memory o.numbers (lists_held m)

  abbrev was : Register K
  was = register_of t before

  abbrev w : Lengths
  w = lengths (length m.times.now) (length m.ring.now) (work_lengths work)

  -- the same of a trial
  abbrev wt : Lengths
  wt = lengths (length m.trial.now) (length m.ring.now) (work_lengths work)

  pub records : RecordsListed before
  records = record { tracks = listed.tracks; runs = listed.runs; connections = listed.connections; settings = listed.settings }

  trial_listed : Listed wt
  trial_listed = record { times = listed.trial; ring = listed.work.ring; work = listed.work.work }

  pub opened : B.opened ≡ true
  opened = sym st.opened

  pub limits : Limits t B.register
  limits = same_limits t was B.register st.same st.stored.limits

  pub shared : RowsShared t was B.register
  shared = rows_shared t was B.register st.same

  kept : LimitsKept t
  kept = limits_kept_lem t

  pub long_was : length was.runs ≡ o.numbers.runs
  long_was = let f = st.stored.few_runs in let e = records.runs in length-take-le o.numbers.runs m.runs.now (omega arith)

  pub long_runs : length B.register.runs ≡ o.numbers.runs
  long_runs = ap length (sym st.same.runs) ∙ long_was

  pub open_passed : Passed (open_rows t before m.times.now)
  open_passed =
      let z = long_runs in
      let long_times : length m.times.now ≡ 1024 = listed.work.times in
      let shown : Shown t m.times.now (2 * o.numbers.runs) = record { each = λ v h. least_small t B.register limits laws (at t m.times.now) (st.shows opened) v (omega arith) } in
      ((λ no_lists. no_lists records), ((λ other. other long_times), ((λ no_store. no_store st.stored), ((λ none. none shown), tt))))

  pub off : (l : Lengths) → Listed l → Passed (open_call_rows t l before m.times.now)
  off l works = ((λ no_lists. no_lists works), open_passed)

  pub fronts_pass : (own : List Row) → Passed own → Passed (controlling t (sizes m work) B own)
  fronts_pass own p = ((λ e. false≢true (sym e ∙ opened)), ((λ no_lists. no_lists listed), p))

  pub fronts_first : (own : List Row) (n p : ℕ) → First own n p → First (controlling t (sizes m work) B own) n p
  fronts_first own n p f = inr ((λ e. false≢true (sym e ∙ opened)), inr ((λ no_lists. no_lists listed), f))

  -- a refused call leaves all as it was
  pub open_kept : (r' : Lists K) (times' : List K) → r' ≡ lists_held m → times' ≡ m.times.now → Stands t B (state_of (stage.Open o) r' times' m.slips.now)
  open_kept r' times' e f = subst (Stands t B) (same_state refl (sym e) (sym f) refl) st

  -- a memory with the same counts
  pub stored_by : (m' : Memory K) (R : Register K) → m'.track_count ≡ o.numbers.tracks → m'.run_count ≡ o.numbers.runs → m'.connection_count ≡ o.numbers.connections → Same t (register_of t m') R → Limits t R → Stored t m'
  stored_by m' R a b c same good = record {
    few_tracks = let f = st.stored.few_tracks in omega arith;
    few_runs = let f = st.stored.few_runs in omega arith;
    few_connections = let f = st.stored.few_connections in omega arith;
    limits = same_limits t R (register_of t m') (same_sym t _ _ same) good;
  }

  -- the open plan with another register, whose runs are held as they were
  pub open_stands : (r' : Lists K) (m' : Memory K) (times' : List K) (R : Register K) → memory o.numbers r' ≡ m' → Stored t m' → Same t (register_of t m') R → length R.runs ≡ length B.register.runs → ((r : ℕ) → (run_at t R.runs r).hold ≡ (run_at t B.register.runs r).hold) → Least t (in_force t R) (at t times') → Stands t (with_register B R) (state_of (stage.Open o) r' times' m.slips.now)
  open_stands r' m' times' R written stored same long holds least =
      let P : Memory K → Type 0 = λ x. Stored t x × Same t (register_of t x) R in
      let here : P (memory o.numbers r') = subst P (sym written) (stored, same) in
      record {
        number = st.number;
        opened = st.opened;
        stored = here.0;
        same = here.1;
        drafted = λ e. absurd (false≢true (sym e ∙ opened));
        shows = λ _. least;
        slips = st.slips;
        held = λ _ r h. (
            let was_held = st.held opened r (omega arith) in
            let P : Option K → Type 0 = Given in
            ((λ e. subst P (sym (holds r)) (was_held.0 e)), (λ given. was_held.1 (subst P (holds r) given))));
        own = λ r x e. (let w = st.own r x e in let z = w.2 in (w.0, w.1, omega arith));
      }

  pub turned_same : (s : Switch) (setting : ℕ) → Passed (turning_rows t was s setting) → Same t (register_of t (switch_memory t before s setting)) (set_switch B.register s setting)
  turned_same s setting fine = same_trans t _ _ _ ((steps_of t before st.stored records).switch s setting (setting_named t was s setting (turning_set t was s setting fine))) (set_switch_kept t was B.register st.same s setting)

  pub reported_same : (v : ℕ) (x : K) → Passed (report_rows t was v x) → Same t (register_of t (report_memory t before v x)) (report t B.register v x)
  reported_same v x fine =
      let long = long_was in
      let known = (report_passed t was v x fine).known in
      same_trans t _ _ _ ((steps_of t before st.stored records).report v x (omega arith)) (report_kept t was B.register st.same v x)

  module _ (ring : List ℕ) (trial : List K) where
    -- a call that reckons and is refused: its rows by register, what it was to put in force in memory and in the books
    pub control_refused : (l : Lengths) → Listed l → (c : Call K) (own : Register K → List Row) (R R' : Register K) → R' ≡ to_force t B c → call_rows t (sizes m work) B c ≡ controlling t (sizes m work) B (own B.register ++ ring_rows t R') → Matching (own was) (own B.register) → Under 12 (own was) → (Passed (own was) → Same t R R') → (X : Type 0) (f : PlanFault) (from to : List K)
        → Reckons t (open_call_rows t l before m.times.now ++ own was) R from to m.ring.now ring (failed X f) → Told t (sizes m work) B c (Err (fault.Plan f)) ring trial
    control_refused l works c own R R' is rows match under same X f from to k =
        let r = reckoned_refused t (open_call_rows t l before m.times.now) (own was) (own B.register) R R' (off l works) match same from to m.ring.now ring under X f k in
        let P : Register K → Type 0 = λ S. RingTold t S ring (Err (fault.Plan f)) in
        let Q : List Row → Type 0 = λ xs. First xs (plan_number f) (plan_place f) in
        record {
          answers = subst Q (sym rows) (fronts_first (own B.register ++ ring_rows t R') _ _ r.0);
          carried = tt;
          named = subst P is r.1;
        }

    module _ (r' : Lists K) (times' : List K) where
      pub report_step : (v : ℕ) (x : K) → Reckons t (open_call_rows t w before m.times.now ++ report_rows t was v x) (register_of t (report_memory t before v x)) m.times.now times' m.ring.now ring (took (Unit {0}) tt) → memory o.numbers r' ≡ report_memory t before v x
          → Told t (sizes m work) B (call.Report v x) (Ok answer.Done) ring trial × Stands t (taken t B (call.Report v x)) (state_of (stage.Open o) r' times' m.slips.now)
      report_step v x k written =
          let rows = open_call_rows t w before m.times.now in
          let fine = passed_back rows (report_rows t was v x) (passed_front (rows ++ report_rows t was v x) (ring_rows t (register_of t (report_memory t before v x))) k.answers) in
          let same = reported_same v x fine in
          let r = reckoned_taken t rows (report_rows t was v x) (report_rows t B.register v x) (register_of t (report_memory t before v x)) (report t B.register v x) (off w listed.work) (report_match t was B.register st.same v x) (λ _. same) m.times.now times' m.ring.now ring (Unit {0}) tt k in
          let good = (kept.steps B.register limits).reporting v x ((shared.report v x).passed fine) in (
            record { answers = fronts_pass (report_rows t B.register v x ++ ring_rows t (report t B.register v x)) r.0; carried = refl; named = tt },
            open_stands r' (report_memory t before v x) times' (report t B.register v x) written (stored_by (report_memory t before v x) (report t B.register v x) refl refl refl same good) same (length-set B.register.runs (v / 2) _) (run_kept t B.register.runs (v / 2) _ refl) r.1,
          )

      pub report_refused : (v : ℕ) (x : K) (f : PlanFault) → Reckons t (open_call_rows t w before m.times.now ++ report_rows t was v x) (register_of t (report_memory t before v x)) m.times.now times' m.ring.now ring (failed (Unit {0}) f) → r' ≡ lists_held m
          → Told t (sizes m work) B (call.Report v x) (Err (fault.Plan f)) ring trial × Stands t B (state_of (stage.Open o) r' times' m.slips.now)
      report_refused v x f k e =
          let own : Register K → List Row = λ R. report_rows t R v x in (
            control_refused w listed.work (call.Report v x) own (register_of t (report_memory t before v x)) (report t B.register v x) refl refl (report_match t was B.register st.same v x) (report_under t was v x) (reported_same v x) (Unit {0}) f m.times.now times' k,
            open_kept r' times' e k.shows,
          )

      pub turn_step : (s : Switch) (setting : ℕ) → Reckons t (open_call_rows t w before m.times.now ++ turning_rows t was s setting) (register_of t (switch_memory t before s setting)) m.times.now times' m.ring.now ring (took (Unit {0}) tt) → memory o.numbers r' ≡ switch_memory t before s setting
          → Told t (sizes m work) B (call.Turn s setting) (Ok answer.Done) ring trial × Stands t (taken t B (call.Turn s setting)) (state_of (stage.Open o) r' times' m.slips.now)
      turn_step s setting k written =
          let rows = open_call_rows t w before m.times.now in
          let fine = passed_back rows (turning_rows t was s setting) (passed_front (rows ++ turning_rows t was s setting) (ring_rows t (register_of t (switch_memory t before s setting))) k.answers) in
          let same = turned_same s setting fine in
          let r = reckoned_taken t rows (turning_rows t was s setting) (turning_rows t B.register s setting) (register_of t (switch_memory t before s setting)) (set_switch B.register s setting) (off w listed.work) (turning_match t was B.register st.same s setting) (λ _. same) m.times.now times' m.ring.now ring (Unit {0}) tt k in
          let good = (kept.steps B.register limits).turning s setting ((shared.turning s setting).passed fine) in
          let runs_same = switched_runs B.register s setting in (
            record { answers = fronts_pass (turning_rows t B.register s setting ++ ring_rows t (set_switch B.register s setting)) r.0; carried = refl; named = tt },
            open_stands r' (switch_memory t before s setting) times' (set_switch B.register s setting) written (stored_by (switch_memory t before s setting) (set_switch B.register s setting) refl refl refl same good) same (ap length runs_same) (λ i. ap (λ rs. (run_at t rs i).hold) runs_same) r.1,
          )

      pub turn_refused : (s : Switch) (setting : ℕ) (f : PlanFault) → Reckons t (open_call_rows t w before m.times.now ++ turning_rows t was s setting) (register_of t (switch_memory t before s setting)) m.times.now times' m.ring.now ring (failed (Unit {0}) f) → r' ≡ lists_held m
          → Told t (sizes m work) B (call.Turn s setting) (Err (fault.Plan f)) ring trial × Stands t B (state_of (stage.Open o) r' times' m.slips.now)
      turn_refused s setting f k e =
          let own : Register K → List Row = λ R. turning_rows t R s setting in (
            control_refused w listed.work (call.Turn s setting) own (register_of t (switch_memory t before s setting)) (set_switch B.register s setting) refl refl (turning_match t was B.register st.same s setting) (turning_under t was s setting) (turned_same s setting) (Unit {0}) f m.times.now times' k,
            open_kept r' times' e k.shows,
          )

    module _ (r' : Lists K) (s : Switch) (setting : ℕ) where
      pub trial_step : (n : ℕ) → Reckons t (open_call_rows t wt before m.times.now ++ turning_rows t was s setting) (register_of t (switch_memory t before s setting)) m.trial.now trial m.ring.now ring (took ℕ n) → n ≡ delay_cost_lem t (register_of t (switch_memory t before s setting)) (at t trial) → r' ≡ lists_held m
          → Told t (sizes m work) B (call.Trial s setting) (Ok (answer.Cost n)) ring trial × Stands t B (state_of (stage.Open o) r' m.times.now m.slips.now)
      trial_step n k cost e =
          let rows = open_call_rows t wt before m.times.now in
          let fine = passed_back rows (turning_rows t was s setting) (passed_front (rows ++ turning_rows t was s setting) (ring_rows t (register_of t (switch_memory t before s setting))) k.answers) in
          let same = turned_same s setting fine in
          let r = reckoned_taken t rows (turning_rows t was s setting) (turning_rows t B.register s setting) (register_of t (switch_memory t before s setting)) (set_switch B.register s setting) (off wt trial_listed) (turning_match t was B.register st.same s setting) (λ _. same) m.trial.now trial m.ring.now ring ℕ n k in (
            record {
              answers = fronts_pass (turning_rows t B.register s setting ++ ring_rows t (set_switch B.register s setting)) r.0;
              carried = (r.1, ap answer.Cost (cost ∙ (force_shared t (register_of t (switch_memory t before s setting)) (set_switch B.register s setting) same).cost (at t trial)));
              named = tt;
            },
            open_kept r' m.times.now e refl,
          )

      pub trial_refused : (f : PlanFault) → Reckons t (open_call_rows t wt before m.times.now ++ turning_rows t was s setting) (register_of t (switch_memory t before s setting)) m.trial.now trial m.ring.now ring (failed ℕ f) → r' ≡ lists_held m
          → Told t (sizes m work) B (call.Trial s setting) (Err (fault.Plan f)) ring trial × Stands t B (state_of (stage.Open o) r' m.times.now m.slips.now)
      trial_refused f k e =
          let own : Register K → List Row = λ R. turning_rows t R s setting in (
            control_refused wt trial_listed (call.Trial s setting) own (register_of t (switch_memory t before s setting)) (set_switch B.register s setting) refl refl (turning_match t was B.register st.same s setting) (turning_under t was s setting) (turned_same s setting) ℕ f m.trial.now trial k,
            open_kept r' m.times.now e refl,
          )

    -- the questions
    pub time_step : (v : ℕ) (y : K) → Passed (open_rows t before m.times.now ++ event_rows t was v) → y ≡ at t m.times.now v → Told t (sizes m work) B (call.Time v) (Ok (answer.Time y)) ring trial
    time_step v y passed e =
        record {
          answers = fronts_pass (event_rows t B.register v) ((shared.event v).passed (passed_back (open_rows t before m.times.now) (event_rows t was v) passed));
          carried = (at t m.times.now, st.shows opened, ap answer.Time e);
          named = tt;
        }

    pub time_refused : (v : ℕ) (f : PlanFault) → First (open_rows t before m.times.now ++ event_rows t was v) (plan_number f) (plan_place f) → Told t (sizes m work) B (call.Time v) (Err (fault.Plan f)) ring trial
    time_refused v f first =
        let own = first_behind (open_rows t before m.times.now) (event_rows t was v) _ _ open_passed first in
        record {
          answers = fronts_first (event_rows t B.register v) _ _ ((shared.event v).first _ _ own);
          carried = tt;
          named = none_told t B.register ring (event_rows t was v) (event_under t was v) f own;
        }

    pub cost_step : (n : ℕ) → n ≡ delay_cost_lem t was (at t m.times.now) → Told t (sizes m work) B call.Cost (Ok (answer.Cost n)) ring trial
    cost_step n e =
        record {
          answers = fronts_pass [] tt;
          carried = (at t m.times.now, st.shows opened, ap answer.Cost (e ∙ (force_shared t was B.register st.same).cost (at t m.times.now)));
          named = tt;
        }

    pub cost_refused : (f : PlanFault) → First (open_rows t before m.times.now) (plan_number f) (plan_place f) → ⊥
    cost_refused f first = first_not_passed (open_rows t before m.times.now) _ _ first open_passed

    pub setting_step : (s : Switch) (n : ℕ) → Passed (open_rows t before m.times.now ++ switch_rows t was s) → n ≡ setting_of t was s → Told t (sizes m work) B (call.Setting s) (Ok (answer.Setting n)) ring trial
    setting_step s n passed e =
        let own = passed_back (open_rows t before m.times.now) (switch_rows t was s) passed in
        record {
          answers = ((λ no_lists. no_lists listed), (shared.switch s).passed own);
          carried = ap answer.Setting (e ∙ setting_same t was B.register st.same s own);
          named = tt;
        }

    pub setting_refused : (s : Switch) (f : PlanFault) → First (open_rows t before m.times.now ++ switch_rows t was s) (plan_number f) (plan_place f) → Told t (sizes m work) B (call.Setting s) (Err (fault.Plan f)) ring trial
    setting_refused s f first =
        let own = first_behind (open_rows t before m.times.now) (switch_rows t was s) _ _ open_passed first in
        record {
          answers = inr ((λ no_lists. no_lists listed), (shared.switch s).first _ _ own);
          carried = tt;
          named = none_told t B.register ring (switch_rows t was s) (switch_under t was s) f own;
        }
