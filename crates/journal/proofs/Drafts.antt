-- The calls on a draft as steps from books to books.
use Rattle.std.proofs.Common.{◌≡◌, ℕ, ◌+◌, ◌<◌, ◌≤◌, false, List, ◌++◌, length, take, Ok, Err, sym, refl, ap, ◌∙◌, subst, inr, arith, drop, replicate, inl, length-set, length-append, length-drop}
use Rattle.std.proofs.lemmas.Bool.{false≢true, cases_eq}
use Rattle.std.proofs.lemmas.List.{length-take-le, length_push, length-replicate}
use Rattle.kinds.specs.Time.{Time}
use Rattle.network.specs.Refusals.{Row, Passed, First}
use Rattle.network.proofs.Refusals.{Under}
use Rattle.records.specs.declared.Track.{Track}
use Rattle.records.specs.declared.Run.{Run}
use Rattle.records.specs.declared.Connection.{Connection}
use Rattle.records.specs.Lent.{Lists}
use Rattle.records.specs.Register.{Register, Memory, register_of}
use Rattle.records.specs.Stored.{Stored, Limits, Drafted}
use Rattle.force.specs.declared.work.Work.{Work}
use Rattle.rules.specs.declared.faults.PlanFault.{PlanFault}
use Rattle.rules.specs.declared.switches.Switch.{Switch}
use Rattle.rules.specs.declared.switches.Switch.TheVariants as switch
use Rattle.rules.specs.Faults.{plan_number, plan_place}
use Rattle.rules.specs.Rows.{RecordsListed, draft_rows, track_rows, run_rows, connection_rows, setting_rows, switch_rows, setting_of}
use Rattle.rules.proofs.Rows.{passed_back, track_passed, run_passed, connection_passed, setting_named}
use Rattle.plan.specs.declared.states.Draft.{Draft}
use Rattle.plan.specs.States.{memory}
use Rattle.plan.specs.Steps.{unused, cleared, orders_entered, orders_added, track_memory, run_memory, connection_memory, switch_memory}
use Rattle.plan.specs.Drafting.{track_call_rows, run_call_rows, connection_call_rows, preset_call_rows, setting_call_rows}
use Rattle.registers.specs.Steps.{Same, enter_track, enter_run, enter_connection, set_switch}
use Rattle.registers.specs.Rows.{Answered, RowsShared}
use Rattle.registers.specs.Stays.{LimitsKept}
use Rattle.registers.proofs.Sames.{same_sym, same_trans}
use Rattle.registers.proofs.Matches.{first_behind}
use Rattle.registers.proofs.Kept.{enter_track_kept, enter_run_kept, enter_connection_kept, set_switch_kept}
use Rattle.registers.proofs.Agrees.{orders_counted, steps_of}
use Rattle.registers.proofs.Forces.{force_shared, same_limits}
use Rattle.registers.proofs.Rows.{rows_shared, setting_same}
use Rattle.registers.proofs.Stays.{limits_kept_lem}
use Rattle.journal.specs.declared.calls.Call.{Call}
use Rattle.journal.specs.declared.calls.Call.TheVariants as call
use Rattle.journal.specs.declared.calls.Answer.{Answer}
use Rattle.journal.specs.declared.calls.Answer.TheVariants as answer
use Rattle.journal.specs.declared.calls.CallFault.TheVariants as fault
use Rattle.journal.specs.declared.calls.Plan.TheVariants as stage
use Rattle.journal.specs.declared.memories.Memories.{Memories}
use Rattle.journal.specs.Books.{Books, with_register, taken}
use Rattle.journal.specs.Memories.{AllListed, MemoryLengths, sizes, lists_held, memory_lengths, state}
use Rattle.journal.specs.Rows.{drafting, call_rows}
use Rattle.journal.specs.Promise.{Stands, Told, Carries, to_force}
use Rattle.journal.proofs.Rules.{track_under, run_under, connection_under, setting_under, switch_under}
use Rattle.journal.proofs.States.{state_of, same_state}
use Rattle.journal.proofs.Told.{none_told}

-- equal lists of rows
first_at : (xs ys : List Row) → xs ≡ ys → (n p : ℕ) → First xs n p → First ys n p
first_at xs ys e n p h = subst (λ rows. First rows n p) e h

passed_at : (xs ys : List Row) → xs ≡ ys → Passed xs → Passed ys
passed_at xs ys e h = subst Passed e h

length_cleared : (xs : List ℕ) (a k : ℕ) → a + k ≤ length xs → length (cleared xs a k) ≡ length xs
length_cleared xs a k h =
    let e = length-append (take a xs) (replicate k 0 ++ drop (a + k) xs) in
    let f = length-append (replicate k 0) (drop (a + k) xs) in
    let i = length-take-le a xs (omega arith) in
    let j = length-replicate {A = ℕ} k 0 in
    let l = length-drop (a + k) xs in
    omega arith

same_lengths : {a b c d e f g h a' b' c' d' : ℕ} → a ≡ a' → b ≡ b' → c ≡ c' → d ≡ d' → ◌≡◌ {A = MemoryLengths} (record { tracks = a; runs = b; connections = c; settings = d; times = e; trial = f; ring = g; slips = h }) (record { tracks = a'; runs = b'; connections = c'; settings = d'; times = e; trial = f; ring = g; slips = h })
same_lengths p q r s = cc

-- entering a run leaves the memories as long as they were: the bytes that it clears lie among the settings
pub run_long : {K : Type 0} (t : Time K) (d d' : Draft) (m : Memories K) (r' : Lists K) (x : Run K) → RecordsListed (memory d.numbers (lists_held m)) → Passed (run_call_rows t (memory d.numbers (lists_held m)) x) → memory d'.numbers r' ≡ run_memory t (memory d.numbers (lists_held m)) x
    → ◌≡◌ {A = MemoryLengths} (record { tracks = length r'.tracks; runs = length r'.runs; connections = length r'.connections; settings = length r'.settings; times = length m.times.now; trial = length m.trial.now; ring = length m.ring.now; slips = length m.slips.now }) (memory_lengths m)
run_long {K} t d d' m r' x records passed written =
    let before : Memory K = memory d.numbers (lists_held m) in
    let was : Register K = register_of t before in
    let own = run_passed t was x (passed_back (draft_rows t before) (run_rows t was x) passed) in
    let bytes : length (cleared m.settings.now (orders_entered t before) (orders_added t before x.track)) ≡ length m.settings.now =
    elim (cases_eq (length (cleared m.settings.now (orders_entered t before) (orders_added t before x.track))) (length m.settings.now)) [
      | inl e ↦ e
      | inr ne ↦ absurd (passed.1.0 (λ stored. ne (length_cleared m.settings.now (orders_entered t before) (orders_added t before x.track) (omega (arith, orders_counted t before stored records x.track, own.orders, records.settings)))))
    ] in
    same_lengths
    (ap (λ (y : Memory K). length y.tracks) written)
    (ap (λ (y : Memory K). length y.runs) written ∙ length-set m.runs.now d.numbers.runs (unused x))
    (ap (λ (y : Memory K). length y.connections) written)
    (ap (λ (y : Memory K). length y.settings) written ∙ bytes)

module _ {K : Type 0} (t : Time K) (d : Draft) (m : Memories K) (work : Work K) (listed : AllListed (sizes m work)) (B : Books K) (st : Stands t B (state (stage.Draft d) m)) where
  abbrev before : Memory K
  before = memory d.numbers (lists_held m)

  abbrev was : Register K
  was = register_of t before

  records : RecordsListed before
  records = record { tracks = listed.tracks; runs = listed.runs; connections = listed.connections; settings = listed.settings }

  pub draft_closed : B.opened ≡ false
  draft_closed = sym st.opened

  -- nothing that every call on a draft refuses applies
  pub draft_passed : Passed (draft_rows t before)
  draft_passed = ((λ no_lists. no_lists records), ((λ no_store. no_store st.stored), ((λ no_draft. no_draft ((force_shared t B.register was (same_sym t _ _ st.same)).drafted (st.drafted draft_closed).0)), tt)))

  -- the rows of the list in front of the call's own
  pub fronts_pass : (own : List Row) → Passed own → Passed (drafting t (sizes m work) B own)
  fronts_pass own p = ((λ e. false≢true (sym draft_closed ∙ e)), ((λ no_lists. no_lists listed), p))

  pub fronts_first : (own : List Row) (n p : ℕ) → First own n p → First (drafting t (sizes m work) B own) n p
  fronts_first own n p f = inr ((λ e. false≢true (sym draft_closed ∙ e)), inr ((λ no_lists. no_lists listed), f))

  -- a refused call leaves all as it was
  pub draft_kept : (d' : Draft) (r' : Lists K) → d' ≡ d → r' ≡ lists_held m → Stands t B (state_of (stage.Draft d') r' m.times.now m.slips.now)
  draft_kept d' r' e f = subst (Stands t B) (same_state (ap stage.Draft (sym e)) (sym f) refl refl) st

  limits : Limits t B.register
  limits = same_limits t was B.register st.same st.stored.limits

  drafted : Drafted t B.register
  drafted = (st.drafted draft_closed).0

  shared : RowsShared t was B.register
  shared = rows_shared t was B.register st.same

  kept : LimitsKept t
  kept = limits_kept_lem t

  -- the draft with other records stands for the books with another register
  pub draft_stands : (d' : Draft) (r' : Lists K) (m' : Memory K) (R : Register K) → memory d'.numbers r' ≡ m' → d'.numbers.number ≡ d.numbers.number
      → m'.track_count ≤ 64 → m'.run_count ≤ 512 → m'.connection_count ≤ 512 → Same t (register_of t m') R → Limits t R → Drafted t R → ((r : ℕ) → r < length B.register.runs → r < length R.runs)
      → Stands t (with_register B R) (state_of (stage.Draft d') r' m.times.now m.slips.now)
  draft_stands d' r' m' R written number a b c same good fresh grows =
      let stored : Stored t m' = record { few_tracks = a; few_runs = b; few_connections = c; limits = same_limits t R (register_of t m') (same_sym t _ _ same) good } in
      let P : Memory K → Type 0 = λ x. Stored t x × Same t (register_of t x) R in
      let here : P (memory d'.numbers r') = subst P (sym written) (stored, same) in
      record {
        number = number ∙ st.number;
        opened = st.opened;
        stored = here.0;
        same = here.1;
        drafted = λ _. (fresh, (st.drafted draft_closed).1);
        shows = λ e. absurd (false≢true (sym draft_closed ∙ e));
        slips = st.slips;
        held = λ e. absurd (false≢true (sym draft_closed ∙ e));
        own = λ r x e. (let o = st.own r x e in (o.0, o.1, grows r o.2));
      }

  long_tracks : length B.register.tracks ≡ d.numbers.tracks
  long_tracks = let f = st.stored.few_tracks in let e = records.tracks in ap length (sym st.same.tracks) ∙ length-take-le d.numbers.tracks m.tracks.now (omega arith)

  long_was : length was.runs ≡ d.numbers.runs
  long_was = let f = st.stored.few_runs in let e = records.runs in length-take-le d.numbers.runs m.runs.now (omega arith)

  long_runs : length B.register.runs ≡ d.numbers.runs
  long_runs = ap length (sym st.same.runs) ∙ long_was

  long_connections : length B.register.connections ≡ d.numbers.connections
  long_connections = let f = st.stored.few_connections in let e = records.connections in ap length (sym st.same.connections) ∙ length-take-le d.numbers.connections m.connections.now (omega arith)

  module _ (ring : List ℕ) (trial : List K) where
    -- a refused call: own are the rows of the call, by register
    pub draft_refused : (c : Call K) (own : Register K → List Row) → call_rows t (sizes m work) B c ≡ drafting t (sizes m work) B (own B.register) → Answered (own was) (own B.register) → Under 12 (own was) → (f : PlanFault) → First (draft_rows t before ++ own was) (plan_number f) (plan_place f) → Told t (sizes m work) B c (Err (fault.Plan f)) ring trial
    draft_refused c own is same_answer under f first =
        let here = first_behind (draft_rows t before) (own was) _ _ draft_passed first in
        record {
          answers = first_at (drafting t (sizes m work) B (own B.register)) (call_rows t (sizes m work) B c) (sym is) _ _ (fronts_first (own B.register) (plan_number f) (plan_place f) (same_answer.first (plan_number f) (plan_place f) here));
          carried = tt;
          named = none_told t (to_force t B c) ring (own was) under f here;
        }

    pub own_passed : (own : Register K → List Row) → Answered (own was) (own B.register) → Passed (draft_rows t before ++ own was) → Passed (own B.register)
    own_passed own same_answer passed = same_answer.passed (passed_back (draft_rows t before) (own was) passed)

    -- a taken call
    pub draft_taken : (c : Call K) (own : Register K → List Row) → call_rows t (sizes m work) B c ≡ drafting t (sizes m work) B (own B.register) → Answered (own was) (own B.register) → (a : Answer K) → Carries t B c a trial → Passed (draft_rows t before ++ own was) → Told t (sizes m work) B c (Ok a) ring trial
    draft_taken c own is same_answer a carried passed = record {
      answers = passed_at (drafting t (sizes m work) B (own B.register)) (call_rows t (sizes m work) B c) (sym is) (fronts_pass (own B.register) (own_passed own same_answer passed));
      carried = carried;
      named = tt;
    }

    module _ (d' : Draft) (r' : Lists K) where
      pub track_step : (x : Track K) (n : ℕ) → Passed (track_call_rows t before x) → (n ≡ d.numbers.tracks) × (memory d'.numbers r' ≡ track_memory before x) → d'.numbers.number ≡ d.numbers.number
          → Told t (sizes m work) B (call.Track x) (Ok (answer.Number n)) ring trial × Stands t (taken t B (call.Track x)) (state_of (stage.Draft d') r' m.times.now m.slips.now)
      track_step x n passed e number =
          let own : Register K → List Row = λ R. track_rows t R x in
          let here = own_passed own (shared.track x) passed in
          let room = track_passed t B.register x here in
          let z = long_tracks in
          let same : Same t (register_of t (track_memory before x)) (enter_track B.register x) = same_trans t _ _ _ ((steps_of t before st.stored records).track x (omega (arith, room.1))) (enter_track_kept t was B.register st.same x) in (
            draft_taken (call.Track x) own refl (shared.track x) (answer.Number n) (ap answer.Number (e.0 ∙ sym z)) passed,
            draft_stands d' r' (track_memory before x) (enter_track B.register x) e.1 number (omega (arith, room.1)) st.stored.few_runs st.stored.few_connections same ((kept.steps B.register limits).track x here) ((kept.drafted B.register drafted).track x) (λ r h. h),
          )

      pub track_refused : (x : Track K) (f : PlanFault) → First (track_call_rows t before x) (plan_number f) (plan_place f) → (d' ≡ d) × (r' ≡ lists_held m)
          → Told t (sizes m work) B (call.Track x) (Err (fault.Plan f)) ring trial × Stands t B (state_of (stage.Draft d') r' m.times.now m.slips.now)
      track_refused x f first e =
          let own : Register K → List Row = λ R. track_rows t R x in
          (draft_refused (call.Track x) own refl (shared.track x) (track_under t was x) f first, draft_kept d' r' e.0 e.1)

      pub run_step : (x : Run K) (n : ℕ) → Passed (run_call_rows t before x) → (n ≡ d.numbers.runs) × (memory d'.numbers r' ≡ run_memory t before x) → d'.numbers.number ≡ d.numbers.number
          → Told t (sizes m work) B (call.Run x) (Ok (answer.Number n)) ring trial × Stands t (taken t B (call.Run x)) (state_of (stage.Draft d') r' m.times.now m.slips.now)
      run_step x n passed e number =
          let own : Register K → List Row = λ R. run_rows t R x in
          let here = own_passed own (shared.run x) passed in
          let there = run_passed t was x (passed_back (draft_rows t before) (own was) passed) in
          let room = there.room in
          let z = long_runs in
          let y = long_was in
          let counted = orders_counted t before st.stored records x.track in
          let agrees = (steps_of t before st.stored records).run x (omega arith) (omega (arith, there.orders)) in
          let same : Same t (register_of t (run_memory t before x)) (enter_run B.register x) = same_trans t _ _ _ agrees (enter_run_kept t was B.register st.same x) in (
            draft_taken (call.Run x) own refl (shared.run x) (answer.Number n) (ap answer.Number (e.0 ∙ sym z)) passed,
            draft_stands d' r' (run_memory t before x) (enter_run B.register x) e.1 number st.stored.few_tracks (omega arith) st.stored.few_connections same ((kept.steps B.register limits).run x here) ((kept.drafted B.register drafted).run x) (λ r h. omega (arith, length_push B.register.runs (unused x))),
          )

      pub run_refused : (x : Run K) (f : PlanFault) → First (run_call_rows t before x) (plan_number f) (plan_place f) → (d' ≡ d) × (r' ≡ lists_held m)
          → Told t (sizes m work) B (call.Run x) (Err (fault.Plan f)) ring trial × Stands t B (state_of (stage.Draft d') r' m.times.now m.slips.now)
      run_refused x f first e =
          let own : Register K → List Row = λ R. run_rows t R x in
          (draft_refused (call.Run x) own refl (shared.run x) (run_under t was x) f first, draft_kept d' r' e.0 e.1)

      pub connection_step : (x : Connection K) (n : ℕ) → Passed (connection_call_rows t before x) → (n ≡ d.numbers.connections) × (memory d'.numbers r' ≡ connection_memory before x) → d'.numbers.number ≡ d.numbers.number
          → Told t (sizes m work) B (call.Connection x) (Ok (answer.Number n)) ring trial × Stands t (taken t B (call.Connection x)) (state_of (stage.Draft d') r' m.times.now m.slips.now)
      connection_step x n passed e number =
          let own : Register K → List Row = λ R. connection_rows t R x in
          let here = own_passed own (shared.connection x) passed in
          let room = connection_passed t B.register x here in
          let z = long_connections in
          let same : Same t (register_of t (connection_memory before x)) (enter_connection B.register x) = same_trans t _ _ _ ((steps_of t before st.stored records).connection x (omega (arith, room.1))) (enter_connection_kept t was B.register st.same x) in (
            draft_taken (call.Connection x) own refl (shared.connection x) (answer.Number n) (ap answer.Number (e.0 ∙ sym z)) passed,
            draft_stands d' r' (connection_memory before x) (enter_connection B.register x) e.1 number st.stored.few_tracks st.stored.few_runs (omega (arith, room.1)) same ((kept.steps B.register limits).connection x here) ((kept.drafted B.register drafted).connection x) (λ r h. h),
          )

      pub connection_refused : (x : Connection K) (f : PlanFault) → First (connection_call_rows t before x) (plan_number f) (plan_place f) → (d' ≡ d) × (r' ≡ lists_held m)
          → Told t (sizes m work) B (call.Connection x) (Err (fault.Plan f)) ring trial × Stands t B (state_of (stage.Draft d') r' m.times.now m.slips.now)
      connection_refused x f first e =
          let own : Register K → List Row = λ R. connection_rows t R x in
          (draft_refused (call.Connection x) own refl (shared.connection x) (connection_under t was x) f first, draft_kept d' r' e.0 e.1)

    module _ (r' : Lists K) (s : Switch) where
      pub preset_step : (setting : ℕ) → Passed (preset_call_rows t before s setting) → memory d.numbers r' ≡ switch_memory t before s setting
          → Told t (sizes m work) B (call.Preset s setting) (Ok answer.Done) ring trial × Stands t (taken t B (call.Preset s setting)) (state_of (stage.Draft d) r' m.times.now m.slips.now)
      preset_step setting passed e =
          let own : Register K → List Row = λ R. setting_rows t R s setting in
          let here = own_passed own (shared.setting s setting) passed in
          let known = setting_named t was s setting (passed_back (draft_rows t before) (own was) passed) in
          let same : Same t (register_of t (switch_memory t before s setting)) (set_switch B.register s setting) = same_trans t _ _ _ ((steps_of t before st.stored records).switch s setting known) (set_switch_kept t was B.register st.same s setting) in (
            draft_taken (call.Preset s setting) own refl (shared.setting s setting) answer.Done refl passed,
            draft_stands d r' (switch_memory t before s setting) (set_switch B.register s setting) e refl st.stored.few_tracks st.stored.few_runs st.stored.few_connections same ((kept.steps B.register limits).setting s setting here) ((kept.drafted B.register drafted).switch s setting) (set_runs s),
          )
        where
          set_runs : (s : Switch) (r : ℕ) → r < length B.register.runs → r < length (set_switch B.register s setting).runs
          set_runs (switch.Order i j) r h = h
          set_runs (switch.Connection c) r h = h

      pub preset_refused : (setting : ℕ) (f : PlanFault) → First (preset_call_rows t before s setting) (plan_number f) (plan_place f) → r' ≡ lists_held m
          → Told t (sizes m work) B (call.Preset s setting) (Err (fault.Plan f)) ring trial × Stands t B (state_of (stage.Draft d) r' m.times.now m.slips.now)
      preset_refused setting f first e =
          let own : Register K → List Row = λ R. setting_rows t R s setting in
          (draft_refused (call.Preset s setting) own refl (shared.setting s setting) (setting_under t was s setting) f first, draft_kept d r' refl e)

    pub setting_step : (s : Switch) (n : ℕ) → Passed (setting_call_rows t before s) → n ≡ setting_of t was s → Told t (sizes m work) B (call.Setting s) (Ok (answer.Setting n)) ring trial
    setting_step s n passed e =
        let own = passed_back (draft_rows t before) (switch_rows t was s) passed in
        record {
          answers = ((λ no_lists. no_lists listed), (shared.switch s).passed own);
          carried = ap answer.Setting (e ∙ setting_same t was B.register st.same s own);
          named = tt;
        }

    pub setting_refused : (s : Switch) (f : PlanFault) → First (setting_call_rows t before s) (plan_number f) (plan_place f) → Told t (sizes m work) B (call.Setting s) (Err (fault.Plan f)) ring trial
    setting_refused s f first =
        let own = first_behind (draft_rows t before) (switch_rows t was s) _ _ draft_passed first in
        record {
          answers = inr ((λ no_lists. no_lists listed), (shared.switch s).first _ _ own);
          carried = tt;
          named = none_told t B.register ring (switch_rows t was s) (switch_under t was s) f own;
        }
