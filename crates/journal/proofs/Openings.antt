-- Opening a draft as a step from books to books.
use Rattle.std.proofs.Common.{◌≡◌, ℕ, ◌<◌, true, false, List, [], length, get_or, Ok, Err, Option, sym, refl, ap, ◌∙◌, subst}
use Rattle.std.proofs.lemmas.Bool.{false≢true}
use Rattle.kinds.specs.Time.{Time}
use Rattle.network.specs.Refusals.{Passed}
use Rattle.records.specs.Records.{run_at}
use Rattle.records.specs.Register.{Register, Memory, register_of}
use Rattle.force.specs.declared.work.Work.{Work}
use Rattle.force.specs.Work.{work_lengths}
use Rattle.rules.specs.declared.faults.PlanFault.{PlanFault}
use Rattle.rules.specs.Rows.{Given}
use Rattle.plan.specs.declared.states.Draft.{Draft}
use Rattle.plan.specs.declared.states.Numbers.{Numbers}
use Rattle.plan.specs.declared.states.Open.{Open}
use Rattle.plan.specs.States.{memory}
use Rattle.plan.specs.Calls.{Lengths, lengths, opening_rows, ring_rows, Reckons}
use Rattle.plan.proofs.Reckoned.{failed, taken as took}
use Rattle.journal.specs.declared.calls.Call.TheVariants as call
use Rattle.journal.specs.declared.calls.Answer.TheVariants as answer
use Rattle.journal.specs.declared.calls.CallFault.TheVariants as fault
use Rattle.journal.specs.declared.calls.Plan.TheVariants as stage
use Rattle.journal.specs.declared.memories.Memories.{Memories}
use Rattle.journal.specs.Books.{Books, taken}
use Rattle.journal.specs.Memories.{AllListed, sizes, lists_held, state}
use Rattle.journal.specs.Promise.{Stands, Told}
use Rattle.journal.proofs.States.{state_of, same_state}
use Rattle.journal.proofs.Drafts.{draft_closed, draft_passed, fronts_pass, fronts_first}
use Rattle.journal.proofs.Reckonings.{reckoned_taken, reckoned_refused}

module _ {K : Type 0} (t : Time K) (d : Draft) (m : Memories K) (work : Work K) (listed : AllListed (sizes m work)) (B : Books K) (st : Stands t B (state (stage.Draft d) m)) (times : List K) (ring : List ℕ) (trial : List K) where
  abbrev before : Memory K
  before = memory d.numbers (lists_held m)

  abbrev was : Register K
  was = register_of t before

  abbrev w : Lengths
  w = lengths (length m.times.now) (length m.ring.now) (work_lengths work)

  off : Passed (opening_rows t w before)
  off = ((λ no_lists. no_lists listed.work), draft_passed t d m work listed B st)

  closed : B.opened ≡ false
  closed = draft_closed t d m work listed B st

  -- a draft holds no run
  free : (r : ℕ) → r < length B.register.runs → (get_or B.slips r false ≡ true → Given (run_at t B.register.runs r).hold) × (Given (run_at t B.register.runs r).hold → get_or B.slips r false ≡ true)
  free r h =
      let none = ((st.drafted closed).0.each r h).1.1 in
      let P : Option K → Type 0 = λ o. Given o → ⊥ in
      ((λ e. absurd (false≢true (sym ((st.drafted closed).1 r) ∙ e))), (λ given. absurd (subst P (sym none) (λ x. x) given)))

  pub open_taken : (o : Open) → o.numbers ≡ d.numbers → Reckons t (opening_rows t w before) was m.times.now times m.ring.now ring (took Open o) → Told t (sizes m work) B call.Open (Ok answer.Done) ring trial × Stands t (taken t B call.Open) (state_of (stage.Open o) (lists_held m) times m.slips.now)
  open_taken o is k =
      let r = reckoned_taken t (opening_rows t w before) [] [] was B.register off tt (λ _. st.same) m.times.now times m.ring.now ring Open o k in
      let P : Numbers → Type 0 = λ n. Stands t (taken t B call.Open) (state_of (stage.Open (record { numbers = n })) (lists_held m) times m.slips.now) in (
        record {
          answers = fronts_pass t d m work listed B st (ring_rows t B.register) r.0;
          carried = refl;
          named = tt;
        },
        subst P (sym is) (record {
          number = st.number;
          opened = refl;
          stored = st.stored;
          same = st.same;
          drafted = λ e. absurd (false≢true (sym e));
          shows = λ _. r.1;
          slips = st.slips;
          held = λ _. free;
          own = st.own;
        }),
      )

  pub open_refused : (d' : Draft) (f : PlanFault) → d' ≡ d → Reckons t (opening_rows t w before) was m.times.now times m.ring.now ring (failed Open f) → Told t (sizes m work) B call.Open (Err (fault.Plan f)) ring trial × Stands t B (state_of (stage.Draft d') (lists_held m) times m.slips.now)
  open_refused d' f is k =
      let r = reckoned_refused t (opening_rows t w before) [] [] was B.register off tt (λ _. st.same) m.times.now times m.ring.now ring tt Open f k in (
        record {
          answers = fronts_first t d m work listed B st (ring_rows t B.register) _ _ r.0;
          carried = tt;
          named = r.1;
        },
        subst (Stands t B) (same_state (ap stage.Draft (sym is)) refl (sym k.shows) refl) st,
      )
