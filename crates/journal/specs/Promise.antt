-- What a plan promises of each answer, and of every list of calls. Assumes nothing.
use Rattle.std.specs.Prelude.{◌≡◌, ℕ, ◌<◌, Bool, true, false, List, [], ◌∷◌, map, length, take, is_some, Some, None, Ok, Err, slice_index_or}
use Rattle.kinds.specs.Time.{Time}
use Rattle.network.specs.declared.faults.NetworkFault.TheVariants as network
use Rattle.network.specs.Network.{Least, Names}
use Rattle.network.specs.Reckoning.{at}
use Rattle.network.specs.Refusals.{Answers}
use Rattle.records.specs.Records.{run_at}
use Rattle.records.specs.Register.{Register, Memory, register_of}
use Rattle.records.specs.Stored.{Stored, Drafted}
use Rattle.force.specs.Constraints.{in_force, arcs_in_force}
use Rattle.cost.specs.Cost.{delay_cost_lem}
use Rattle.rules.specs.declared.faults.PlanFault.TheVariants as refused
use Rattle.rules.specs.Rows.{Given, setting_of}
use Rattle.plan.specs.declared.states.Slip.{Slip}
use Rattle.plan.specs.declared.states.Numbers.{Numbers}
use Rattle.plan.specs.States.{memory}
use Rattle.registers.specs.Steps.{Same, set_switch}
use Rattle.journal.specs.declared.calls.Call.{Call}
use Rattle.journal.specs.declared.calls.Call.TheVariants as call
use Rattle.journal.specs.declared.calls.Answer.{Answer}
use Rattle.journal.specs.declared.calls.Answer.TheVariants as answer
use Rattle.journal.specs.declared.calls.CallFault.TheVariants as fault
use Rattle.journal.specs.declared.calls.Line.{Line}
use Rattle.journal.specs.declared.calls.Plan.{Plan}
use Rattle.journal.specs.declared.calls.Plan.TheVariants as plan
use Rattle.journal.specs.Faults.{call_number, call_place}
use Rattle.journal.specs.Books.{Books, Reply, taken, after, registered}
use Rattle.journal.specs.Memories.{Sizes, State}
use Rattle.journal.specs.Rows.{call_rows}

abbrev pub numbers_in : Plan → Numbers
numbers_in (plan.Draft d) = d.numbers
numbers_in (plan.Open o) = o.numbers

abbrev pub opened_in : Plan → Bool
opened_in (plan.Draft d) = false
opened_in (plan.Open o) = true

module _ {K : Type 0} where
  abbrev pub memory_of : State K → Memory K
  memory_of s = memory (numbers_in s.plan) s.records

  module _ (t : Time K) where
    -- What a taken call answers. A trial's times stand in trial memory.
    abbrev pub Carries : Books K → Call K → Answer K → List K → Type 0
    Carries B (call.Track x) a trial = a ≡ answer.Number (length B.register.tracks)
    Carries B (call.Run x) a trial = a ≡ answer.Number (length B.register.runs)
    Carries B (call.Connection x) a trial = a ≡ answer.Number (length B.register.connections)
    Carries B (call.Trial s setting) a trial = Least t (in_force t (set_switch B.register s setting)) (at t trial) × (a ≡ answer.Cost (delay_cost_lem t (set_switch B.register s setting) (at t trial)))
    Carries B (call.Time v) a trial = (time : ℕ → K) × Least t (in_force t B.register) time × (a ≡ answer.Time (time v))
    Carries B (call.Setting s) a trial = a ≡ answer.Setting (setting_of t B.register s)
    Carries B call.Cost a trial = (time : ℕ → K) × Least t (in_force t B.register) time × (a ≡ answer.Cost (delay_cost_lem t B.register time))
    Carries B _ a trial = a ≡ answer.Done

    abbrev pub Carried : Books K → Call K → Reply K → List K → Type 0
    Carried B c (Ok a) trial = Carries B c a trial
    Carried B c (Err f) trial = Unit {0}

    -- the register that a call puts in force, a trial with its setting changed
    abbrev pub to_force : Books K → Call K → Register K
    to_force B (call.Trial s setting) = set_switch B.register s setting
    to_force B c = (taken t B c).register

    -- a ring that is told is one of what the call was to put in force
    abbrev pub RingTold : Register K → List ℕ → Reply K → Type 0
    RingTold R ring (Err (fault.Plan (refused.Network (network.Ring count)))) = Names t (arcs_in_force t R) (take count ring)
    RingTold R ring _ = Unit {0}

    -- a reply tells the truth of the books
    pub record Told (l : Sizes) (B : Books K) (c : Call K) (r : Reply K) (ring : List ℕ) (trial : List K) : Type 0 where
      pub answers : Answers call_number call_place (call_rows t l B c) r
      pub carried : Carried B c r trial
      pub named : RingTold (to_force B c) ring r

    -- The memories keep the books; an open plan shows the least times of what is in force; and a slip is kept just for each run that is
    -- held.
    pub record Stands (B : Books K) (s : State K) : Type 0 where
      pub number : (numbers_in s.plan).number ≡ B.number
      pub opened : opened_in s.plan ≡ B.opened
      pub stored : Stored t (memory_of s)
      pub same : Same t (register_of t (memory_of s)) B.register
      pub drafted : B.opened ≡ false → Drafted t B.register × ((r : ℕ) → slice_index_or B.slips r false ≡ false)
      pub shows : B.opened ≡ true → Least t (in_force t B.register) (at t s.times)
      pub slips : map is_some s.slips ≡ B.slips
      pub held : B.opened ≡ true → (r : ℕ) → r < length B.register.runs → (slice_index_or B.slips r false ≡ true → Given (run_at t B.register.runs r).hold) × (Given (run_at t B.register.runs r).hold → slice_index_or B.slips r false ≡ true)
      pub own : (r : ℕ) (x : Slip) → slice_index_or s.slips r None ≡ Some x → (x.plan ≡ B.number) × (x.run ≡ r) × (r < length B.register.runs)

    -- one call, taken or refused: whatever books the memories stand for, the reply tells the truth of them, and the memories then stand
    -- for the books after it
    abbrev pub Step : Sizes → State K → Call K → Reply K → List ℕ → List K → State K → Type 0
    Step l s c r ring trial s' = (B : Books K) → Stands B s → Told l B c r ring trial × Stands (after t B c r) s'

    -- every reply of a journal tells the truth of the books as they stood before its call, with what ring and trial memory then held
    abbrev pub ToldAll : Sizes → Books K → List (Line K) → Type 0
    ToldAll l B [] = Unit {0}
    ToldAll l B (x ∷ xs) = ((ring : List ℕ) × ((trial : List K) × Told l B x.call x.reply ring trial)) × ToldAll l (after t B x.call x.reply) xs

    -- a whole list of calls, taken or refused: whatever books the memories stood for, every reply tells the truth, and the memories then
    -- stand for the books after all of them
    abbrev pub Steps : Sizes → State K → List (Line K) → State K → Type 0
    Steps l s lines s' = (B : Books K) → Stands B s → ToldAll l B lines × Stands (registered t B lines) s'

  abbrev pub call_of : Line K → Call K
  call_of x = x.call
