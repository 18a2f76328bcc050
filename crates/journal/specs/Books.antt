-- The books of a plan: what its calls said, folded from the calls and from which of them were taken. They look at no memory.
-- Assumes nothing.
use Rattle.std.specs.Prelude.{ℕ, Bool, true, false, List, [], ◌∷◌, replicate, Some, None, Ok, Err, Result, slice_set}
use Rattle.kinds.specs.Time.{Time}
use Rattle.records.specs.Register.{Register}
use Rattle.registers.specs.Steps.{empty, enter_track, enter_run, enter_connection, set_switch, report, hold}
use Rattle.journal.specs.declared.calls.Call.{Call}
use Rattle.journal.specs.declared.calls.Call.TheVariants as call
use Rattle.journal.specs.declared.calls.Answer.{Answer}
use Rattle.journal.specs.declared.calls.CallFault.{CallFault}
use Rattle.journal.specs.declared.calls.Line.{Line}

-- a plan's number, whether it is open, its register, and the runs whose slip is kept
pub record Books (K : Type 0) : Type 0 where
  pub number : ℕ
  pub opened : Bool
  pub register : Register K
  pub slips : List Bool

-- an answer, or the fault of a refusal
abbrev pub Reply : Type 0 → Type 0
Reply K = Result (Answer K) CallFault

module _ {K : Type 0} where
  -- a newly made plan, with so many slots for slips, all empty
  abbrev pub new : ℕ → ℕ → Books K
  new number slots = record { number = number; opened = false; register = empty; slips = replicate slots false }

  abbrev pub with_register : Books K → Register K → Books K
  with_register B R = record { number = B.number; opened = B.opened; register = R; slips = B.slips }

  module _ (t : Time K) where
    -- the books as they would stand if the call were taken
    abbrev pub taken : Books K → Call K → Books K
    taken B (call.Track x) = with_register B (enter_track B.register x)
    taken B (call.Run x) = with_register B (enter_run B.register x)
    taken B (call.Connection x) = with_register B (enter_connection B.register x)
    taken B (call.Preset s setting) = with_register B (set_switch B.register s setting)
    taken B call.Open = record { number = B.number; opened = true; register = B.register; slips = B.slips }
    taken B (call.Report v at) = with_register B (report t B.register v at)
    taken B (call.Turn s setting) = with_register B (set_switch B.register s setting)
    taken B (call.Hold r until) = record { number = B.number; opened = B.opened; register = hold t B.register r (Some until); slips = slice_set B.slips r true }
    taken B (call.Release r) = record { number = B.number; opened = B.opened; register = hold t B.register r None; slips = slice_set B.slips r false }
    taken B _ = B

    -- a refused call leaves them as they are
    abbrev pub after : Books K → Call K → Reply K → Books K
    after B c (Ok a) = taken B c
    after B c (Err f) = B

    -- the books after the lines of a journal
    abbrev pub registered : Books K → List (Line K) → Books K
    registered B [] = B
    registered B (x ∷ xs) = registered (after B x.call x.reply) xs
