-- The number and the place that a fault of a call in a list tells: 0 for a call that the plan's state does not have. Assumes nothing.
use Rattle.std.specs.Prelude.{ℕ}
use Rattle.rules.specs.Faults.{plan_number, plan_place}
use Rattle.journal.specs.declared.calls.CallFault.{CallFault}
use Rattle.journal.specs.declared.calls.CallFault.TheVariants as fault

abbrev pub call_number : CallFault → ℕ
call_number fault.Misuse = 0
call_number (fault.Plan f) = plan_number f

abbrev pub call_place : CallFault → ℕ
call_place fault.Misuse = 0
call_place (fault.Plan f) = plan_place f
