-- The number, the layer and the place that a fault of a plan tells. Assumes nothing.
use Rattle.std.specs.Prelude.{ℕ, List, Result}
use Rattle.network.specs.declared.faults.Layer.{Layer}
use Rattle.network.specs.declared.faults.Layer.TheVariants as layer
use Rattle.network.specs.Faults.{network_number}
use Rattle.network.specs.Refusals.{Row, Answers}
use Rattle.rules.specs.declared.faults.PlanFault.{PlanFault}
use Rattle.rules.specs.declared.faults.PlanFault.TheVariants as fault

-- a fault of the network keeps its number
abbrev pub plan_number : PlanFault → ℕ
plan_number fault.Length = 1
plan_number fault.Stored = 2
plan_number (fault.Unknown place) = 3
plan_number fault.Time = 4
plan_number fault.Duration = 5
plan_number fault.Count = 6
plan_number fault.Range = 7
plan_number fault.Already = 8
plan_number fault.Departed = 9
plan_number fault.Report = 10
plan_number fault.Slip = 11
plan_number (fault.Network f) = network_number f

abbrev pub plan_layer : PlanFault → Layer
plan_layer f = layer.Plan

-- of a 3 the number that names nothing
abbrev pub plan_place : PlanFault → ℕ
plan_place (fault.Unknown place) = place
plan_place _ = 0

-- taken: no row applies; refused: the fault tells the number and the place of the first row that applies
abbrev pub PlanAnswers : {X : Type 0} → List Row → Result X PlanFault → Type 0
PlanAnswers rows result = Answers plan_number plan_place rows result
