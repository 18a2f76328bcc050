-- The number, the layer and the place that a fault of a book tells, and a plan's fault with its place. Assumes nothing.
use Rattle.std.specs.Prelude.{ℕ, Ok, Err, Result}
use Rattle.network.specs.declared.faults.Layer.{Layer}
use Rattle.network.specs.declared.faults.Layer.TheVariants as layer
use Rattle.rules.specs.declared.faults.PlanFault.{PlanFault}
use Rattle.rules.specs.Faults.{plan_number}
use Rattle.fields.specs.declared.faults.BookFault.{BookFault}
use Rattle.fields.specs.declared.faults.BookFault.TheVariants as fault
use Rattle.fields.specs.declared.faults.Placed.{Placed}

-- a fault of the plan keeps its number
abbrev pub book_number : BookFault → ℕ
book_number fault.Length = 1
book_number fault.Mark = 13
book_number (fault.Code place) = 13
book_number (fault.Field place) = 14
book_number (fault.Order place) = 15
book_number fault.Short = 16
book_number (fault.Plan f place) = plan_number f

abbrev pub book_layer : BookFault → Layer
book_layer f = layer.Book

-- the offset of the field's tag, and 0 where no field is at fault
abbrev pub book_place : BookFault → ℕ
book_place (fault.Code place) = place
book_place (fault.Field place) = place
book_place (fault.Order place) = place
book_place (fault.Plan f place) = place
book_place _ = 0

-- an answer of a plan's call, its fault with the place of the field that was entered
abbrev pub placed_at : {X : Type 0} → ℕ → Result X PlanFault → Result X Placed
placed_at place (Ok x) = Ok x
placed_at place (Err f) = Err (record { fault = f; place = place })
