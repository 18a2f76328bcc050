-- What lent memories are, one by one. Assumes nothing.
use Rattle.std.specs.Prelude.{ℕ, List, Option}
use Rattle.records.specs.declared.Run.{Run}
use Rattle.records.specs.declared.Track.{Track}
use Rattle.records.specs.declared.Connection.{Connection}
use Rattle.plan.specs.declared.states.Slip.{Slip}
use Rattle.plan.specs.Calls.{Lengths, lengths}
use Rattle.journal.specs.declared.calls.Plan.{Plan}
use Rattle.journal.specs.Memories.{State, Sizes}

abbrev pub sizes_apart : ℕ → ℕ → ℕ → ℕ → ℕ → ℕ → Lengths → Sizes
sizes_apart tr r c s t k w = record { tracks = tr; runs = r; connections = c; settings = s; trial = t; slips = k; work = w }

abbrev pub work_apart : ℕ → ℕ → ℕ → ℕ → ℕ → ℕ → ℕ → Lengths
work_apart t r p f a b m = lengths t r (record { places = p; floors = f; arcs = a; tables = b; marks = m })

abbrev pub state_apart : {K : Type 0} → Plan → List (Track K) → List (Run K) → List (Connection K) → List ℕ → List K → List (Option Slip) → State K
state_apart p tracks runs connections settings times slips = record { plan = p; records = record { tracks = tracks; runs = runs; connections = connections; settings = settings }; times = times; slips = slips }
