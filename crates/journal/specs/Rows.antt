-- The refusals of a call of a list, over the books alone: 0 where the plan's state does not have the call, 1 where a memory has
-- another length than listed, and then the call's own rows. Assumes nothing.
use Rattle.std.specs.Prelude.{◌≡◌, true, false, List, [], ◌∷◌, ◌++◌, Some, None, slice_index_or}
use Rattle.kinds.specs.Time.{Time}
use Rattle.network.specs.Refusals.{Row, row}
use Rattle.rules.specs.Rows.{track_rows, run_rows, connection_rows, switch_rows, setting_rows, turning_rows, event_rows, report_rows, hold_rows}
use Rattle.plan.specs.Calls.{ring_rows}
use Rattle.registers.specs.Steps.{set_switch, report, hold}
use Rattle.journal.specs.declared.calls.Call.{Call}
use Rattle.journal.specs.declared.calls.Call.TheVariants as call
use Rattle.journal.specs.Books.{Books}
use Rattle.journal.specs.Memories.{Sizes, AllListed}

module _ {K : Type 0} (t : Time K) (l : Sizes) (B : Books K) where
  -- a call on a draft, and one on an open plan
  abbrev pub drafting : List Row → List Row
  drafting own = row 0 0 (B.opened ≡ true) ∷ row 1 0 (AllListed l → ⊥) ∷ own

  abbrev pub controlling : List Row → List Row
  controlling own = row 0 0 (B.opened ≡ false) ∷ row 1 0 (AllListed l → ⊥) ∷ own

  abbrev pub call_rows : Call K → List Row
  call_rows (call.Track x) = drafting (track_rows t B.register x)
  call_rows (call.Run x) = drafting (run_rows t B.register x)
  call_rows (call.Connection x) = drafting (connection_rows t B.register x)
  call_rows (call.Preset s setting) = drafting (setting_rows t B.register s setting)
  call_rows call.Open = drafting (ring_rows t B.register)
  call_rows (call.Report v at) = controlling (report_rows t B.register v at ++ ring_rows t (report t B.register v at))
  call_rows (call.Turn s setting) = controlling (turning_rows t B.register s setting ++ ring_rows t (set_switch B.register s setting))
  call_rows (call.Hold r until) = controlling (hold_rows t B.register r until ++ ring_rows t (hold t B.register r (Some until)))
  call_rows (call.Release r) = row 0 0 (B.opened ≡ false) ∷ row 0 0 (slice_index_or B.slips r false ≡ false) ∷ row 1 0 (AllListed l → ⊥) ∷ ring_rows t (hold t B.register r None)
  call_rows (call.Trial s setting) = controlling (turning_rows t B.register s setting ++ ring_rows t (set_switch B.register s setting))
  call_rows (call.Time v) = controlling (event_rows t B.register v)
  call_rows (call.Setting s) = row 1 0 (AllListed l → ⊥) ∷ switch_rows t B.register s
  call_rows call.Cost = controlling []
