-- A connection with changes.
use Rattle.std.proofs.Common.{[], ◌∷◌, refl, arith}
use Rattle.kinds.specs.Models.{changes_time}
use Rattle.kinds.specs.Kept.{changes_laws}
use Rattle.network.specs.Reckoning.{at}
use Rattle.network.specs.Refusals.{Passed}
use Rattle.force.specs.Force.{running, connection}
use Rattle.rules.specs.declared.switches.Switch.TheVariants.{Connection as Link}
use Rattle.rules.specs.Rows.{turning_rows}
use Rattle.registers.specs.Steps.{empty, enter_track, enter_run}
use Rattle.worked.specs.Words.{Shows}
use Rattle.worked.specs.Change.{after, branch, two_branches, feeder, onward, change, kept, broken, ChangeFacts}
use Rattle.worked.proofs.Rows.{taken_by}
use Rattle.worked.proofs.Entries.{track_by, run_by, connection_by}
use Rattle.worked.proofs.Least.{start, on, shows_by}

changed : Shows changes_time kept (after 300 0 ∷ after 900 0 ∷ after 960 1 ∷ after 1560 1 ∷ []) 0
changed =
    let time = at changes_time (after 300 0 ∷ after 900 0 ∷ after 960 1 ∷ after 1560 1 ∷ []) in
    let w0 = start changes_time kept time 0 (omega arith) refl in
    let w1 = start changes_time kept time 1 (omega arith) refl in
    let w2 = on changes_time kept time 2 (after 60 1) w1 (connection 0 (omega arith) refl refl) refl in
    let w3 = on changes_time kept time 3 (after 600 0) w2 (running 1 (omega arith) refl) refl in
    shows_by changes_time kept changes_laws _ refl ((0, omega arith, w0), ((0, omega arith, w1), ((1, omega arith, w2), ((2, omega arith, w3), tt))))

unchanged : Shows changes_time broken (after 300 0 ∷ after 900 0 ∷ after 960 0 ∷ after 1560 0 ∷ []) 500
unchanged =
    let time = at changes_time (after 300 0 ∷ after 900 0 ∷ after 960 0 ∷ after 1560 0 ∷ []) in
    let w0 = start changes_time broken time 0 (omega arith) refl in
    let w1 = start changes_time broken time 1 (omega arith) refl in
    let w2 = start changes_time broken time 2 (omega arith) refl in
    let w3 = start changes_time broken time 3 (omega arith) refl in
    shows_by changes_time broken changes_laws _ refl ((0, omega arith, w0), ((0, omega arith, w1), ((0, omega arith, w2), ((0, omega arith, w3), tt))))

breaking_passed : Passed (turning_rows changes_time kept (Link 0) 1)
breaking_passed = ((λ h. omega arith), ((λ h. omega arith), ((λ h. omega arith), ((λ h. h), tt))))

pub change_facts : ChangeFacts
change_facts = record {
  first_track = track_by changes_time empty branch refl;
  second_track = track_by changes_time (enter_track empty branch) branch refl;
  first_run = run_by changes_time two_branches feeder refl;
  second_run = run_by changes_time (enter_run two_branches feeder) onward refl;
  connection = connection_by changes_time (enter_run (enter_run two_branches feeder) onward) change refl;
  changed = changed;
  taken = taken_by changes_time (turning_rows changes_time kept (Link 0) 1) broken breaking_passed unchanged;
  unchanged = unchanged;
}
