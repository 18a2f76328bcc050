-- The day as it is entered and opened.
use Rattle.std.proofs.Common.{[], ◌∷◌, refl, arith}
use Rattle.kinds.specs.Models.{seconds_time}
use Rattle.kinds.specs.Kept.{seconds_laws}
use Rattle.network.specs.Reckoning.{at}
use Rattle.worked.specs.Words.{Shows, seconds}
use Rattle.worked.specs.Runs.{day, single_track, train_101, train_202, train_103, Entered}
use Rattle.worked.specs.Day.{Opened}
use Rattle.worked.proofs.Rows.{taken_by}
use Rattle.worked.proofs.Entries.{entered_by}
use Rattle.worked.proofs.Least.{start, shows_by}

pub day_shows : Shows seconds_time day (seconds (0 ∷ 600 ∷ 660 ∷ 1260 ∷ 1320 ∷ 1920 ∷ [])) 0
day_shows =
    let time = at seconds_time (seconds (0 ∷ 600 ∷ 660 ∷ 1260 ∷ 1320 ∷ 1920 ∷ [])) in
    let w0 = start seconds_time day time 0 (omega arith) refl in
    let w1 = start seconds_time day time 1 (omega arith) refl in
    let w2 = start seconds_time day time 2 (omega arith) refl in
    let w3 = start seconds_time day time 3 (omega arith) refl in
    let w4 = start seconds_time day time 4 (omega arith) refl in
    let w5 = start seconds_time day time 5 (omega arith) refl in
    shows_by seconds_time day seconds_laws _ refl ((0, omega arith, w0), ((0, omega arith, w1), ((0, omega arith, w2), ((0, omega arith, w3), ((0, omega arith, w4), ((0, omega arith, w5), tt))))))

entered : Entered (single_track 180) train_101 train_202 train_103
entered = entered_by (single_track 180) train_101 train_202 train_103 refl refl refl refl

pub opened : Opened
opened = record { entered = entered; opens = taken_by seconds_time [] day tt day_shows; shows = day_shows }
