-- Three runs in a circle.
use Rattle.std.proofs.Common.{List, [], ◌∷◌, refl, inl, inr, arith}
use Rattle.kinds.specs.declared.Seconds.{Seconds}
use Rattle.kinds.specs.Models.{seconds_time}
use Rattle.kinds.specs.Kept.{seconds_laws}
use Rattle.network.specs.declared.Arc.{Arc}
use Rattle.network.specs.Network.{Ring}
use Rattle.network.specs.Reckoning.{at}
use Rattle.force.specs.Force.{running, departures}
use Rattle.force.specs.Constraints.{arcs_in_force}
use Rattle.worked.specs.Words.{Shows, sec, seconds}
use Rattle.worked.specs.Runs.{single_track}
use Rattle.worked.specs.Circle.{train_301, train_303, train_305, convoy, circle, CircleFacts}
use Rattle.worked.proofs.Rows.{taken_by, ring_refuses, setting_by}
use Rattle.worked.proofs.Entries.{entered_by}
use Rattle.worked.proofs.Least.{start, on, shows_by}
use Rattle.worked.proofs.Rings.{ordered, no_table_by}

-- run 2 departs to its schedule, run 0 not before it, and run 1 not before run 0; each then runs
side_by_side : Shows seconds_time (circle 0) (seconds (120 ∷ 720 ∷ 120 ∷ 720 ∷ 120 ∷ 720 ∷ [])) 480
side_by_side =
    let R = circle 0 in
    let time = at seconds_time (seconds (120 ∷ 720 ∷ 120 ∷ 720 ∷ 120 ∷ 720 ∷ [])) in
    let w4 = start seconds_time R time 4 (omega arith) refl in
    let w0 = on seconds_time R time 0 (sec 0) w4 (departures 2 0 (inr (ordered seconds_time R 0 2 refl, refl)) (refl, refl)) refl in
    let w2 = on seconds_time R time 2 (sec 0) w0 (departures 0 1 (inl (ordered seconds_time R 0 1 refl, refl)) (refl, refl)) refl in
    let w1 = on seconds_time R time 1 (sec 600) w0 (running 0 (omega arith) refl) refl in
    let w3 = on seconds_time R time 3 (sec 600) w2 (running 1 (omega arith) refl) refl in
    let w5 = on seconds_time R time 5 (sec 600) w4 (running 2 (omega arith) refl) refl in
    shows_by seconds_time R seconds_laws _ refl ((1, omega arith, w0), ((2, omega arith, w1), ((2, omega arith, w2), ((3, omega arith, w3), ((0, omega arith, w4), ((1, omega arith, w5), tt))))))

-- the departures wait for each other, each one second; last arc first
abbrev the_circuit : List (Arc Seconds)
the_circuit = record { from = 4; to = 0; duration = sec 1 } ∷ record { from = 2; to = 4; duration = sec 1 } ∷ record { from = 0; to = 2; duration = sec 1 } ∷ []

the_ring : Ring seconds_time (arcs_in_force seconds_time (circle 1)) the_circuit
the_ring = record {
  event = 0;
  closed = (departures 2 0 (inr (ordered seconds_time (circle 1) 0 2 refl, refl)) (refl, refl), refl, (departures 1 2 (inl (ordered seconds_time (circle 1) 1 2 refl, refl)) (refl, refl), refl, (departures 0 1 (inl (ordered seconds_time (circle 1) 0 1 refl, refl)) (refl, refl), refl, refl)));
  apart = (((λ e. omega arith), ((λ e. omega arith), tt)), (((λ e. omega arith), tt), (tt, tt)));
  after = refl;
}

pub circled : CircleFacts
circled = record {
  entered_0 = entered_by (single_track 0) train_301 train_303 train_305 refl refl refl refl;
  entered_1 = entered_by (single_track 1) train_301 train_303 train_305 refl refl refl refl;
  set = λ headway. setting_by seconds_time (convoy headway) 0 2 refl refl;
  side_by_side = side_by_side;
  opens = taken_by seconds_time [] (circle 0) tt side_by_side;
  stuck = ring_refuses seconds_time [] (circle 1) tt (no_table_by seconds_time (circle 1) seconds_laws refl refl the_circuit the_ring);
}
