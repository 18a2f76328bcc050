-- The day with a report, with turned orders and with a hold.
use Rattle.std.proofs.Common.{List, [], ◌∷◌, refl, inl, inr, arith}
use Rattle.kinds.specs.Models.{seconds_time}
use Rattle.kinds.specs.Kept.{seconds_laws}
use Rattle.kinds.specs.declared.Seconds.{Seconds}
use Rattle.network.specs.declared.Arc.{Arc}
use Rattle.network.specs.Network.{Ring, Names, NoTable}
use Rattle.network.specs.Reckoning.{at}
use Rattle.network.specs.Refusals.{Passed}
use Rattle.force.specs.Force.{running, dwell, departures, meeting}
use Rattle.force.specs.Constraints.{arcs_in_force, in_force}
use Rattle.rules.specs.Rows.{report_rows, turning_rows, hold_rows, release_rows}
use Rattle.rules.specs.declared.switches.Switch.TheVariants.{Order}
use Rattle.worked.specs.Words.{Shows, sec, seconds}
use Rattle.worked.specs.Runs.{day}
use Rattle.worked.specs.Day.{Late, Ringed, Tried, Held, late_day, held_day, turned}
use Rattle.worked.proofs.Rows.{taken_by, ring_refuses, turning_by, neither}
use Rattle.worked.proofs.Least.{start, on, shows_by}
use Rattle.worked.proofs.Opened.{day_shows}
use Rattle.worked.proofs.Rings.{ordered, foremosts_by, no_table_by}

-- train 101 departs late, and each wait brings the next event: its run, the meeting, the run of train 202, the dwell, the run of train 103
late_shows : Shows seconds_time late_day (seconds (300 ∷ 900 ∷ 960 ∷ 1560 ∷ 1620 ∷ 2220 ∷ [])) 900
late_shows =
    let time = at seconds_time (seconds (300 ∷ 900 ∷ 960 ∷ 1560 ∷ 1620 ∷ 2220 ∷ [])) in
    let w0 = start seconds_time late_day time 0 (omega arith) refl in
    let w1 = on seconds_time late_day time 1 (sec 600) w0 (running 0 (omega arith) refl) refl in
    let w2 = on seconds_time late_day time 2 (sec 60) w1 (meeting 0 1 (inl (ordered seconds_time late_day 0 1 refl, refl)) ((λ e. omega arith), refl)) refl in
    let w3 = on seconds_time late_day time 3 (sec 600) w2 (running 1 (omega arith) refl) refl in
    let w4 = on seconds_time late_day time 4 (sec 60) w3 (dwell 2 (omega arith) refl) refl in
    let w5 = on seconds_time late_day time 5 (sec 600) w4 (running 2 (omega arith) refl) refl in
    shows_by seconds_time late_day seconds_laws _ refl ((0, omega arith, w0), ((1, omega arith, w1), ((2, omega arith, w2), ((3, omega arith, w3), ((4, omega arith, w4), ((5, omega arith, w5), tt))))))

late_passed : Passed (report_rows seconds_time day 0 (sec 300))
late_passed = ((λ h. omega arith), ((λ h. omega arith), (neither (λ h. h.1) (λ h. omega (arith, h.0)), tt)))

pub late : Late
late = record {
  taken = taken_by seconds_time (report_rows seconds_time day 0 (sec 300)) late_day late_passed late_shows;
  shows = late_shows;
  too_late = inr ((λ h. omega arith), inr ((λ h. omega arith), inr ((λ h. omega arith), inr ((λ h. h refl), inr ((λ h. omega arith), inr ((λ h. omega arith), inl (inl tt, refl, refl)))))));
}

-- the ring that turning the order of trains 202 and 103 brings, last arc first
abbrev the_circuit : List (Arc Seconds)
the_circuit =
    record { from = 5; to = 2; duration = sec 60 }
    ∷ record { from = 4; to = 5; duration = sec 600 }
    ∷ record { from = 3; to = 4; duration = sec 60 }
    ∷ record { from = 2; to = 3; duration = sec 600 }
    ∷ []

the_ring : Ring seconds_time (arcs_in_force seconds_time (turned day 1 2)) the_circuit
the_ring = record {
  event = 2;
  closed = (meeting 2 1 (inr (ordered seconds_time (turned day 1 2) 1 2 refl, refl)) ((λ e. omega arith), refl), refl, (running 2 (omega arith) refl, refl, (dwell 2 (omega arith) refl, refl, (running 1 (omega arith) refl, refl, refl))));
  apart = (((λ e. omega arith), ((λ e. omega arith), ((λ e. omega arith), tt))), (((λ e. omega arith), ((λ e. omega arith), tt)), (((λ e. omega arith), tt), (tt, tt))));
  after = refl;
}

abbrev the_names : Names seconds_time (arcs_in_force seconds_time (turned day 1 2)) (2 ∷ 3 ∷ 4 ∷ 5 ∷ [])
the_names = record {
  circuit = the_circuit;
  ring = the_ring;
  foremost = foremosts_by seconds_time (turned day 1 2) the_circuit refl;
  front = 3 ∷ 4 ∷ 5 ∷ [];
  back = 2 ∷ [];
  circuit_is = refl;
  named = refl;
  smallest = (omega arith, (omega arith, (omega arith, (omega arith, tt))));
}

ring_leaves_none : NoTable seconds_time (in_force seconds_time (turned day 1 2))
ring_leaves_none = no_table_by seconds_time (turned day 1 2) seconds_laws refl refl the_circuit the_ring

ring_passed : Passed (turning_rows seconds_time day (Order 1 2) 1)
ring_passed = turning_by seconds_time day 1 2 refl refl (λ h. h) (λ h. h)

pub ringed : Ringed
ringed = record {
  refused = ring_refuses seconds_time (turning_rows seconds_time day (Order 1 2) 1) (turned day 1 2) ring_passed ring_leaves_none;
  passed = ring_passed;
  no_table = ring_leaves_none;
  named = the_names;
  total = refl;
}

-- train 101 waits for train 202 to arrive, and train 103 keeps the headway behind train 101
tried_shows : Shows seconds_time (turned day 0 1) (seconds (1320 ∷ 1920 ∷ 660 ∷ 1260 ∷ 1500 ∷ 2100 ∷ [])) 1800
tried_shows =
    let R = turned day 0 1 in
    let time = at seconds_time (seconds (1320 ∷ 1920 ∷ 660 ∷ 1260 ∷ 1500 ∷ 2100 ∷ [])) in
    let w2 = start seconds_time R time 2 (omega arith) refl in
    let w3 = start seconds_time R time 3 (omega arith) refl in
    let w0 = on seconds_time R time 0 (sec 60) w3 (meeting 1 0 (inr (ordered seconds_time R 0 1 refl, refl)) ((λ e. omega arith), refl)) refl in
    let w1 = on seconds_time R time 1 (sec 600) w0 (running 0 (omega arith) refl) refl in
    let w4 = on seconds_time R time 4 (sec 180) w0 (departures 0 2 (inl (ordered seconds_time R 0 2 refl, refl)) (refl, refl)) refl in
    let w5 = on seconds_time R time 5 (sec 600) w4 (running 2 (omega arith) refl) refl in
    shows_by seconds_time R seconds_laws _ refl ((1, omega arith, w0), ((2, omega arith, w1), ((0, omega arith, w2), ((0, omega arith, w3), ((2, omega arith, w4), ((3, omega arith, w5), tt))))))

pub tried : Tried
tried = record {
  taken = taken_by seconds_time (turning_rows seconds_time day (Order 0 1) 1) (turned day 0 1) (turning_by seconds_time day 0 1 refl refl (λ h. h) (λ h. h)) tried_shows;
  shows = tried_shows;
}

-- train 202 waits for its hold, and train 103 for its stock
held_shows : Shows seconds_time held_day (seconds (0 ∷ 600 ∷ 700 ∷ 1300 ∷ 1360 ∷ 1960 ∷ [])) 80
held_shows =
    let time = at seconds_time (seconds (0 ∷ 600 ∷ 700 ∷ 1300 ∷ 1360 ∷ 1960 ∷ [])) in
    let w0 = start seconds_time held_day time 0 (omega arith) refl in
    let w1 = start seconds_time held_day time 1 (omega arith) refl in
    let w2 = start seconds_time held_day time 2 (omega arith) refl in
    let w3 = on seconds_time held_day time 3 (sec 600) w2 (running 1 (omega arith) refl) refl in
    let w4 = on seconds_time held_day time 4 (sec 60) w3 (dwell 2 (omega arith) refl) refl in
    let w5 = on seconds_time held_day time 5 (sec 600) w4 (running 2 (omega arith) refl) refl in
    shows_by seconds_time held_day seconds_laws _ refl ((0, omega arith, w0), ((0, omega arith, w1), ((0, omega arith, w2), ((1, omega arith, w3), ((2, omega arith, w4), ((3, omega arith, w5), tt))))))

held_passed : Passed (hold_rows seconds_time day 1 (sec 700))
held_passed = ((λ h. omega arith), ((λ h. omega arith), ((λ h. h), ((λ h. h), tt))))

pub held : Held
held = record {
  taken = taken_by seconds_time (hold_rows seconds_time day 1 (sec 700)) held_day held_passed held_shows;
  shows = held_shows;
  releases = λ plan. taken_by seconds_time (release_rows seconds_time held_day plan plan 1) day ((λ h. h refl), ((λ h. omega arith), ((λ h. h tt), tt))) day_shows;
  again = refl;
}
