-- The rows of a track, a run and a connection that is entered, by tests that compute.
use Rattle.std.proofs.Common.{◌≡◌, ℕ, Bool, true, not, ◌&&◌, eqb, ltb, leb, List, [], ◌∷◌, length, Some, None, Option, arith}
use Rattle.std.specs.List.{AllByRecursion}
use Rattle.std.proofs.lemmas.Bool.{both_ways, and_parts, ltb-true, leb-true, eqb-false, not-true}
use Rattle.kinds.specs.Time.{Time}
use Rattle.kinds.specs.declared.Seconds.{Seconds}
use Rattle.kinds.specs.Models.{seconds_time}
use Rattle.network.specs.Refusals.{Passed}
use Rattle.records.specs.declared.Track.{Track}
use Rattle.records.specs.declared.Run.{Run}
use Rattle.records.specs.declared.Connection.{Connection}
use Rattle.records.specs.Register.{Register}
use Rattle.rules.specs.Rows.{NotEarlier, NoDuration, orders_with, track_rows, run_rows, connection_rows}
use Rattle.registers.specs.Steps.{empty, enter_track, enter_run}
use Rattle.worked.specs.Runs.{Entered}
use Rattle.worked.proofs.Rows.{neither}

-- tests that all hold
abbrev pub all_true : List Bool → Bool
all_true [] = true
all_true (b ∷ rest) = b && all_true rest

pub each_true : (tests : List Bool) → all_true tests ≡ true → AllByRecursion (λ b. b ≡ true) tests
each_true [] h = tt
each_true (b ∷ rest) h =
    let parts = and_parts b (all_true rest) h in
    (parts.0, each_true rest parts.1)

abbrev pub is_earlier : ℕ → Option ℕ → Bool
is_earlier n None = true
is_earlier n (Some p) = ltb p n

earlier_by : (n : ℕ) (o : Option ℕ) → is_earlier n o ≡ true → NotEarlier n o → ⊥
earlier_by n None h p = p
earlier_by n (Some q) h p = omega (arith, ltb-true q n h)

module _ {K : Type 0} (t : Time K) where
  abbrev pub is_duration : K → Bool
  is_duration d = leb (t.size d) 100000 && t.before t.none d

  lasts : (d : K) → is_duration d ≡ true → NoDuration t d → ⊥
  lasts d h =
      let parts = and_parts (leb (t.size d) 100000) (t.before t.none d) h in
      neither (λ over. omega (arith, leb-true (t.size d) 100000 parts.0)) (λ before. both_ways (t.before t.none d) before parts.1)

  module _ (R : Register K) where
    abbrev pub track_tests : Track K → List Bool
    track_tests x = is_duration x.headway ∷ is_duration x.meeting ∷ ltb (length R.tracks) 64 ∷ leb x.penalty 1000000 ∷ []

    pub track_by : (x : Track K) → all_true (track_tests x) ≡ true → Passed (track_rows t R x)
    track_by x h =
        let each = each_true (track_tests x) h in
        let room = ltb-true _ _ each.1.1.0 in
        let cheap = leb-true _ _ each.1.1.1.0 in
        (neither (lasts x.headway each.0) (lasts x.meeting each.1.0), ((λ p. omega arith), ((λ p. omega arith), tt)))

    abbrev pub run_tests : Run K → List Bool
    run_tests x =
        is_earlier (length R.runs) x.predecessor
        ∷ is_duration x.running
        ∷ is_duration x.dwell
        ∷ ltb x.track (length R.tracks)
        ∷ leb (t.size x.departure) 1000000
        ∷ leb (t.size x.arrival) 1000000
        ∷ ltb (length R.runs) 512
        ∷ leb (orders_with t R x.track) 4096
        ∷ leb x.weight 1000
        ∷ leb x.direction 1
        ∷ []

    pub run_by : (x : Run K) → all_true (run_tests x) ≡ true → Passed (run_rows t R x)
    run_by x h =
        let each = each_true (run_tests x) h in
        let rest = each.1.1.1 in
        let on_track = ltb-true _ _ rest.0 in
        let departs = leb-true _ _ rest.1.0 in
        let arrives = leb-true _ _ rest.1.1.0 in
        let room = ltb-true _ _ rest.1.1.1.0 in
        let orders = leb-true _ _ rest.1.1.1.1.0 in
        let light = leb-true _ _ rest.1.1.1.1.1.0 in
        let way = leb-true _ _ rest.1.1.1.1.1.1.0 in
        ((λ p. omega arith), (earlier_by (length R.runs) x.predecessor each.0, (neither (λ p. omega arith) (λ p. omega arith), (neither (lasts x.running each.1.0) (lasts x.dwell each.1.1.0), (neither (λ p. omega arith) (λ p. omega arith), (neither (λ p. omega arith) (λ p. omega arith), tt))))))

    abbrev pub connection_tests : Connection K → List Bool
    connection_tests x =
        is_duration x.time
        ∷ ltb x.feeder (length R.runs)
        ∷ ltb x.onward (length R.runs)
        ∷ not (eqb x.feeder x.onward)
        ∷ ltb (length R.connections) 512
        ∷ leb x.penalty 1000000
        ∷ []

    pub connection_by : (x : Connection K) → all_true (connection_tests x) ≡ true → Passed (connection_rows t R x)
    connection_by x h =
        let each = each_true (connection_tests x) h in
        let feeds = ltb-true _ _ each.1.0 in
        let leaves = ltb-true _ _ each.1.1.0 in
        let two = eqb-false _ _ (not-true _ each.1.1.1.0) in
        let room = ltb-true _ _ each.1.1.1.1.0 in
        let cheap = leb-true _ _ each.1.1.1.1.1.0 in
        ((λ p. omega arith), ((λ p. omega arith), (two, (lasts x.time each.0, ((λ p. omega arith), ((λ p. omega arith), tt))))))

-- three runs on one track
pub entered_by : (line : Track Seconds) (one two three : Run Seconds) → all_true (track_tests seconds_time empty line) ≡ true → all_true (run_tests seconds_time (enter_track empty line) one) ≡ true → all_true (run_tests seconds_time (enter_run (enter_track empty line) one) two) ≡ true → all_true (run_tests seconds_time (enter_run (enter_run (enter_track empty line) one) two) three) ≡ true → Entered line one two three
entered_by line one two three a b c d = record {
  track = track_by seconds_time empty line a;
  first = run_by seconds_time (enter_track empty line) one b;
  second = run_by seconds_time (enter_run (enter_track empty line) one) two c;
  third = run_by seconds_time (enter_run (enter_run (enter_track empty line) one) two) three d;
}
