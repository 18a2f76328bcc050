use Rattle.std.proofs.Common.{◌≡◌, ℕ, ◌<◌, length, get_or}
use Rattle.records.specs.Places.{count, total}
use Rattle.records.specs.Records.{track_of}
use Rattle.records.proofs.places.count_orders.Given as goal

abbrev pub invariant-loop-run : goal.invariant-loop-run
invariant-loop-run g l =
    (l.sum ≡ total (track_of g.K.Kind.time l.runs) l.run-index)
    × ((x : ℕ) → x < 64 → get_or l.counts x 0 ≡ count (track_of g.K.Kind.time l.runs) x l.run-index)
    × (length l.counts ≡ 64)
