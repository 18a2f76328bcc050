use Rattle.std.proofs.Common.{◌≡◌}
use Rattle.records.specs.Places.{total, Laid}
use Rattle.records.specs.Records.{track_of}
use Rattle.records.proofs.Counts.{Tallied}
use Rattle.records.proofs.places.lay_out.Given as goal

abbrev pub invariant-loop-j : goal.invariant-loop-j
invariant-loop-j g l =
    Laid (track_of g.K.Kind.time l.runs) l.j l.places
    × (l.sum ≡ total (track_of g.K.Kind.time l.runs) l.j)
    × Tallied (track_of g.K.Kind.time l.runs) l.j l.tallies
