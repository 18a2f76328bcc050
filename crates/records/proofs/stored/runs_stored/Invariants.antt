use Rattle.std.proofs.Common.{ℕ, ◌<◌}
use Rattle.records.specs.Records.{run_at}
use Rattle.records.specs.Stored.{RunStored}
use Rattle.records.proofs.stored.runs_stored.Given as goal

abbrev pub invariant-loop-r : goal.invariant-loop-r
invariant-loop-r g l = (k : ℕ) → k < l.r → RunStored g.K.Kind.time l.tracks k (run_at g.K.Kind.time l.runs k)
