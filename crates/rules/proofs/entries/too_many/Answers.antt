use Rattle.std.proofs.Common.{length, arith}
use Rattle.records.specs.Records.{track_of}
use Rattle.records.proofs.Counts.{count_small}
use Rattle.rules.proofs.entries.too_many.Goals as goal

pub overflow_add-result : goal.overflow_add-result
overflow_add-result g c =
    let limits = c.requires in
    let h = count_small (track_of g.K.Kind.time c.args.records.now.runs.now) c.args.track (length c.args.records.now.runs.now) in omega (arith, limits.few_orders, limits.few_runs)
