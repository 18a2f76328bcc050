use Rattle.records.proofs.Limits.{on_tracks}
use Rattle.records.proofs.within.Entered.lay_out.Goals as goal

pub lay_out-requires : goal.lay_out-requires
lay_out-requires g c = let limits = c.args.self.now.limits.limits in record { few = limits.few_runs; room = c.requires; tracks = on_tracks g.K.Kind.time _ limits }
