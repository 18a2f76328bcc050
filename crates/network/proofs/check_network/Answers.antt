use Rattle.std.proofs.Common.{rules}
use Rattle.network.proofs.Checks.{in_limits}
use Rattle.network.proofs.check_network.Goals as goal

pub invariant_of-result : goal.invariant_of-result
invariant_of-result g c = record { limits = in_limits g.K.Kind.time c.args.events c.args.arc_count _ _ c.requires.counted.0 c.requires.counted.1 (search rules) }
