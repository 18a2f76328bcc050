use Rattle.std.proofs.Common.{rules}
use Rattle.force.proofs.Parts.{unless_none}
use Rattle.force.proofs.arcs.ArcList.push_unless.Goals as goal

pub returns-then-is_none-clause-added : goal.returns-then-is_none-clause-added
returns-then-is_none-clause-added g c = unless_none g.K.Kind.time c.args.report c.args.arc c.args.self.now (search rules) c.requires
