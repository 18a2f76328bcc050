use Rattle.std.proofs.Common.{rules}
use Rattle.lent_apart.proofs.Apart.{same_apart, step_apart}
use Rattle.lent_apart.proofs.perform_apart.Goals as goal

pub returns : goal.returns
returns g c =
    step_apart g.K.Kind.time (search rules) (search rules) (same_apart (search rules) (search rules) (search rules) (search rules) (search rules) (search rules)) c.perform.ensures.step
