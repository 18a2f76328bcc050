use Rattle.journal.proofs.Follows.{never_for_ring_lem}
use Rattle.journal.proofs.theorems.never_for_ring.Goals as goal

pub returns : goal.returns
returns g c = never_for_ring_lem g.K.Kind.time g.met.K.Kind.laws
