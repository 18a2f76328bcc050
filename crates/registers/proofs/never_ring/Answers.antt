use Rattle.registers.proofs.Rings.{never_ring_lem}
use Rattle.registers.proofs.never_ring.Goals as goal

pub returns : goal.returns
returns g c = never_ring_lem g.K.Kind.time g.met.K.Kind.laws
