use Rattle.std.proofs.Common.{arith}
use Rattle.records.specs.Records.{track_of}
use Rattle.records.proofs.Counts.{laid_place}
use Rattle.records.proofs.layout.Layout.setting.Goals as goal

pub bounds-self-self : goal.bounds-self-self
bounds-self-self g c =
    let layout = c.args.self.now in
    let within = layout.entered.now.limits in
    let h = laid_place (track_of g.K.Kind.time layout.entered.now.runs.now) _ c.args.i c.args.j layout.places.now layout.laid c.requires.inside c.requires.below c.requires.shared in
    omega (arith, h.1, within.limits.few_orders, within.bytes)
