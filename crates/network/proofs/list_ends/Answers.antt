use Rattle.std.proofs.Common.{reverse, sym, ap, ◌∙◌, arith}
use Rattle.std.proofs.lemmas.List.{ext_get_or}
use Rattle.network.proofs.Chains.{length_ends}
use Rattle.network.proofs.Traces.{event_at}
use Rattle.network.specs.Reckoning.{placed}
use Rattle.network.proofs.list_ends.Goals as goal

pub returns : goal.returns
returns g c =
    let t = g.K.Kind.time in
    let arcs = c.args.arcs.now in
    let path = c.args.path.now in
    let long = length_ends t (placed t arcs) path in
    c.reverse.ensures.after ∙ ap reverse (ext_get_or 0 _ _ (omega arith) (λ i h. c.loop-j.invariant i (omega arith) ∙ sym (event_at t arcs path i (omega arith))))
