use Rattle.std.proofs.Common.{sym, refl, subst}
use Rattle.journal.specs.declared.calls.Plan.{Plan}
use Rattle.journal.specs.declared.calls.Plan.TheVariants as stage
use Rattle.journal.specs.Memories.{sizes, state}
use Rattle.journal.specs.Promise.{Step}
use Rattle.journal.proofs.performing.perform.Goals as goal

pub returns-in_default-clause-step : goal.returns-in_default-clause-step
returns-in_default-clause-step g c =
    let m = c.args.memories.now in
    let w = c.args.work.now in
    let reply = c.in_draft-reply in
    let later = reply.new.memories in
    let P : Plan → Type 0 = λ p. Step g.K.Kind.time (sizes m w) (state p m) c.args.call reply.result later.ring.now later.trial.now (state (stage.Draft reply.new.draft) later) in
    subst P (sym c.in-Draft.is) (reply.ensures.step w (c.if-not-is_listed.ensures.0 refl))
