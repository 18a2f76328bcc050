use Rattle.std.proofs.Common.{◌<◌, List, length, get_or, sym, refl, ◌∙◌, subst, arith}
use Rattle.std.proofs.lemmas.List.{take_all}
use Rattle.journal.specs.declared.calls.Line.{Line}
use Rattle.journal.specs.declared.calls.Plan.{Plan}
use Rattle.journal.specs.Books.{new}
use Rattle.journal.specs.Memories.{sizes, state}
use Rattle.journal.specs.Promise.{Stands, Steps, Step}
use Rattle.journal.proofs.Journals.{step_more, calls_kept, new_stands}
use Rattle.journal.proofs.States.{same_sizes, same_on, same_work_on}
use Rattle.journal.proofs.lists.perform_all.Goals as goal

pub loop-line-preserved : goal.loop-line-preserved
loop-line-preserved g c =
    let t = g.K.Kind.time in
    let a = c.args in
    let i = c.loop-line in
    let p = c.perform-next in
    let d = get_or i.journal i.line-index c.line-item.result in
    let x : Line g.row.K.Denot = record { call = d.call; reply = p.result.1 } in
    let h : i.line-index < length i.journal = omega arith in
    let later = state p.result.0 p.new.memories in
    let P : Plan → Type 0 = λ q. Step t (sizes i.memories i.work) (state q i.memories) d.call p.result.1 p.new.memories.ring.now p.new.memories.trial.now later in
    let step : P i.plan = subst P c.replace-current.ensures.value p.ensures.step in
    record {
      calls = calls_kept i.journal i.line-index c.line-item.result x refl ∙ i.invariant.calls;
      steps = step_more t (sizes a.memories.now a.work.now) (sizes i.memories i.work) i.journal i.line-index x p.new.memories.ring.now p.new.memories.trial.now (state a.plan.now a.memories.now) (state i.plan i.memories) later h (same_sizes a.memories.now i.memories a.work.now i.work i.invariant.same i.invariant.work) i.invariant.steps step;
      same = same_on a.memories.now i.memories p.new.memories i.invariant.same p.ensures.same;
      work = same_work_on a.work.now i.work p.new.work i.invariant.work p.ensures.work;
    }

pub returns-clause-steps : goal.returns-clause-steps
returns-clause-steps g c =
    let i = c.loop-line in
    let P : List (Line g.row.K.Denot) → Type 0 = λ lines. Steps g.K.Kind.time (sizes c.args.memories.now c.args.work.now) (state c.args.plan.now c.args.memories.now) lines (state i.plan i.memories) in
    subst P (take_all i.line-index i.journal (omega arith)) i.invariant.steps

pub returns-clause-fresh : goal.returns-clause-fresh
returns-clause-fresh g c = λ number slots made none.
    let t = g.K.Kind.time in
    let m = c.args.memories.now in
    let S : Plan → Type 0 = λ p. Stands t (new number slots) (state p m) in
    returns-clause-steps g c (new number slots) (subst S (sym made) (new_stands t number slots (state c.args.plan.now m).records m.times.now m.slips.now none))
