use Rattle.std.proofs.Common.{◌≡◌, map, take}
use Rattle.force.specs.Work.{SameWork}
use Rattle.journal.specs.Memories.{SameMemories, sizes, state}
use Rattle.journal.specs.Promise.{Steps, call_of}
use Rattle.journal.proofs.lists.perform_all.Given as goal

abbrev pub invariant-loop-line : goal.invariant-loop-line
invariant-loop-line g l = record {
  calls : map call_of l.journal ≡ map call_of l.initial.journal;
  steps : Steps g.K.Kind.time (sizes l.initial.memories l.initial.work) (state l.initial.plan l.initial.memories) (take l.line-index l.journal) (state l.plan l.memories);
  same : SameMemories l.initial.memories l.memories;
  work : SameWork l.initial.work l.work;
}
