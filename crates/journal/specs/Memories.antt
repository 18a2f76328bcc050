-- The memories that are lent to a call of a list: how long they are, what a plan's state is with them, and that a call leaves the same
-- ones lent. Assumes nothing.
use Rattle.std.specs.Prelude.{◌≡◌, ℕ, List, length, Option}
use Rattle.records.specs.Lent.{Lists}
use Rattle.force.specs.declared.work.Work.{Work}
use Rattle.force.specs.Work.{work_lengths}
use Rattle.plan.specs.declared.states.Slip.{Slip}
use Rattle.plan.specs.States.{lists}
use Rattle.plan.specs.Calls.{Lengths, Listed, lengths}
use Rattle.journal.specs.declared.calls.Plan.{Plan}
use Rattle.journal.specs.declared.memories.Memories.{Memories}

-- How long the memories are: records and settings, times, ring and working memory, trial times, and slips.
pub record Sizes : Type 0 where
  pub tracks : ℕ
  pub runs : ℕ
  pub connections : ℕ
  pub settings : ℕ
  pub trial : ℕ
  pub slips : ℕ
  pub work : Lengths

-- each has its listed length
pub record AllListed (l : Sizes) : Type 0 where
  pub tracks : l.tracks ≡ 64
  pub runs : l.runs ≡ 512
  pub connections : l.connections ≡ 512
  pub settings : l.settings ≡ 4608
  pub trial : l.trial ≡ 1024
  pub slips : l.slips ≡ 512
  pub work : Listed l.work

-- A plan with its memories, but for those of the ring, of trials and of work.
pub record State (K : Type 0) : Type 0 where
  pub plan : Plan
  pub records : Lists K
  pub times : List K
  pub slips : List (Option Slip)

-- How long the memories are that are lent beside working memory.
pub record MemoryLengths : Type 0 where
  pub tracks : ℕ
  pub runs : ℕ
  pub connections : ℕ
  pub settings : ℕ
  pub times : ℕ
  pub trial : ℕ
  pub ring : ℕ
  pub slips : ℕ

module _ {K : Type 0} where
  abbrev pub sizes : Memories K → Work K → Sizes
  sizes m w = record {
    tracks = length m.tracks.now;
    runs = length m.runs.now;
    connections = length m.connections.now;
    settings = length m.settings.now;
    trial = length m.trial.now;
    slips = length m.slips.now;
    work = lengths (length m.times.now) (length m.ring.now) (work_lengths w);
  }

  abbrev pub lists_held : Memories K → Lists K
  lists_held m = lists m.tracks.now m.runs.now m.connections.now m.settings.now

  abbrev pub state : Plan → Memories K → State K
  state p m = record { plan = p; records = lists_held m; times = m.times.now; slips = m.slips.now }

  abbrev pub memory_lengths : Memories K → MemoryLengths
  memory_lengths m = record {
    tracks = length m.tracks.now;
    runs = length m.runs.now;
    connections = length m.connections.now;
    settings = length m.settings.now;
    times = length m.times.now;
    trial = length m.trial.now;
    ring = length m.ring.now;
    slips = length m.slips.now;
  }

  -- the same memories are lent after a call as before it, as long as they were
  pub record SameMemories (m m' : Memories K) : Type 0 where
    pub tracks : m'.tracks.ghost_name ≡ m.tracks.ghost_name
    pub runs : m'.runs.ghost_name ≡ m.runs.ghost_name
    pub connections : m'.connections.ghost_name ≡ m.connections.ghost_name
    pub settings : m'.settings.ghost_name ≡ m.settings.ghost_name
    pub times : m'.times.ghost_name ≡ m.times.ghost_name
    pub trial : m'.trial.ghost_name ≡ m.trial.ghost_name
    pub ring : m'.ring.ghost_name ≡ m.ring.ghost_name
    pub slips : m'.slips.ghost_name ≡ m.slips.ghost_name
    pub long : memory_lengths m' ≡ memory_lengths m
