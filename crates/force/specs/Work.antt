-- The lengths of working memory, and which memory is lent. Assumes nothing.
use Rattle.std.specs.Prelude.{◌≡◌, ℕ, length}
use Rattle.force.specs.declared.work.Work.{Work}

-- how long the working memories are
pub record WorkLengths : Type 0 where
  pub places : ℕ
  pub floors : ℕ
  pub arcs : ℕ
  pub tables : ℕ
  pub marks : ℕ

-- each has its listed length
pub record WorkListed (l : WorkLengths) : Type 0 where
  pub places : l.places ≡ 512
  pub floors : l.floors ≡ 1024
  pub arcs : l.arcs ≡ 9728
  pub tables : l.tables ≡ 2048
  pub marks : l.marks ≡ 1050624

module _ {K : Type 0} where
  abbrev pub work_lengths : Work K → WorkLengths
  work_lengths w = record {
    places = length w.places.now;
    floors = length w.floors.now;
    arcs = length w.arcs.now;
    tables = length w.tables.now;
    marks = length w.marks.now;
  }

  -- the same memories are lent after a call as before it, as long as they were
  pub record SameWork (w w' : Work K) : Type 0 where
    pub places : w'.places.ghost_name ≡ w.places.ghost_name
    pub floors : w'.floors.ghost_name ≡ w.floors.ghost_name
    pub arcs : w'.arcs.ghost_name ≡ w.arcs.ghost_name
    pub tables : w'.tables.ghost_name ≡ w.tables.ghost_name
    pub marks : w'.marks.ghost_name ≡ w.marks.ghost_name
    pub long : work_lengths w' ≡ work_lengths w
