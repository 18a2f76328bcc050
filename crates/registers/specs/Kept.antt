-- To say the same is an equivalence of registers that each step keeps. Assumes nothing.
use Rattle.std.specs.Prelude.{ℕ, Option}
use Rattle.kinds.specs.Time.{Time}
use Rattle.records.specs.declared.Track.{Track}
use Rattle.records.specs.declared.Run.{Run}
use Rattle.records.specs.declared.Connection.{Connection}
use Rattle.records.specs.Register.{Register}
use Rattle.rules.specs.declared.switches.Switch.{Switch}
use Rattle.registers.specs.Steps.{Same, enter_track, enter_run, enter_connection, set_switch, report, hold}

module _ {K : Type 0} (t : Time K) where
  -- one step on both, whatever it names, and they still say the same
  pub record StepsKept (R S : Register K) : Type 0 where
    pub track : (x : Track K) → Same t (enter_track R x) (enter_track S x)
    pub run : (x : Run K) → Same t (enter_run R x) (enter_run S x)
    pub connection : (x : Connection K) → Same t (enter_connection R x) (enter_connection S x)
    pub switch : (s : Switch) (setting : ℕ) → Same t (set_switch R s setting) (set_switch S s setting)
    pub report : (v : ℕ) (at : K) → Same t (report t R v at) (report t S v at)
    pub hold : (r : ℕ) (until : Option K) → Same t (hold t R r until) (hold t S r until)

  pub record SameKept : Type 0 where
    pub reflexive : (R : Register K) → Same t R R
    pub symmetric : (R S : Register K) → Same t R S → Same t S R
    pub transitive : (R S T : Register K) → Same t R S → Same t S T → Same t R T
    pub steps : (R S : Register K) → Same t R S → StepsKept R S
