-- What a taken call does to a register, and when two registers say the same. Assumes nothing.
use Rattle.std.specs.Prelude.{◌≡◌, ℕ, ◌/◌, ◌%◌, ◌<◌, cond, ◌&&◌, [], ◌∷◌, ◌++◌, length, Option, ◌==◌, slice_set}
use Rattle.kinds.specs.Time.{Time}
use Rattle.records.specs.declared.Track.{Track}
use Rattle.records.specs.declared.Run.{Run}
use Rattle.records.specs.declared.Connection.{Connection}
use Rattle.records.specs.Records.{run_at, track_of}
use Rattle.records.specs.Places.{Ordered}
use Rattle.records.specs.Register.{Register}
use Rattle.rules.specs.declared.switches.Switch.{Switch}
use Rattle.rules.specs.declared.switches.Switch.TheVariants as switch
use Rattle.plan.specs.Steps.{unused, reported, holding}

module _ {K : Type 0} where
  -- nothing is entered, and every setting is 0
  abbrev pub empty : Register K
  empty = record { tracks = []; runs = []; connections = []; order = λ i j. 0; link = λ c. 0 }

  abbrev pub enter_track : Register K → Track K → Register K
  enter_track R x = record {
    tracks = R.tracks ++ x ∷ [];
    runs = R.runs;
    connections = R.connections;
    order = R.order;
    link = R.link;
  }

  -- the run is neither reported nor held, and in each of its orders the earlier run is ahead
  abbrev pub enter_run : Register K → Run K → Register K
  enter_run R x = record {
    tracks = R.tracks;
    runs = R.runs ++ unused x ∷ [];
    connections = R.connections;
    order = λ i j. cond (j == length R.runs) 0 (R.order i j);
    link = R.link;
  }

  -- the connection is kept
  abbrev pub enter_connection : Register K → Connection K → Register K
  enter_connection R x = record {
    tracks = R.tracks;
    runs = R.runs;
    connections = R.connections ++ x ∷ [];
    order = R.order;
    link = λ c. cond (c == length R.connections) 0 (R.link c);
  }

  -- one order or one connection has another setting
  abbrev pub set_switch : Register K → Switch → ℕ → Register K
  set_switch R (switch.Order i j) setting = record {
    tracks = R.tracks;
    runs = R.runs;
    connections = R.connections;
    order = λ k l. cond (k == i && l == j) setting (R.order k l);
    link = R.link;
  }
  set_switch R (switch.Connection c) setting = record {
    tracks = R.tracks;
    runs = R.runs;
    connections = R.connections;
    order = R.order;
    link = λ d. cond (d == c) setting (R.link d);
  }

  -- run r is another
  abbrev pub with_run : Register K → ℕ → Run K → Register K
  with_run R r x = record {
    tracks = R.tracks;
    runs = slice_set R.runs r x;
    connections = R.connections;
    order = R.order;
    link = R.link;
  }

  module _ (t : Time K) where
    -- event v is reported: an even one is the departure of run v / 2, an odd one its arrival
    abbrev pub report : Register K → ℕ → K → Register K
    report R v at = with_run R (v / 2) (reported (run_at t R.runs (v / 2)) (v % 2) at)

    -- run r is held until a time, or no more
    abbrev pub hold : Register K → ℕ → Option K → Register K
    hold R r until = with_run R r (holding (run_at t R.runs r) until)

    -- Two registers say the same: equal records, and equal settings of the orders and connections that they have. What they hold
    -- elsewhere is of no account.
    pub record Same (R S : Register K) : Type 0 where
      pub tracks : R.tracks ≡ S.tracks
      pub runs : R.runs ≡ S.runs
      pub connections : R.connections ≡ S.connections
      pub orders : (i j : ℕ) → Ordered (track_of t R.runs) (length R.runs) i j → R.order i j ≡ S.order i j
      pub links : (c : ℕ) → c < length R.connections → R.link c ≡ S.link c
