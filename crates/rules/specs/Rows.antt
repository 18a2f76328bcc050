-- The refusals of each call on a plan, before the reckoning: which rows it has, by rising number, and when each applies.
-- Assumes nothing.
use Rattle.std.specs.Prelude.{◌≡◌, ℕ, ◌+◌, ◌*◌, ◌/◌, ◌%◌, ◌<◌, ◌≤◌, false, ◌⊎◌, List, [], ◌∷◌, ◌++◌, length, IfSome, MatchOption, Some, None, Option, unwrap_or, ◌≢◌}
use Rattle.kinds.specs.Time.{Time}
use Rattle.network.specs.Refusals.{Row, row}
use Rattle.records.specs.declared.Track.{Track}
use Rattle.records.specs.declared.Run.{Run}
use Rattle.records.specs.declared.Connection.{Connection}
use Rattle.records.specs.Records.{run_at, connection_at, track_of}
use Rattle.records.specs.Places.{total, count, place}
use Rattle.records.specs.Register.{Register, Memory, register_of}
use Rattle.records.specs.Stored.{Stored, Drafted, Shown}
use Rattle.rules.specs.declared.switches.Switch.{Switch}
use Rattle.rules.specs.declared.switches.Switch.TheVariants as switch

-- there is something
abbrev pub Given : {X : Type 0} → Option X → Type 0
Given None = ⊥
Given (Some x) = Unit {0}

-- a number that is not below n, where there is one
abbrev pub NotEarlier : ℕ → Option ℕ → Type 0
NotEarlier n o = MatchOption o ⊥ (λ p. n ≤ p)

module _ {K : Type 0} where
  -- the memories of records and settings have their lengths
  pub record RecordsListed (m : Memory K) : Type 0 where
    pub tracks : length m.tracks ≡ 64
    pub runs : length m.runs ≡ 512
    pub connections : length m.connections ≡ 512
    pub settings : length m.settings ≡ 4608

  module _ (t : Time K) where
    -- every call on a draft
    abbrev pub draft_rows : Memory K → List Row
    draft_rows m =
        row 1 0 (RecordsListed m → ⊥)
        ∷ row 2 0 (Stored t m → ⊥)
        ∷ row 2 0 (Drafted t (register_of t m) → ⊥)
        ∷ []

    -- what is known of the memory of a draft where no such row applies
    pub record SoundDraft (m : Memory K) : Type 0 where
      pub listed : RecordsListed m
      pub stored : Stored t m
      pub drafted : Drafted t (register_of t m)

    -- every call on an open plan that shows times
    abbrev pub open_rows : Memory K → List K → List Row
    open_rows m shown =
        row 1 0 (RecordsListed m → ⊥)
        ∷ row 1 0 (length shown ≢ 1024)
        ∷ row 2 0 (Stored t m → ⊥)
        ∷ row 2 0 (Shown t shown (2 * m.run_count) → ⊥)
        ∷ []

    -- what is known of the memory of an open plan where no such row applies
    pub record SoundOpen (m : Memory K) (shown : List K) : Type 0 where
      pub listed : RecordsListed m
      pub long : length shown ≡ 1024
      pub stored : Stored t m
      pub sized : Shown t shown (2 * m.run_count)

    -- a time over its size; a duration over its size or before nothing
    abbrev pub Over : K → Type 0
    Over x = 1000000 < t.size x

    abbrev pub NoDuration : K → Type 0
    NoDuration d = (100000 < t.size d) ⊎ (t.before t.none d ≡ false)

    -- entering a track into a register
    abbrev pub track_rows : Register K → Track K → List Row
    track_rows R x =
        row 5 0 (NoDuration x.headway ⊎ NoDuration x.meeting)
        ∷ row 6 0 (64 ≤ length R.tracks)
        ∷ row 7 0 (1000000 < x.penalty)
        ∷ []

    -- how many orders there are with one more run on track x
    abbrev pub orders_with : Register K → ℕ → ℕ
    orders_with R x = total (track_of t R.runs) (length R.runs) + count (track_of t R.runs) x (length R.runs)

    abbrev pub run_rows : Register K → Run K → List Row
    run_rows R x =
        row 3 x.track (length R.tracks ≤ x.track)
        ∷ row 3 (unwrap_or x.predecessor 0) (NotEarlier (length R.runs) x.predecessor)
        ∷ row 4 0 (Over x.departure ⊎ Over x.arrival)
        ∷ row 5 0 (NoDuration x.running ⊎ NoDuration x.dwell)
        ∷ row 6 0 ((512 ≤ length R.runs) ⊎ (4096 < orders_with R x.track))
        ∷ row 7 0 ((1000 < x.weight) ⊎ (1 < x.direction))
        ∷ []

    abbrev pub connection_rows : Register K → Connection K → List Row
    connection_rows R x =
        row 3 x.feeder (length R.runs ≤ x.feeder)
        ∷ row 3 x.onward (length R.runs ≤ x.onward)
        ∷ row 3 x.onward (x.feeder ≡ x.onward)
        ∷ row 5 0 (NoDuration x.time)
        ∷ row 6 0 (512 ≤ length R.connections)
        ∷ row 7 0 (1000000 < x.penalty)
        ∷ []

    -- a switch that names no order or connection; of a pair that is bad as a pair the second number is told
    abbrev pub switch_rows : Register K → Switch → List Row
    switch_rows R (switch.Order i j) =
        row 3 i (length R.runs ≤ i)
        ∷ row 3 j (length R.runs ≤ j)
        ∷ row 3 j (j ≤ i)
        ∷ row 3 j (track_of t R.runs i ≢ track_of t R.runs j)
        ∷ []
    switch_rows R (switch.Connection c) = row 3 c (length R.connections ≤ c) ∷ []

    -- where the setting of a switch has its byte
    abbrev pub setting_place : Register K → Switch → ℕ
    setting_place R (switch.Order i j) = place (track_of t R.runs) i j
    setting_place R (switch.Connection c) = 4096 + c

    -- that place, which lies within the bytes of the settings
    pub record PlaceOf (R : Register K) (s : Switch) (x : ℕ) : Type 0 where
      pub is : x ≡ setting_place R s
      pub inside : x < 4608

    -- the setting of a switch
    abbrev pub setting_of : Register K → Switch → ℕ
    setting_of R (switch.Order i j) = R.order i j
    setting_of R (switch.Connection c) = R.link c

    abbrev pub setting_rows : Register K → Switch → ℕ → List Row
    setting_rows R s setting =
        switch_rows R s ++ row 7 0 (1 < setting) ∷ row 8 0 (setting_of R s ≡ setting) ∷ []

    -- the departure of a run is reported
    abbrev pub Departed : Register K → ℕ → Type 0
    Departed R r = Given (run_at t R.runs r).departed

    -- what a switch changes has departed
    abbrev pub TooLate : Register K → Switch → Type 0
    TooLate R (switch.Order i j) = Departed R i ⊎ Departed R j
    TooLate R (switch.Connection c) = Departed R (connection_at t R.connections c).onward

    abbrev pub turning_rows : Register K → Switch → ℕ → List Row
    turning_rows R s setting = setting_rows R s setting ++ row 9 0 (TooLate R s) ∷ []

    abbrev pub event_rows : Register K → ℕ → List Row
    event_rows R v = row 3 v (2 * length R.runs ≤ v) ∷ []

    -- A departure cannot be reported once its arrival is; an arrival only once its departure is, and not before it.
    abbrev pub Untimely : Run K → ℕ → K → Type 0
    Untimely x side at = ((side ≡ 0) × Given x.arrived) ⊎ ((side ≡ 1) × IfSome x.departed (λ d. t.before d at ≡ false))

    abbrev pub report_rows : Register K → ℕ → K → List Row
    report_rows R v at =
        row 3 v (2 * length R.runs ≤ v)
        ∷ row 4 0 (Over at)
        ∷ row 10 0 (Untimely (run_at t R.runs (v / 2)) (v % 2) at)
        ∷ []

    abbrev pub hold_rows : Register K → ℕ → K → List Row
    hold_rows R r until =
        row 3 r (length R.runs ≤ r)
        ∷ row 4 0 (Over until)
        ∷ row 8 0 (Given (run_at t R.runs r).hold)
        ∷ row 9 0 (Departed R r)
        ∷ []

    -- a slip of another plan, or of a run that is not held
    abbrev pub release_rows : Register K → ℕ → ℕ → ℕ → List Row
    release_rows R plan slip_plan slip_run =
        row 11 0 (slip_plan ≢ plan)
        ∷ row 11 0 (length R.runs ≤ slip_run)
        ∷ row 11 0 (Given (run_at t R.runs slip_run).hold → ⊥)
        ∷ []
