-- Registers and the bytes of their settings.
use Rattle.std.proofs.Common.{◌≡◌, ℕ, ◌+◌, ◌≤◌, List, length, get_or, subst, arith}
use Rattle.kinds.specs.Time.{Time}
use Rattle.records.specs.declared.Run.{Run}
use Rattle.records.specs.declared.Track.{Track}
use Rattle.records.specs.declared.Connection.{Connection}
use Rattle.records.specs.Records.{track_of, OnTracks}
use Rattle.records.specs.Places.{total, place}
use Rattle.records.specs.Register.{Register, register_from}
use Rattle.records.specs.Stored.{FlagsStored, TracksStored, RunsStored, ConnectionsStored, Limits}
use Rattle.records.proofs.Counts.{place_below, place_at}

module _ {K : Type 0} (t : Time K) (tracks : List (Track K)) (runs : List (Run K)) (connections : List (Connection K)) (settings : List ℕ) where
  -- how many orders the runs have
  abbrev pub orders : ℕ
  orders = total (track_of t runs) (length runs)

  -- what the bytes hold is what the settings are
  pub limits_from : length tracks ≤ 64 → length runs ≤ 512 → length connections ≤ 512 → orders ≤ 4096 → TracksStored t tracks → RunsStored t (length tracks) runs → ConnectionsStored t (length runs) connections → FlagsStored settings 0 orders → FlagsStored settings 4096 (length connections) → Limits t (register_from t tracks runs connections settings)
  limits_from a b c d e f g flags links = record {
    few_tracks = a;
    few_runs = b;
    few_connections = c;
    few_orders = d;
    tracks = e;
    runs = f;
    connections = g;
    orders = λ i j o. (let h = flags.each (place (track_of t runs) i j) (place_below (track_of t runs) (length runs) i j o) in let z : 0 + place (track_of t runs) i j ≡ place (track_of t runs) i j = omega arith in let P : ℕ → Type 0 = λ k. get_or settings k 0 ≤ 1 in subst P z h);
    links = links.each;
  }

  pub order_flags : Limits t (register_from t tracks runs connections settings) → FlagsStored settings 0 orders
  order_flags s = record { each = λ k h. (let r = place_at (track_of t runs) (length runs) k h in let e : place (track_of t runs) r.0 r.1 ≡ 0 + k = omega (arith, r.3) in let P : ℕ → Type 0 = λ k. get_or settings k 0 ≤ 1 in subst P e (s.orders r.0 r.1 r.2)) }

  pub link_flags : Limits t (register_from t tracks runs connections settings) → FlagsStored settings 4096 (length connections)
  link_flags s = record { each = s.links }

-- each run of a register that keeps the limits names one of 64 tracks
pub on_tracks : {K : Type 0} (t : Time K) (R : Register K) → Limits t R → OnTracks t R.runs
on_tracks t R limits k h = let on = (limits.runs.each k h).0.1.0 in omega (arith, limits.few_tracks)
