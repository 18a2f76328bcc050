-- Least times cost least, and what a delay cost depends on.
use Rattle.std.proofs.Common.{◌≡◌, ℕ, ◌+◌, ◌*◌, ◌<◌, ◌≤◌, cond, ◌&&◌, eqb, List, length, refl, ap, ◌∙◌, inl, inr, arith}
use Rattle.std.proofs.lemmas.Nat.{mul-le}
use Rattle.std.proofs.lemmas.Bool.{cases_eq, ne_eqb}
use Rattle.kinds.specs.Time.{Time, Laws}
use Rattle.network.specs.Network.{Table, Meets, Least}
use Rattle.records.specs.declared.Track.{Track}
use Rattle.records.specs.declared.Run.{Run}
use Rattle.records.specs.declared.Connection.{Connection}
use Rattle.records.specs.Places.{Ordered}
use Rattle.records.specs.Register.{Register}
use Rattle.records.specs.Stored.{Limits}
use Rattle.force.specs.Force.{arrival_of, run_in, track_in, track_under, connection_in}
use Rattle.force.specs.Constraints.{in_force}
use Rattle.cost.specs.Cost.{late_cost_lem, break_cost, turn_cost, turn_costs, delay_cost_lem}
use Rattle.cost.proofs.Sums.{sum_same, sum_mono}

module _ {K : Type 0} (t : Time K) where
  -- no run of a table that meets what is in force arrives earlier than in the least one
  pub cheapest : Laws t → (R : Register K) → Limits t R → (time : ℕ → K) → Least t (in_force t R) time → (other : ℕ → K) → Table t (in_force t R) other → Meets t (in_force t R) other → delay_cost_lem t R time ≤ delay_cost_lem t R other
  cheapest laws R limits time least other table meets =
      let late = sum_mono (late_cost_lem t R time) (late_cost_lem t R other) (length R.runs) (λ r h.
      (let inside : 2 * r + 1 < 2 * length R.runs = omega arith in
      let small = (limits.runs.each r h).1.0.1.0 in
      let a = least.table (2 * r + 1) inside in
      let b = table (2 * r + 1) inside in
      let up = least.least other table meets (2 * r + 1) inside in
      let m = laws.late_mono (time (2 * r + 1)) (other (2 * r + 1)) (run_in t R r).arrival (omega arith) (omega arith) up in
      mul-le _ _ (run_in t R r).weight _ (omega arith) m)) in
      omega arith

  -- only the times of the arrivals of entered runs count
  pub cost_same : (R : Register K) (time other : ℕ → K) → ((v : ℕ) → v < 2 * length R.runs → time v ≡ other v) → delay_cost_lem t R time ≡ delay_cost_lem t R other
  cost_same R time other same =
      let late = sum_same (late_cost_lem t R time) (late_cost_lem t R other) (length R.runs) (λ r h.
      ap (λ x. (run_in t R r).weight * t.late x (run_in t R r).arrival) (same (arrival_of r) (omega arith))) in
      omega arith

  turn_same : (R : Register K) (order : ℕ → ℕ → ℕ) (j i : ℕ) → (track_in t R i ≡ track_in t R j → R.order i j ≡ order i j) → turn_cost t R j i ≡ cond (eqb (track_in t R i) (track_in t R j) && eqb (order i j) 1) (track_under t R j).penalty 0
  turn_same R order j i same =
      elim (cases_eq (track_in t R i) (track_in t R j)) [
        | inl e ↦ rw (same e) refl
        | inr ne ↦ (let off = ne_eqb (track_in t R i) (track_in t R j) ne in rw off refl)
      ]

  -- only the settings of entered orders and connections count
  pub settings_alike : (R : Register K) (order : ℕ → ℕ → ℕ) (link : ℕ → ℕ) (time : ℕ → K) → ((i j : ℕ) → Ordered (track_in t R) (length R.runs) i j → R.order i j ≡ order i j) → ((c : ℕ) → c < length R.connections → R.link c ≡ link c) → delay_cost_lem t R time ≡ delay_cost_lem t (record { tracks = R.tracks; runs = R.runs; connections = R.connections; order = order; link = link }) time
  settings_alike R order link time orders links =
      let S : Register K = record { tracks = R.tracks; runs = R.runs; connections = R.connections; order = order; link = link } in
      let broken = sum_same (break_cost t R) (break_cost t S) (length R.connections) (λ c h. ap (λ (b : ℕ). cond (eqb b 1) (connection_in t R c).penalty 0) (links c h)) in
      let turned = sum_same (turn_costs t R) (turn_costs t S) (length R.runs) (λ j h.
      sum_same (turn_cost t R j) (turn_cost t S j) j (λ i l. turn_same R order j i (λ e. orders i j (record { below = l; inside = h; shared = e })))) in
      omega arith

  pub cost_alike : (R S : Register K) (time : ℕ → K) → R.tracks ≡ S.tracks → R.runs ≡ S.runs → R.connections ≡ S.connections → ((i j : ℕ) → Ordered (track_in t R) (length R.runs) i j → R.order i j ≡ S.order i j) → ((c : ℕ) → c < length R.connections → R.link c ≡ S.link c) → delay_cost_lem t R time ≡ delay_cost_lem t S time
  cost_alike R S time tracks runs connections orders links =
      let with : List (Track K) → List (Run K) → List (Connection K) → Register K = λ a b c. record { tracks = a; runs = b; connections = c; order = S.order; link = S.link } in
      settings_alike R S.order S.link time orders links
      ∙ ap (λ a. delay_cost_lem t (with a R.runs R.connections) time) tracks
      ∙ ap (λ b. delay_cost_lem t (with S.tracks b R.connections) time) runs
      ∙ ap (λ c. delay_cost_lem t (with S.tracks S.runs c) time) connections
