-- Registers that say the same put the same in force.
use Rattle.std.proofs.Common.{◌≡◌, ℕ, ◌<◌, ◌≤◌, length, sym, refl, ◌∙◌, subst, inl, inr}
use Rattle.kinds.specs.Time.{Time}
use Rattle.network.specs.declared.Arc.{Arc}
use Rattle.records.specs.Records.{track_of}
use Rattle.records.specs.Places.{Ordered}
use Rattle.records.specs.Register.{Register}
use Rattle.records.specs.Stored.{Limits, Drafted}
use Rattle.force.specs.Force.{Ahead, InForce, running, dwell, connection, departures, arrivals, meeting}
use Rattle.force.specs.Constraints.{arcs_in_force, in_force}
use Rattle.force.proofs.Alike.{Alike, table_there, meets_there, least_there, no_table_there, ring_there, names_there}
use Rattle.cost.proofs.Costs.{cost_alike}
use Rattle.registers.specs.Steps.{Same}
use Rattle.registers.specs.Force.{ForceShared}
use Rattle.registers.proofs.Sames.{with_settings, at_same}

module _ {K : Type 0} (t : Time K) where
  -- settings that agree where there is an order or a connection
  module _ (R : Register K) (order other : ℕ → ℕ → ℕ) (link linked : ℕ → ℕ) (orders : (i j : ℕ) → Ordered (track_of t R.runs) (length R.runs) i j → order i j ≡ other i j) (links : (c : ℕ) → c < length R.connections → link c ≡ linked c) where
    ahead_there : (u v : ℕ) → Ahead t (with_settings R order link) u v → Ahead t (with_settings R other linked) u v
    ahead_there u v (inl h) = inl (h.0, sym (orders u v h.0) ∙ h.1)
    ahead_there u v (inr h) = inr (h.0, sym (orders v u h.0) ∙ h.1)

    in_force_there : (a : Arc K) → InForce t (with_settings R order link) a → InForce t (with_settings R other linked) a
    in_force_there a (running r i h) = running r i h
    in_force_there a (dwell r i h) = dwell r i h
    in_force_there a (connection c i e h) = connection c i (sym (links c i) ∙ e) h
    in_force_there a (departures u v h d) = departures u v (ahead_there u v h) d
    in_force_there a (arrivals u v h d) = arrivals u v (ahead_there u v h) d
    in_force_there a (meeting u v h d) = meeting u v (ahead_there u v h) d

  pub same_alike : (R S : Register K) → Same t R S → Alike (in_force t R) (in_force t S)
  same_alike R S h =
      let P : Register K → Type 0 = λ T. Alike (in_force t R) (in_force t T) in
      at_same t P R S h (record {
        events = refl;
        floors = λ v l. refl;
        there = λ a has. (a, in_force_there R R.order S.order R.link S.link h.orders h.links a has, refl);
        back = λ a has. (a, in_force_there R S.order R.order S.link R.link (λ i j o. sym (h.orders i j o)) (λ c l. sym (h.links c l)) a has, refl);
      })

  pub same_limits : (R S : Register K) → Same t R S → Limits t R → Limits t S
  same_limits R S h l =
      let P : Register K → Type 0 = Limits t in
      at_same t P R S h (record {
        few_tracks = l.few_tracks;
        few_runs = l.few_runs;
        few_connections = l.few_connections;
        few_orders = l.few_orders;
        tracks = l.tracks;
        runs = l.runs;
        connections = l.connections;
        orders = λ i j o. (let Q : ℕ → Type 0 = λ b. b ≤ 1 in subst Q (h.orders i j o) (l.orders i j o));
        links = λ c i. (let Q : ℕ → Type 0 = λ b. b ≤ 1 in subst Q (h.links c i) (l.links c i));
      })

  pub same_drafted : (R S : Register K) → Same t R S → Drafted t R → Drafted t S
  same_drafted R S h d = let P : Register K → Type 0 = Drafted t in at_same t P R S h (record { each = d.each })

  pub force_shared : (R S : Register K) → Same t R S → ForceShared t R S
  force_shared R S h =
      let a = same_alike R S h in
      record {
        table = table_there t (in_force t R) (in_force t S) a;
        meets = meets_there t (in_force t R) (in_force t S) a;
        least = least_there t (in_force t R) (in_force t S) a;
        no_table = no_table_there t (in_force t R) (in_force t S) a;
        has_ring = ring_there t (arcs_in_force t R) (arcs_in_force t S) a.there;
        names = names_there t (arcs_in_force t R) (arcs_in_force t S) a.there a.back;
        cost = λ time. cost_alike t R S time h.tracks h.runs h.connections h.orders h.links;
        limits = same_limits R S h;
        drafted = same_drafted R S h;
      }
