-- A test of every arc in force that computes: what passes it holds of each arc.
use Rattle.std.proofs.Common.{◌≡◌, ℕ, zero, suc, ◌+◌, ◌*◌, ◌<◌, Bool, true, cond, ◌&&◌, eqb, length, Some, None, Option, sym, ◌∙◌, subst, inl, inr, arith, MatchOption}
use Rattle.std.proofs.lemmas.Bool.{and_parts, cases_eq, eq-eqb, ne_eqb, cond-true, cond-false}
use Rattle.kinds.specs.Time.{Time}
use Rattle.network.specs.declared.Arc.{Arc}
use Rattle.records.specs.declared.Track.{Track}
use Rattle.records.specs.declared.Run.{Run}
use Rattle.records.specs.Register.{Register}
use Rattle.force.specs.Force.{Joins, Departures, Arrivals, Meeting, Ahead, InForce, running, dwell, connection, departures, arrivals, meeting, run_in, track_in, track_under, connection_in}

-- the numbers below n all pass
abbrev pub below : ℕ → (ℕ → Bool) → Bool
below zero p = true
below (suc n) p = p n && below n p

pub below_at : (n : ℕ) (p : ℕ → Bool) → below n p ≡ true → (k : ℕ) → k < n → p k ≡ true
below_at zero p h k l = absurd (omega arith)
below_at (suc n) p h k l =
    let parts = and_parts (p n) (below n p) h in
    elim (cases_eq k n) [
      | inl e ↦ (let P : ℕ → Type 0 = λ i. p i ≡ true in subst P (sym e) parts.0)
      | inr ne ↦ below_at n p parts.1 k (omega arith)
    ]

-- a test that is asked only where b holds
pub asked : (b x : Bool) → cond b x true ≡ true → b ≡ true → x ≡ true
asked b x h e = sym (cond-true b x true e) ∙ h

module _ {K : Type 0} (p : Arc K → Bool) where
  -- the arc from u to v passes, unless its end is reported
  abbrev pub joins : Option K → ℕ → ℕ → K → Bool
  joins None u v w = p (record { from = u; to = v; duration = w })
  joins (Some x) u v w = true

  joins_pass : (o : Option K) (u v : ℕ) (w : K) (a : Arc K) → joins o u v w ≡ true → Joins o u v w a → p a ≡ true
  joins_pass None u v w a h e = let P : Arc K → Type 0 = λ b. p b ≡ true in subst P (sym e) h
  joins_pass (Some x) u v w a h e = absurd e

  -- the arcs of run r, which is x
  abbrev pub dwells : ℕ → Run K → Option ℕ → Bool
  dwells r x None = true
  dwells r x (Some q) = joins x.departed (2 * q + 1) (2 * r) x.dwell

  abbrev pub of_run : ℕ → Run K → Bool
  of_run r x = joins x.arrived (2 * r) (2 * r + 1) x.running && dwells r x x.predecessor

  dwells_pass : (r : ℕ) (x : Run K) (o : Option ℕ) (a : Arc K) → dwells r x o ≡ true → MatchOption o ⊥ (λ q. Joins x.departed (2 * q + 1) (2 * r) x.dwell a) → p a ≡ true
  dwells_pass r x None a h d = absurd d
  dwells_pass r x (Some q) a h d = joins_pass x.departed (2 * q + 1) (2 * r) x.dwell a h d

  -- run u, which is x, ahead of run v, which is y
  abbrev pub follows : Track K → ℕ → Run K → ℕ → Run K → Bool
  follows k u x v y =
      cond (eqb x.direction y.direction)
      (joins y.departed (2 * u) (2 * v) k.headway && joins y.arrived (2 * u + 1) (2 * v + 1) k.headway)
      (joins y.departed (2 * u + 1) (2 * v) k.meeting)

  module _ (k : Track K) (u : ℕ) (x : Run K) (v : ℕ) (y : Run K) (h : follows k u x v y ≡ true) where
    one_way : x.direction ≡ y.direction → (joins y.departed (2 * u) (2 * v) k.headway && joins y.arrived (2 * u + 1) (2 * v + 1) k.headway) ≡ true
    one_way e = sym (cond-true _ _ _ (eq-eqb _ _ e)) ∙ h

    departures_pass : (a : Arc K) → Departures k u x v y a → p a ≡ true
    departures_pass a d = joins_pass y.departed (2 * u) (2 * v) k.headway a (and_parts _ _ (one_way d.0)).0 d.1

    arrivals_pass : (a : Arc K) → Arrivals k u x v y a → p a ≡ true
    arrivals_pass a d = joins_pass y.arrived (2 * u + 1) (2 * v + 1) k.headway a (and_parts _ _ (one_way d.0)).1 d.1

    meeting_pass : (a : Arc K) → Meeting k u x v y a → p a ≡ true
    meeting_pass a d = joins_pass y.departed (2 * u + 1) (2 * v) k.meeting a (sym (cond-false _ _ _ (ne_eqb _ _ d.0)) ∙ h) d.1

  module _ (t : Time K) (R : Register K) where
    -- run j and an earlier run i on its track, whichever is ahead
    abbrev pub order_of : ℕ → ℕ → Bool
    order_of j i =
        cond (eqb (track_in t R i) (track_in t R j))
        (cond (eqb (R.order i j) 0) (follows (track_under t R j) i (run_in t R i) j (run_in t R j)) true
        && cond (eqb (R.order i j) 1) (follows (track_under t R i) j (run_in t R j) i (run_in t R i)) true)
        true

    abbrev pub connection_of_lem : ℕ → Bool
    connection_of_lem c = cond (eqb (R.link c) 0) (joins (run_in t R (connection_in t R c).onward).departed (2 * (connection_in t R c).feeder + 1) (2 * (connection_in t R c).onward) (connection_in t R c).time) true

    -- every arc in force passes
    abbrev pub every_run : Bool
    every_run = below (length R.runs) (λ r. of_run r (run_in t R r))

    abbrev pub every_order : Bool
    every_order = below (length R.runs) (λ j. below j (order_of j))

    abbrev pub every_connection : Bool
    every_connection = below (length R.connections) connection_of_lem

    abbrev pub every_arc : Bool
    every_arc = every_run && (every_order && every_connection)

    module _ (h : every_arc ≡ true) where
      orders_and_connections : (every_order && every_connection) ≡ true
      orders_and_connections = (and_parts every_run _ h).1

      run_passes : (r : ℕ) → r < length R.runs → of_run r (run_in t R r) ≡ true
      run_passes r l = below_at _ (λ r. of_run r (run_in t R r)) (and_parts every_run _ h).0 r l

      order_passes : (i j : ℕ) → i < j → j < length R.runs → order_of j i ≡ true
      order_passes i j l m = below_at j (order_of j) (below_at _ (λ j. below j (order_of j)) (and_parts every_order every_connection orders_and_connections).0 j m) i l

      ahead_passes : (u v : ℕ) → Ahead t R u v → follows (track_under t R v) u (run_in t R u) v (run_in t R v) ≡ true
      ahead_passes u v (inl a) =
          let both = and_parts _ _ (asked _ _ (order_passes u v a.0.below a.0.inside) (eq-eqb _ _ a.0.shared)) in
          asked _ _ both.0 (eq-eqb _ _ a.1)
      ahead_passes u v (inr a) =
          let both = and_parts _ _ (asked _ _ (order_passes v u a.0.below a.0.inside) (eq-eqb _ _ a.0.shared)) in
          asked _ _ both.1 (eq-eqb _ _ a.1)

      pub passes : (a : Arc K) → InForce t R a → p a ≡ true
      passes a (running r l d) = joins_pass _ _ _ _ a (and_parts _ _ (run_passes r l)).0 d
      passes a (dwell r l d) = dwells_pass r (run_in t R r) (run_in t R r).predecessor a (and_parts _ _ (run_passes r l)).1 d
      passes a (connection c l e d) = joins_pass _ _ _ _ a (asked _ _ (below_at _ connection_of_lem (and_parts every_order every_connection orders_and_connections).1 c l) (eq-eqb _ _ e)) d
      passes a (departures u v b d) = departures_pass (track_under t R v) u (run_in t R u) v (run_in t R v) (ahead_passes u v b) a d
      passes a (arrivals u v b d) = arrivals_pass (track_under t R v) u (run_in t R u) v (run_in t R v) (ahead_passes u v b) a d
      passes a (meeting u v b d) = meeting_pass (track_under t R v) u (run_in t R u) v (run_in t R v) (ahead_passes u v b) a d
