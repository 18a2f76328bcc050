-- Rings by computation: an order of two runs, an arc that no other passes, and a ring that leaves no table.
use Rattle.std.proofs.Common.{◌≡◌, ℕ, ◌*◌, Bool, true, cond, ◌&&◌, eqb, ltb, leb, List, [], ◌∷◌, length}
use Rattle.std.specs.List.{AllByRecursion}
use Rattle.std.proofs.lemmas.Bool.{and_parts, and_from, ltb-true, leb-true, eqb-true, eq-eqb}
use Rattle.kinds.specs.Time.{Time, Laws}
use Rattle.network.specs.declared.Arc.{Arc}
use Rattle.network.specs.Network.{Foremost, Ring, NoTable}
use Rattle.network.proofs.Tables.{no_ring}
use Rattle.records.specs.Places.{Ordered}
use Rattle.records.specs.Register.{Register}
use Rattle.force.specs.Force.{track_in}
use Rattle.force.specs.Constraints.{arcs_in_force, in_force}
use Rattle.worked.proofs.Every.{every_arc, passes, asked}
use Rattle.worked.proofs.Least.{arc_fits, fit_by}

module _ {K : Type 0} (t : Time K) (R : Register K) where
  abbrev pub is_order : ℕ → ℕ → Bool
  is_order i j = ltb i j && (ltb j (length R.runs) && eqb (track_in t R i) (track_in t R j))

  pub ordered : (i j : ℕ) → is_order i j ≡ true → Ordered (track_in t R) (length R.runs) i j
  ordered i j h =
      let rest = and_parts (ltb j (length R.runs)) (eqb (track_in t R i) (track_in t R j)) (and_parts (ltb i j) _ h).1 in
      record { below = ltb-true i j (and_parts (ltb i j) _ h).0; inside = ltb-true _ _ rest.0; shared = eqb-true _ _ rest.1 }

  -- an arc between the ends of a is not longer
  abbrev pub not_past : Arc K → Arc K → Bool
  not_past a b = cond (eqb b.from a.from && eqb b.to a.to) (t.before b.duration a.duration) true

  foremost_by : (a : Arc K) → every_arc (not_past a) t R ≡ true → Foremost t (arcs_in_force t R) a
  foremost_by a h b has starts ends = asked _ _ (passes (not_past a) t R h b has) (and_from _ _ (eq-eqb _ _ starts) (eq-eqb _ _ ends))

  -- no arc of a circuit is passed by another
  abbrev pub none_past : List (Arc K) → Bool
  none_past [] = true
  none_past (a ∷ rest) = every_arc (not_past a) t R && none_past rest

  pub foremosts_by : (circuit : List (Arc K)) → none_past circuit ≡ true → AllByRecursion (Foremost t (arcs_in_force t R)) circuit
  foremosts_by [] h = tt
  foremosts_by (a ∷ rest) h =
      let parts = and_parts (every_arc (not_past a) t R) (none_past rest) h in
      (foremost_by a parts.0, foremosts_by rest parts.1)

  pub no_table_by : Laws t → leb (2 * length R.runs) 1024 ≡ true → every_arc (arc_fits t R) t R ≡ true → (circuit : List (Arc K)) → Ring t (arcs_in_force t R) circuit → NoTable t (in_force t R)
  no_table_by laws few fits circuit ring time table meets = no_ring laws (in_force t R) (fit_by t R (arc_fits t R) (λ a m. m) fits) (leb-true _ _ few) time table meets circuit ring
