-- Each step keeps what registers say the same.
use Rattle.std.proofs.Common.{◌≡◌, ℕ, ◌/◌, ◌%◌, ◌<◌, cond, ◌&&◌, eqb, List, [], ◌∷◌, ◌++◌, length, set, Option, sym, refl, ap, ◌∙◌, subst, inl, inr, arith}
use Rattle.std.proofs.lemmas.List.{get_or-set_same, get_or-set_other, get_or_append_left, set_past, length-set, length_push}
use Rattle.std.proofs.lemmas.Bool.{cases_eq, cases_lt, eq-eqb}
use Rattle.kinds.specs.Time.{Time}
use Rattle.records.specs.declared.Track.{Track}
use Rattle.records.specs.declared.Run.{Run}
use Rattle.records.specs.declared.Connection.{Connection}
use Rattle.records.specs.Records.{run_at, track_of}
use Rattle.records.specs.Places.{Ordered}
use Rattle.records.specs.Register.{Register}
use Rattle.rules.specs.declared.switches.Switch.{Switch}
use Rattle.rules.specs.declared.switches.Switch.TheVariants as switch
use Rattle.plan.specs.Steps.{unused, reported, holding}
use Rattle.registers.specs.Steps.{Same, enter_track, enter_run, enter_connection, set_switch, with_run, report, hold}
use Rattle.registers.specs.Kept.{StepsKept, SameKept}
use Rattle.registers.proofs.Sames.{same_refl, same_sym, same_trans, at_same}

module _ {K : Type 0} (t : Time K) where
  -- one more run leaves the track of each earlier one
  pub track_before : (xs : List (Run K)) (x : Run K) (k : ℕ) → k < length xs → track_of t (xs ++ x ∷ []) k ≡ track_of t xs k
  track_before xs x k l = ap (λ (y : Run K). y.track) (get_or_append_left xs (x ∷ []) _ k l)

  pub ordered_before : (xs : List (Run K)) (x : Run K) (i j : ℕ) → j < length xs → Ordered (track_of t (xs ++ x ∷ [])) (length (xs ++ x ∷ [])) i j → Ordered (track_of t xs) (length xs) i j
  ordered_before xs x i j l o =
      let b = o.below in
      record {
        below = o.below;
        inside = l;
        shared = sym (track_before xs x i (omega arith)) ∙ o.shared ∙ track_before xs x j l;
      }

  -- another run on the same track leaves the track of each
  pub track_still : (xs : List (Run K)) (r : ℕ) (x : Run K) → x.track ≡ track_of t xs r → (k : ℕ) → track_of t (set xs r x) k ≡ track_of t xs k
  track_still xs r x e k =
      elim (cases_eq k r) [
        | inl same ↦
            (let P : ℕ → Type 0 = λ i. track_of t (set xs r x) i ≡ track_of t xs i in
            subst P (sym same) (elim (cases_lt r (length xs)) [
              | inl l ↦ ap (λ (y : Run K). y.track) (get_or-set_same xs r x _ l) ∙ e
              | inr l ↦ ap (λ ys. track_of t ys r) (set_past xs r x l)
            ]))
        | inr ne ↦ ap (λ (y : Run K). y.track) (get_or-set_other xs r k x _ ne)
      ]

  pub ordered_still : (xs : List (Run K)) (r : ℕ) (x : Run K) → x.track ≡ track_of t xs r → (i j : ℕ) → Ordered (track_of t (set xs r x)) (length (set xs r x)) i j → Ordered (track_of t xs) (length xs) i j
  ordered_still xs r x e i j o =
      let n = length-set xs r x in
      let l = o.inside in
      record {
        below = o.below;
        inside = omega arith;
        shared = sym (track_still xs r x e i) ∙ o.shared ∙ track_still xs r x e j;
      }

  module _ (R S : Register K) (h : Same t R S) where
    pub enter_track_kept : (x : Track K) → Same t (enter_track R x) (enter_track S x)
    enter_track_kept x =
        let P : Register K → Type 0 = λ T. Same t (enter_track R x) (enter_track T x) in
        at_same t P R S h (record { tracks = refl; runs = refl; connections = refl; orders = h.orders; links = h.links })

    pub enter_run_kept : (x : Run K) → Same t (enter_run R x) (enter_run S x)
    enter_run_kept x =
        let P : Register K → Type 0 = λ T. Same t (enter_run R x) (enter_run T x) in
        at_same t P R S h (record {
          tracks = refl;
          runs = refl;
          connections = refl;
          orders = λ i j o. elim (cases_eq j (length R.runs)) [
            | inl e ↦ (let b = eq-eqb j (length R.runs) e in rw b refl)
            | inr ne ↦
                (let n = length_push R.runs (unused x) in
                let l = o.inside in
                ap (λ (y : ℕ). cond (eqb j (length R.runs)) 0 y) (h.orders i j (ordered_before R.runs (unused x) i j (omega arith) o)))
          ];
          links = h.links;
        })

    pub enter_connection_kept : (x : Connection K) → Same t (enter_connection R x) (enter_connection S x)
    enter_connection_kept x =
        let P : Register K → Type 0 = λ T. Same t (enter_connection R x) (enter_connection T x) in
        at_same t P R S h (record {
          tracks = refl;
          runs = refl;
          connections = refl;
          orders = h.orders;
          links = λ c l. elim (cases_eq c (length R.connections)) [
            | inl e ↦ (let b = eq-eqb c (length R.connections) e in rw b refl)
            | inr ne ↦
                (let n = length_push R.connections x in
                ap (λ (y : ℕ). cond (eqb c (length R.connections)) 0 y) (h.links c (omega arith)))
          ];
        })

    -- whatever the switch names
    pub set_switch_kept : (s : Switch) (setting : ℕ) → Same t (set_switch R s setting) (set_switch S s setting)
    set_switch_kept (switch.Order i j) setting = record {
      tracks = h.tracks;
      runs = h.runs;
      connections = h.connections;
      orders = λ k l o. ap (λ (y : ℕ). cond (eqb k i && eqb l j) setting y) (h.orders k l o);
      links = h.links;
    }
    set_switch_kept (switch.Connection c) setting = record {
      tracks = h.tracks;
      runs = h.runs;
      connections = h.connections;
      orders = h.orders;
      links = λ d l. ap (λ (y : ℕ). cond (eqb d c) setting y) (h.links d l);
    }

    -- another run on the same track
    pub with_run_kept : (r : ℕ) (x : Run K) → x.track ≡ track_of t R.runs r → Same t (with_run R r x) (with_run S r x)
    with_run_kept r x e = record {
      tracks = h.tracks;
      runs = ap (λ xs. set xs r x) h.runs;
      connections = h.connections;
      orders = λ i j o. h.orders i j (ordered_still R.runs r x e i j o);
      links = h.links;
    }

    pub report_kept : (v : ℕ) (at : K) → Same t (report t R v at) (report t S v at)
    report_kept v at =
        let P : List (Run K) → Type 0 = λ xs. Same t (report t R v at) (with_run S (v / 2) (reported (run_at t xs (v / 2)) (v % 2) at)) in
        subst P h.runs (with_run_kept (v / 2) (reported (run_at t R.runs (v / 2)) (v % 2) at) refl)

    pub hold_kept : (r : ℕ) (until : Option K) → Same t (hold t R r until) (hold t S r until)
    hold_kept r until =
        let P : List (Run K) → Type 0 = λ xs. Same t (hold t R r until) (with_run S r (holding (run_at t xs r) until)) in
        subst P h.runs (with_run_kept r (holding (run_at t R.runs r) until) refl)

    pub steps_kept : StepsKept t R S
    steps_kept = record {
      track = enter_track_kept;
      run = enter_run_kept;
      connection = enter_connection_kept;
      switch = set_switch_kept;
      report = report_kept;
      hold = hold_kept;
    }

  pub same_kept : SameKept t
  same_kept = record { reflexive = same_refl t; symmetric = same_sym t; transitive = same_trans t; steps = steps_kept }
