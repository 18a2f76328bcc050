-- Two tables that agree at the events of a network agree in being its least times.
use Rattle.std.proofs.Common.{◌≡◌, ℕ, ◌-◌, ◌<◌, ◌⊎◌, List, [], ◌∷◌, sym, refl, ap, ◌∙◌, subst, inl, inr, arith}
use Rattle.kinds.specs.Time.{Time}
use Rattle.network.specs.Network.{Network, UpTo, Chain, Reaches, Meets, LatestWalks, Equation, Least}
use Rattle.network.proofs.Chains.{Fit}

module _ {K : Type 0} (t : Time K) (N : Network K) (fit : Fit t N.events N.arcs) where
  ends_in : (u v : ℕ) (ks : List N.arcs.Name) → u < N.events → Chain t N.arcs u ks v → v < N.events
  ends_in u v [] h c = omega arith
  ends_in u v (k ∷ ks) h c = omega (arith, fit.ends k c.0, c.1)

  module _ (f g : ℕ → K) (same : (v : ℕ) → v < N.events → f v ≡ g v) where
    brought : (k : N.arcs.Name) → N.arcs.Has k → t.join (f (N.arcs.arc k).from) (N.arcs.arc k).duration ≡ t.join (g (N.arcs.arc k).from) (N.arcs.arc k).duration
    brought k has = ap (λ x. t.join x (N.arcs.arc k).duration) (same (N.arcs.arc k).from (fit.starts k has))

    up : (x y : K) (v : ℕ) → x ≡ y → v < N.events → UpTo t x (f v) → UpTo t y (g v)
    up x y v e h p = let P : K → Type 0 = λ z. UpTo t z (f v) in let Q : K → Type 0 = λ z. UpTo t y z in subst Q (same v h) (subst P e p)

    meets_same : Meets t N f → Meets t N g
    meets_same m = record {
      floors = λ v h. up (N.floor v) (N.floor v) v refl h (m.floors v h);
      arcs = λ k has. up _ _ (N.arcs.arc k).to (brought k has) (fit.ends k has) (m.arcs k has);
    }

    walks_same : (m : ℕ) → LatestWalks t N m f → LatestWalks t N m g
    walks_same m w = record {
      reached = λ v h. (let r = w.reached v h in let P : K → Type 0 = λ x. Reaches t N r.0 v x in (r.0, r.1, subst P (same v h) r.2));
      latest = λ v j x few r. up x x v refl (ends_in r.first v r.walk r.inside r.chain) (w.latest v j x few r);
    }

    equation_same : (v : ℕ) → v < N.events → Equation t N f v → Equation t N g v
    equation_same v h e =
        let E : Type 0 = (g v ≡ N.floor v) ⊎ ((k : N.arcs.Name) × N.arcs.Has k × ((N.arcs.arc k).to ≡ v) × (g v ≡ t.join (g (N.arcs.arc k).from) (N.arcs.arc k).duration)) in
        let equal : E = elim e.equal [
          | inl s ↦ inl (sym (same v h) ∙ s)
          | inr s ↦ inr (s.0, s.1, s.2, sym (same v h) ∙ s.3 ∙ brought s.0 s.1)
        ] in
        record {
          floor = up (N.floor v) (N.floor v) v refl h e.floor;
          brings = λ k has ends_at. up _ _ v (brought k has) h (e.brings k has ends_at);
          equal = equal;
        }

    pub least_same : Least t N f → Least t N g
    least_same l = record {
      table = λ v h. (let e = ap t.size (same v h) in omega (arith, l.table v h));
      meets = meets_same l.meets;
      least = λ other s m v h. (let P : K → Type 0 = λ x. UpTo t x (other v) in subst P (same v h) (l.least other s m v h));
      walks = walks_same (N.events - 1) l.walks;
      equations = λ v h. equation_same v h (l.equations v h);
    }
