-- To say the same is an equivalence of registers; what speaks of one speaks of the other.
use Rattle.std.proofs.Common.{◌≡◌, ℕ, ◌<◌, List, length, sym, refl, ap, ◌∙◌, subst}
use Rattle.kinds.specs.Time.{Time}
use Rattle.records.specs.declared.Track.{Track}
use Rattle.records.specs.declared.Run.{Run}
use Rattle.records.specs.declared.Connection.{Connection}
use Rattle.records.specs.Records.{track_of}
use Rattle.records.specs.Places.{Ordered}
use Rattle.records.specs.Register.{Register}
use Rattle.registers.specs.Steps.{Same}

module _ {K : Type 0} where
  -- a register with other settings
  abbrev pub with_settings : Register K → (ℕ → ℕ → ℕ) → (ℕ → ℕ) → Register K
  with_settings R order link = record { tracks = R.tracks; runs = R.runs; connections = R.connections; order = order; link = link }

  module _ (t : Time K) where
    pub same_refl : (R : Register K) → Same t R R
    same_refl R = record { tracks = refl; runs = refl; connections = refl; orders = λ i j o. refl; links = λ c l. refl }

    -- of the same runs
    ordered_at : (xs ys : List (Run K)) (i j : ℕ) → xs ≡ ys → Ordered (track_of t ys) (length ys) i j → Ordered (track_of t xs) (length xs) i j
    ordered_at xs ys i j e o = let P : List (Run K) → Type 0 = λ zs. Ordered (track_of t zs) (length zs) i j in subst P (sym e) o

    inside_at : (xs ys : List (Connection K)) (c : ℕ) → xs ≡ ys → c < length ys → c < length xs
    inside_at xs ys c e l = let P : List (Connection K) → Type 0 = λ zs. c < length zs in subst P (sym e) l

    pub same_sym : (R S : Register K) → Same t R S → Same t S R
    same_sym R S h = record {
      tracks = sym h.tracks;
      runs = sym h.runs;
      connections = sym h.connections;
      orders = λ i j o. sym (h.orders i j (ordered_at R.runs S.runs i j h.runs o));
      links = λ c l. sym (h.links c (inside_at R.connections S.connections c h.connections l));
    }

    pub same_trans : (R S T : Register K) → Same t R S → Same t S T → Same t R T
    same_trans R S T h k = record {
      tracks = h.tracks ∙ k.tracks;
      runs = h.runs ∙ k.runs;
      connections = h.connections ∙ k.connections;
      orders = λ i j o. h.orders i j o ∙ k.orders i j (ordered_at S.runs R.runs i j (sym h.runs) o);
      links = λ c l. h.links c l ∙ k.links c (inside_at S.connections R.connections c (sym h.connections) l);
    }

    -- equal registers say the same
    pub same_equal : (R S : Register K) → R ≡ S → Same t R S
    same_equal R S e = let P : Register K → Type 0 = Same t R in subst P e (same_refl R)

    -- R with the settings of S is S
    pub settled : (R S : Register K) → Same t R S → with_settings R S.order S.link ≡ S
    settled R S h =
        let made : List (Track K) → List (Run K) → List (Connection K) → Register K = λ a b c. record { tracks = a; runs = b; connections = c; order = S.order; link = S.link } in
        ap (λ a. made a R.runs R.connections) h.tracks ∙ ap (λ b. made S.tracks b R.connections) h.runs ∙ ap (λ c. made S.tracks S.runs c) h.connections

    -- so what holds of R with the settings of S holds of S
    pub at_same : (P : Register K → Type 0) (R S : Register K) → Same t R S → P (with_settings R S.order S.link) → P S
    at_same P R S h p = subst P (settled R S h) p
