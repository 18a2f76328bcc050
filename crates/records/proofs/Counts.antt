-- Laws of counts, totals and places. Assumes nothing.
use Rattle.std.proofs.Common.{◌≡◌, ℕ, zero, suc, ◌+◌, ◌-◌, ◌*◌, ◌<◌, ◌≤◌, ◌≢◌, ◌⊎◌, List, length, get_or, set, Some, None, Option, slice_index_or, sym, refl, ap, ◌∙◌, subst, inl, inr, add-one, arith, below_more, length-set, replicate}
use Rattle.std.proofs.lemmas.List.{get_or_read, get_or-set_same, get_or-set_other, get_or-replicate}
use Rattle.std.proofs.lemmas.Bool.{eq-eqb, ne_eqb, cases_eq, cases_lt, cases_order}
use Rattle.std.proofs.lemmas.Bool.Decides.{nat_tests}
use Rattle.kinds.specs.Time.{Time}
use Rattle.records.specs.declared.Run.{Run}
use Rattle.records.specs.declared.places.Place.{Place}
use Rattle.records.specs.declared.places.Tally.{Tally}
use Rattle.records.specs.Records.{run_at, track_of, OnTracks}
use Rattle.records.specs.Places.{count, earlier, total, place, Ordered, Previous, Laid, laid_for, PlacesApart, PlacesKept}

pub count_hit : (f : ℕ → ℕ) (x j : ℕ) → f j ≡ x → count f x (j + 1) ≡ count f x j + 1
count_hit f x j e = let h = eq-eqb (f j) x e in rw (add-one, h) (omega arith)

pub count_miss : (f : ℕ → ℕ) (x j : ℕ) → (f j ≡ x → ⊥) → count f x (j + 1) ≡ count f x j
count_miss f x j e = let h = ne_eqb (f j) x e in rw (add-one, h) (omega arith)

pub total_more : (f : ℕ → ℕ) (j : ℕ) → total f (j + 1) ≡ earlier f j + total f j
total_more f j = rw add-one refl

pub count_small : (f : ℕ → ℕ) (x j : ℕ) → count f x j ≤ j
count_small f x zero = omega arith
count_small f x (suc j) = let h = count_small f x j in grind (arith, nat_tests)

pub total_small : (f : ℕ → ℕ) (b j : ℕ) → j ≤ b → total f j ≤ b * j
total_small f b zero l = omega arith
total_small f b (suc j) l =
    let h = total_small f b j (omega arith) in
    let k = count_small f (f j) j in omega arith

-- a count rises by the runs between
pub count_mono : (f : ℕ → ℕ) (x i j : ℕ) → i ≤ j → count f x i ≤ count f x j
count_mono f x zero zero l = omega arith
count_mono f x (suc i) zero l = absurd (omega arith)
count_mono f x i (suc j) l =
    elim (cases_lt i (suc j)) [
      | inl h ↦ (let m = count_mono f x i j (omega arith) in omega arith)
      | inr h ↦ (let e : i ≡ suc j = omega arith in subst (λ (k : ℕ). count f x i ≤ count f x k) e (omega arith))
    ]

pub total_mono : (f : ℕ → ℕ) (i j : ℕ) → i ≤ j → total f i ≤ total f j
total_mono f zero zero l = omega arith
total_mono f (suc i) zero l = absurd (omega arith)
total_mono f i (suc j) l =
    elim (cases_lt i (suc j)) [
      | inl h ↦ (let m = total_mono f i j (omega arith) in omega arith)
      | inr h ↦ (let e : i ≡ suc j = omega arith in subst (λ (k : ℕ). total f i ≤ total f k) e (omega arith))
    ]

-- no run between on the track: the counts are equal
pub count_still : (f : ℕ → ℕ) (x p j : ℕ) → p ≤ j → ((k : ℕ) → p ≤ k → k < j → f k ≡ x → ⊥) → count f x j ≡ count f x p
count_still f x p zero l none = let e : p ≡ 0 = omega arith in rw e refl
count_still f x p (suc j) l none =
    elim (cases_lt p (suc j)) [
      | inl h ↦ (let m = count_still f x p j (omega arith) (λ k a b. none k a (omega arith)) in let miss = ne_eqb (f j) x (none j (omega arith) (omega arith)) in rw miss (omega arith))
      | inr h ↦ (let e : p ≡ suc j = omega arith in rw e refl)
    ]

-- an earlier run on the track is counted
pub count_below : (f : ℕ → ℕ) (i j : ℕ) → i < j → f i ≡ f j → earlier f i < earlier f j
count_below f i j l e =
    let hit = count_hit f (f j) i e in
    let m = count_mono f (f j) (i + 1) j (omega arith) in
    let same : count f (f i) i ≡ count f (f j) i = ap (λ (x : ℕ). count f x i) e in
    omega arith

pub place_below : (f : ℕ → ℕ) (n i j : ℕ) → Ordered f n i j → place f i j < total f n
place_below f n i j o =
    let a = count_below f i j o.below o.shared in
    let b = total_more f j in
    let c = total_mono f (j + 1) n (omega (arith, o.inside)) in
    omega arith

-- two orders with one place are one order
pub place_apart : (f : ℕ → ℕ) (n i j k l : ℕ) → Ordered f n i j → Ordered f n k l → place f i j ≡ place f k l → (i ≡ k) × (j ≡ l)
place_apart f n i j k l o p e =
    elim (cases_order j l) [
      | inl same ↦
          (let tot : total f j ≡ total f l = ap (total f) same in
          let tracks : f i ≡ f k = o.shared ∙ ap f same ∙ sym p.shared in
          elim (cases_order i k) [
            | inl here ↦ (here, same)
            | inr (inl lt) ↦ (let c = count_below f i k lt tracks in absurd (omega arith))
            | inr (inr gt) ↦ (let c = count_below f k i gt (sym tracks) in absurd (omega arith))
          ])
      | inr (inl lt) ↦
          (let a = place_below f (j + 1) i j (record { below = o.below; inside = omega arith; shared = o.shared }) in
          let b = total_mono f (j + 1) l (omega arith) in absurd (omega arith))
      | inr (inr gt) ↦
          (let a = place_below f (l + 1) k l (record { below = p.below; inside = omega arith; shared = p.shared }) in
          let b = total_mono f (l + 1) j (omega arith) in absurd (omega arith))
    ]

-- runs entered later move no place
pub count_kept : (f g : ℕ → ℕ) (x j : ℕ) → ((k : ℕ) → k < j → f k ≡ g k) → count f x j ≡ count g x j
count_kept f g x zero same = refl
count_kept f g x (suc j) same =
    let e = same j (omega arith) in
    let m = count_kept f g x j (λ k l. same k (omega arith)) in rw (e, m) refl

pub earlier_kept : (f g : ℕ → ℕ) (j : ℕ) → ((k : ℕ) → k < j + 1 → f k ≡ g k) → earlier f j ≡ earlier g j
earlier_kept f g j same = ap (λ (x : ℕ). count f x j) (same j (omega arith)) ∙ count_kept f g (g j) j (λ k l. same k (omega arith))

pub total_kept : (f g : ℕ → ℕ) (j : ℕ) → ((k : ℕ) → k < j → f k ≡ g k) → total f j ≡ total g j
total_kept f g zero same = refl
total_kept f g (suc j) same =
    let a = earlier_kept f g j (λ k l. same k (omega arith)) in
    let m = total_kept f g j (λ k l. same k (omega arith)) in omega arith

pub place_kept : (f g : ℕ → ℕ) (i j : ℕ) → i < j → ((k : ℕ) → k < j + 1 → f k ≡ g k) → place f i j ≡ place g i j
place_kept f g i j l same =
    let a = earlier_kept f g i (λ k h. same k (omega arith)) in
    let m = total_kept f g j (λ k h. same k (omega arith)) in omega arith

-- the run before on a track, one run on
pub previous_hit : (f : ℕ → ℕ) (x j : ℕ) → f j ≡ x → Previous f x (j + 1) (Some j)
previous_hit f x j e = record { on = (omega arith, e); none = λ k a b _. omega arith }

pub previous_miss : (f : ℕ → ℕ) (x j : ℕ) (o : Option ℕ) → (f j ≡ x → ⊥) → Previous f x j o → Previous f x (j + 1) o
previous_miss f x j None e h = record { on = tt; none = λ k a b here. elim (cases_lt k j) [ inl l ↦ h.none k l tt here | inr l ↦ (let s : k ≡ j = omega arith in e (sym (ap f s) ∙ here)) ] }
previous_miss f x j (Some p) e h = record { on = (omega (arith, h.on.0), h.on.1); none = λ k a b here. elim (cases_lt k j) [ inl l ↦ h.none k l b here | inr l ↦ (let s : k ≡ j = omega arith in e (sym (ap f s) ∙ here)) ] }

-- one more run is laid out
pub laid_more : (f : ℕ → ℕ) (j : ℕ) (ps : List Place) (p : Place) → j < length ps → Laid f j ps → p.earlier ≡ earlier f j → p.sum ≡ total f j → Previous f (f j) j p.before → Laid f (j + 1) (set ps j p)
laid_more f j ps p inside laid is_earlier is_sum is_before =
    let more : (P : ℕ → Place → Type 0) → ((k : ℕ) → k < j → P k (laid_for ps k)) → P j p → (k : ℕ) → k < j + 1 → P k (laid_for (set ps j p) k) = λ P below here. below_more (λ k. P k (laid_for (set ps j p) k)) j
    (λ k h. let ne : k ≢ j = omega arith in rw get_or-set_other (below k h))
    (rw (get_or-set_same ps j p (record { earlier = 0; sum = 0; before = None }) inside) here) in
    record {
      earlier = more (λ k q. q.earlier ≡ earlier f k) laid.earlier is_earlier;
      sum = more (λ k q. q.sum ≡ total f k) laid.sum is_sum;
      before = more (λ k q. Previous f (f k) k q.before) laid.before is_before;
    }

-- the track of run j, on which the runs below it are counted
pub record Turn (f : ℕ → ℕ) (j x : ℕ) : Type 0 where
  pub on : x ≡ f j
  pub inside : x < 64
  pub few : count f x j ≤ j
  pub counted : count f x j ≡ earlier f j
  pub below : total f j ≤ 512 * j
  pub more : total f (j + 1) ≡ earlier f j + total f j

pub turn : {K : Type 0} (t : Time K) (runs : List (Run K)) (j : ℕ) (r : Run K) → length runs ≤ 512 → OnTracks t runs → j < length runs → r ≡ get_or runs j r → Turn (track_of t runs) j r.track
turn t runs j r few tracks inside is =
    let f = track_of t runs in
    let e : r ≡ run_at t runs j = get_or_read runs j r inside is _ in
    let on : r.track ≡ f j = ap (λ x. x.track) e in
    record {
      on = on;
      inside = omega (arith, tracks j inside);
      few = count_small f r.track j;
      counted = ap (λ (x : ℕ). count f x j) on;
      below = total_small f 512 j (omega arith);
      more = total_more f j;
    }

-- what is kept of each of 64 tracks after the runs below j
abbrev pub tally_of : List Tally → ℕ → Tally
tally_of ts x = slice_index_or ts x (record { count = 0; last = None })

pub record Tallied (f : ℕ → ℕ) (j : ℕ) (ts : List Tally) : Type 0 where
  pub long : length ts ≡ 64
  pub counts : (x : ℕ) → x < 64 → (tally_of ts x).count ≡ count f x j
  pub lasts : (x : ℕ) → x < 64 → Previous f x j (tally_of ts x).last

pub tallied_none : (f : ℕ → ℕ) → Tallied f 0 (replicate 64 (record { count = 0; last = None }))
tallied_none f = record {
  long = refl;
  counts = λ x h. ap (λ t. t.count) (get_or-replicate {A = Tally} 64 x (record { count = 0; last = None }) (record { count = 0; last = None }) h);
  lasts = λ x h. rw (get_or-replicate {A = Tally} 64 x (record { count = 0; last = None }) (record { count = 0; last = None }) h) (record { on = tt; none = λ k a b e. absurd (omega arith) });
}

pub tallied_more : (f : ℕ → ℕ) (j : ℕ) (ts : List Tally) (x : ℕ) (t : Tally) → x ≡ f j → x < 64 → t.count ≡ count f x j + 1 → t.last ≡ Some j → Tallied f j ts → Tallied f (j + 1) (set ts x t)
tallied_more f j ts x t on inside counted last old =
    let same = get_or-set_same ts x t (record { count = 0; last = None }) (omega (arith, old.long)) in
    let more : (P : ℕ → Tally → Type 0) → P x t → ((y : ℕ) → y < 64 → (y ≡ x → ⊥) → P y (tally_of ts y)) → (y : ℕ) → y < 64 → P y (tally_of (set ts x t) y) = λ P here other y h. elim (cases_eq y x) [
      | inl e ↦ (let Q : ℕ → Type 0 = λ z. P z (tally_of (set ts x t) z) in subst Q (sym e) (rw same here))
      | inr ne ↦ rw (get_or-set_other ts x y t (record { count = 0; last = None }) ne) (other y h ne)
    ] in
    record {
      long = simp length-set old.long;
      counts = more (λ y w. w.count ≡ count f y (j + 1)) (counted ∙ sym (count_hit f x j (sym on))) (λ y h ne. old.counts y h ∙ sym (count_miss f y j (λ here. ne (sym here ∙ sym on))));
      lasts = more (λ y w. Previous f y (j + 1) w.last) (rw last (previous_hit f x j (sym on))) (λ y h ne. previous_miss f y j _ (λ here. ne (sym here ∙ sym on)) (old.lasts y h));
    }

pub tally_more : (f : ℕ → ℕ) (j : ℕ) (xs : List ℕ) (track v : ℕ) → track ≡ f j → track < length xs → v ≡ count f track j → ((x : ℕ) → x < 64 → get_or xs x 0 ≡ count f x j) → (x : ℕ) → x < 64 → get_or (set xs track (v + 1)) x 0 ≡ count f x (j + 1)
tally_more f j xs track v on inside is old x h =
    elim (cases_eq x track) [
      | inl e ↦ (let Q : ℕ → Type 0 = λ y. get_or (set xs track (v + 1)) y 0 ≡ count f y (j + 1) in subst Q (sym e) (get_or-set_same xs track (v + 1) 0 inside ∙ ap (λ (w : ℕ). w + 1) is ∙ sym (count_hit f track j (sym on))))
      | inr ne ↦ get_or-set_other xs track x (v + 1) 0 ne ∙ old x h ∙ sym (count_miss f x j (λ here. ne (sym here ∙ sym on)))
    ]

-- what is laid out finds the byte
pub laid_place : (f : ℕ → ℕ) (n i j : ℕ) (ps : List Place) → Laid f n ps → j < n → i < j → f i ≡ f j → ((laid_for ps j).sum + (laid_for ps i).earlier ≡ place f i j) × ((laid_for ps j).sum + (laid_for ps i).earlier < total f n)
laid_place f n i j ps laid in_j below shared =
    let c = laid.earlier i (omega arith) in
    let s = laid.sum j in_j in
    let h = place_below f n i j (record { below = below; inside = in_j; shared = shared }) in (omega arith, omega arith)

-- a byte that is written is the byte of one order
pub one_written : (f : ℕ → ℕ) (n i j k l v : ℕ) (bytes : List ℕ) → Ordered f n i j → Ordered f n k l → total f n ≤ length bytes → ((((k ≡ i) × (l ≡ j)) × (get_or (set bytes (place f i j) v) (place f k l) 0 ≡ v)) ⊎ ((((k ≡ i) × (l ≡ j)) → ⊥) × (get_or (set bytes (place f i j) v) (place f k l) 0 ≡ get_or bytes (place f k l) 0)))
one_written f n i j k l v bytes o p room =
    elim (cases_eq (place f k l) (place f i j)) [
      | inl e ↦ inl (place_apart f n k l i j p o e, rw e (get_or-set_same bytes (place f i j) v 0 (omega (arith, place_below f n i j o))))
      | inr ne ↦ inr ((λ same. ne (ap (λ (x : ℕ). place f x l) same.0 ∙ ap (place f i) same.1)), get_or-set_other bytes (place f i j) (place f k l) v 0 ne)
    ]

-- each number below a count is the count of earlier runs at some run on the track
pub count_at : (f : ℕ → ℕ) (x n e : ℕ) → e < count f x n → (i : ℕ) × (i < n) × (f i ≡ x) × (count f x i ≡ e)
count_at f x zero e l = absurd (omega arith)
count_at f x (suc n) e l =
    elim (cases_lt e (count f x n)) [
      | inl h ↦ (let r = count_at f x n e h in (r.0, omega (arith, r.1), r.2, r.3))
      | inr h ↦ elim (cases_eq (f n) x) [
        | inl on ↦ (let hit = count_hit f x n on in let more : count f x (suc n) ≡ count f x (n + 1) = rw add-one refl in (n, omega arith, on, omega arith))
        | inr off ↦ (let miss = count_miss f x n off in let more : count f x (suc n) ≡ count f x (n + 1) = rw add-one refl in absurd (omega arith))
      ]
    ]

-- each place below the number of orders is the place of one
pub place_at : (f : ℕ → ℕ) (n k : ℕ) → k < total f n → (i : ℕ) × (j : ℕ) × Ordered f n i j × (place f i j ≡ k)
place_at f zero k l = absurd (omega arith)
place_at f (suc n) k l =
    elim (cases_lt k (total f n)) [
      | inl h ↦ (let r = place_at f n k h in (r.0, r.1, record { below = r.2.below; inside = omega (arith, r.2.inside); shared = r.2.shared }, r.3))
      | inr h ↦
          (let r = count_at f (f n) n (k - total f n) (omega arith) in
          let same : count f (f r.0) r.0 ≡ count f (f n) r.0 = ap (λ (x : ℕ). count f x r.0) r.2 in
          (r.0, n, record { below = r.1; inside = omega arith; shared = r.2 }, omega (arith, r.3)))
    ]

pub places_apart : (f : ℕ → ℕ) (n : ℕ) → PlacesApart f n
places_apart f n = record { inside = place_below f n; apart = place_apart f n }

pub places_kept : (f g : ℕ → ℕ) (n : ℕ) → ((k : ℕ) → k < n → g k ≡ f k) → PlacesKept f g n
places_kept f g n same i j o = place_kept g f i j o.below (λ k h. same k (omega (arith, o.inside)))
