-- One turn of the trace.
use Rattle.std.proofs.Common.{◌≡◌, ℕ, ◌+◌, ◌-◌, ◌*◌, ◌<◌, ◌≤◌, List, length, get_or, take, drop, set, sym, ap, ◌∙◌, inl, inr, arith}
use Rattle.std.proofs.lemmas.Nat.{mul-add-lt}
use Rattle.std.proofs.lemmas.List.{get_or-take, get_or-drop, get_or_default, drop-take}
use Rattle.kinds.specs.Time.{Time, Laws}
use Rattle.network.specs.declared.Arc.{Arc}
use Rattle.network.specs.Network.{Ring}
use Rattle.network.specs.Reckoning.{arc_at, placed}
use Rattle.network.specs.Rounds.{InLimits, Levels, row_of}
use Rattle.network.proofs.Traces.{Traced, traced_more, traced_arc, traced_end, ring_is}
use Rattle.network.proofs.Marks.{Mark, Marks, marks_more, room}

row_read : (n : ℕ) (rows : List ℕ) (k u : ℕ) → u < n → get_or rows (k * n + u) 0 ≡ get_or (row_of n rows k) u 0
row_read n rows k u h = sym (get_or-take n (drop (k * n) rows) u 0 h ∙ get_or-drop (k * n) rows u 0)

-- the part of a path from s up to e
pub part_is : (path : List ℕ) (s e : ℕ) → s < e → drop s (take e path) ≡ take (e - s) (drop s path)
part_is path s e h =
    let q : s + (e - s) ≡ e = omega arith in
    ap (λ i. drop s (take i path)) (sym q) ∙ drop-take s (e - s) path

-- all that holds as a turn begins
pub record Turn {K : Type 0} (t : Time K) (floors : List K) (arcs : List (Arc K)) (rows path seen : List ℕ) (v i u : ℕ) : Type 0 where
  pub laws : Laws t
  pub limits : InLimits t floors arcs
  pub rows_long : length rows ≡ length floors * length floors
  pub path_long : length path ≡ length floors
  pub seen_long : length seen ≡ length floors
  pub levels : Levels t floors arcs (length floors) rows
  pub traced : Traced t floors arcs rows path v i u
  pub marks : Marks t arcs (length floors) seen path i
  pub low : i ≤ length floors

module _ {K : Type 0} {t : Time K} {floors : List K} {arcs : List (Arc K)} {rows path seen : List ℕ} {v i u : ℕ} (c : Turn t floors arcs rows path seen v i u) where
  module _ (fresh : get_or seen u 0 ≡ 65535) where
    abbrev arc : ℕ
    arc = get_or rows ((length floors - 1 - i) * length floors + u) 0

    pub turn_room : i < length floors
    turn_room = let p = c.path_long in let q = c.low in room arcs (length floors) seen path i u c.limits.few c.seen_long c.traced.inside fresh (omega arith) c.low c.marks

    pub turn_row : (length floors - 1 - i) * length floors + u < length rows
    turn_row = let h = turn_room in let p = c.rows_long in let q = c.traced.inside in omega (arith, mul-add-lt (length floors - 1 - i) (length floors) u (length floors) (omega arith) q)

    is_k : length floors - 1 - i + 1 ≡ c.traced.level
    is_k = let h = turn_room in let p = c.traced.is_level in omega arith

    is_f : get_or rows ((length floors - 1 - i) * length floors + u) 0 ≡ get_or (row_of (length floors) rows (length floors - 1 - i)) u 0
    is_f = row_read (length floors) rows (length floors - 1 - i) u c.traced.inside

    in_path : i < length path
    in_path = let h = turn_room in let p = c.path_long in omega arith

    pub turn_arc : get_or rows ((length floors - 1 - i) * length floors + u) 0 < length arcs
    turn_arc = traced_arc c.laws floors arcs c.limits rows v i u (length floors - 1 - i) _ path c.levels c.traced is_k is_f in_path

    pub turn_traced : (a : Arc K) → Traced t floors arcs rows (set path i (get_or rows ((length floors - 1 - i) * length floors + u) 0)) v (i + 1) (get_or arcs (get_or rows ((length floors - 1 - i) * length floors + u) 0) a).from
    turn_traced a =
        let e : get_or arcs arc a ≡ arc_at t arcs arc = get_or_default arcs arc a _ turn_arc in
        rw e (traced_more c.laws floors arcs c.limits rows v i u (length floors - 1 - i) _ path c.levels c.traced is_k is_f in_path)

    pub turn_marks : Marks t arcs (length floors) (set seen u i) (set path i (get_or rows ((length floors - 1 - i) * length floors + u) 0)) (i + 1)
    turn_marks =
        let end = traced_end c.laws floors arcs c.limits rows v i u (length floors - 1 - i) _ path c.levels c.traced is_k is_f in_path in
        let p = c.path_long in let q = c.low in
        marks_more arcs (length floors) seen path i u c.limits.few c.seen_long c.traced.inside fresh (omega arith) c.low c.marks _ in_path end

  -- the trace ends at a marked event
  ended_by : (s : ℕ) → (s ≡ 65535 → ⊥) → Mark t arcs path i u s → (s < i) × (i ≤ length floors) × Ring t (placed t arcs) (take (i - s) (drop s path))
  ended_by s ne (inl p) = absurd (ne p)
  ended_by s ne (inr p) = let l = c.path_long in let q = c.low in (p.0, c.low, rw (part_is path s i p.0) at (ring_is c.laws floors arcs c.limits rows path v i u s c.traced p.0 (omega arith) p.1 (λ e. get_or seen e 0) c.marks.mark))

  pub turn_ends : (get_or seen u 0 ≡ 65535 → ⊥) → (get_or seen u 0 < i) × (i ≤ length floors) × Ring t (placed t arcs) (take (i - get_or seen u 0) (drop (get_or seen u 0) path))
  turn_ends ne = ended_by (get_or seen u 0) ne (c.marks.back u c.traced.inside)
