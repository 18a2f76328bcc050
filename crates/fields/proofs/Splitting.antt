-- A whole field is split off the front of a book in one way only.
use Rattle.std.proofs.Common.{◌≡◌, ℕ, ◌<◌, List, [], ◌++◌, length, take, Some, None, Ok, Err, Option, Result, sym, refl, ap, ◌∙◌, arith, Bor}
use Rattle.std.proofs.lemmas.List.{take_at, append_cancel_left}
use Rattle.book_bytes.specs.Spelling.{two}
use Rattle.book_bytes.proofs.Spelt.{two_once}
use Rattle.fields.specs.declared.faults.BookFault.{BookFault}
use Rattle.fields.specs.declared.Found.{Found}
use Rattle.fields.specs.Fields.{field, tag_of, body_of, Splits}

-- a whole field is split off one way only
module _ (tag tag' : ℕ) (body body' rest rest' : List ℕ) (long : length body < 65536) (long' : length body' < 65536)
    (same : field tag body ++ rest ≡ field tag' body' ++ rest') where
  pub tag_once : tag ≡ tag'
  tag_once = cc

  pub length_once : length body ≡ length body'
  length_once = let e : two (length body) ≡ two (length body') = cc in two_once (length body) (length body') long long' e

  behind_once : body ++ rest ≡ body' ++ rest'
  behind_once = cc

  pub body_once : body ≡ body'
  body_once = sym (take_at body rest (length body) refl) ∙ ap (take (length body)) behind_once ∙ take_at body' rest' (length body) (sym length_once)

  pub rest_once : rest ≡ rest'
  rest_once = let same_body = body_once in append_cancel_left body rest rest' cc

-- the answer is this field
abbrev pub Gives : ℕ → List ℕ → List ℕ → ℕ → Result (Option (Found × Bor (List ℕ))) BookFault → Type 0
Gives tag body rest offset (Ok None) = ⊥
Gives tag body rest offset (Ok (Some (found, after))) = (tag_of found.field ≡ tag) × (body_of found.field ≡ body) × (after.now ≡ rest) × (found.offset ≡ offset)
Gives tag body rest offset (Err e) = ⊥

-- where a whole field stands at the front, that field is split off
pub gives : (tag : ℕ) (body rest : List ℕ) → length body < 65536 → (offset : ℕ) (answer : Result (Option (Found × Bor (List ℕ))) BookFault) → Splits (field tag body ++ rest) offset answer → Gives tag body rest offset answer
gives tag body rest long offset (Ok None) h = let z : ◌≡◌ {A = ℕ} 0 1 = cc in absurd (omega arith)
gives tag body rest long offset (Ok (Some (found, after))) h =
    (sym (tag_once _ _ _ _ _ _ long h.long h.front), sym (body_once _ _ _ _ _ _ long h.long h.front), sym (rest_once _ _ _ _ _ _ long h.long h.front), h.place)
gives tag body rest long offset (Err e) h = h.1.none tag body rest long refl

-- where nothing is left, nothing is split off
pub gives_none : (offset : ℕ) (answer : Result (Option (Found × Bor (List ℕ))) BookFault) → Splits [] offset answer → answer ≡ Ok None
gives_none offset (Ok None) h = refl
gives_none offset (Ok (Some (found, after))) h = let e = h.front in let z : ◌≡◌ {A = ℕ} 0 1 = cc in absurd (omega arith)
gives_none offset (Err e) h = absurd (h.1.some refl)
