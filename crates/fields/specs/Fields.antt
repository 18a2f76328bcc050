-- The mark and the fields of a line book, and what splitting off the first field answers. Assumes nothing.
use Rattle.std.specs.Prelude.{◌≡◌, ℕ, ◌<◌, ◌≤◌, List, [], ◌∷◌, ◌++◌, length, Some, None, Ok, Err, Option, Result, ◌≢◌}
use Rattle.std.specs.Borrow.{Bor}
use Rattle.book_bytes.specs.Spelling.{two}
use Rattle.fields.specs.declared.faults.BookFault.{BookFault}
use Rattle.fields.specs.declared.faults.BookFault.TheVariants as fault
use Rattle.fields.specs.declared.Found.{Found}
use Rattle.fields.specs.declared.Field.{Field}
use Rattle.fields.specs.declared.Field.TheVariants.{Kind, Track, Run, Connection, Turned, Broken, Unknown}

-- the four bytes that a book begins with
abbrev pub mark : List ℕ
mark = 0x52 ∷ 0x42 ∷ 0x4B ∷ 0x31 ∷ []

-- what follows the mark, or none if the book does not begin with it
abbrev pub Marked : List ℕ → Option (Bor (List ℕ)) → Type 0
Marked book None = (rest : List ℕ) → book ≢ mark ++ rest
Marked book (Some rest) = book ≡ mark ++ rest.now

-- The bytes of a field: its tag, its length in two bytes, and that many bytes.
abbrev pub field : ℕ → List ℕ → List ℕ
field tag body = tag ∷ (two (length body) ++ body)

abbrev pub tag_of : Field → ℕ
tag_of (Kind b) = 1
tag_of (Track b) = 2
tag_of (Run b) = 3
tag_of (Connection b) = 4
tag_of (Turned b) = 5
tag_of (Broken b) = 6
tag_of (Unknown tag b) = tag

abbrev pub body_of : Field → List ℕ
body_of (Kind b) = b.now
body_of (Track b) = b.now
body_of (Run b) = b.now
body_of (Connection b) = b.now
body_of (Turned b) = b.now
body_of (Broken b) = b.now
body_of (Unknown tag b) = b.now

-- the tags that a book has a meaning for
abbrev pub Known : ℕ → Type 0
Known tag = (1 ≤ tag) × (tag ≤ 6)

-- only a tag without a meaning is called unknown
abbrev pub Apt : Field → Type 0
Apt (Kind b) = Unit
Apt (Track b) = Unit
Apt (Run b) = Unit
Apt (Connection b) = Unit
Apt (Turned b) = Unit
Apt (Broken b) = Unit
Apt (Unknown tag b) = Known tag → ⊥

-- a tag and bytes are this field's
pub record Names (tag : ℕ) (body : List ℕ) (f : Field) : Type 0 where
  pub tagged : tag_of f ≡ tag
  pub lent : body_of f ≡ body
  pub apt : Apt f

-- a whole field stands at the front, at an offset, with the rest behind it
pub record Whole (bytes : List ℕ) (offset : ℕ) (found : Found) (rest : List ℕ) : Type 0 where
  pub front : bytes ≡ field (tag_of found.field) (body_of found.field) ++ rest
  pub long : length (body_of found.field) < 65536
  pub apt : Apt found.field
  pub place : found.offset ≡ offset

-- something stands there, and no whole field stands at its front
pub record Cut (bytes : List ℕ) : Type 0 where
  pub some : bytes ≡ [] → ⊥
  pub none : (tag : ℕ) (body rest : List ℕ) → length body < 65536 → bytes ≢ field tag body ++ rest

-- What splitting off the first field answers: nothing if nothing is left, the field if a whole one stands at the front, and a fault at the
-- offset if the field is cut.
abbrev pub Splits : List ℕ → ℕ → Result (Option (Found × Bor (List ℕ))) BookFault → Type 0
Splits bytes offset (Ok None) = bytes ≡ []
Splits bytes offset (Ok (Some (found, rest))) = Whole bytes offset found rest.now
Splits bytes offset (Err e) = (e ≡ fault.Field offset) × Cut bytes
