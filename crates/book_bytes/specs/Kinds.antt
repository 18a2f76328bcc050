-- How seconds, and seconds with changes, are spelt. Assumes nothing.
use Rattle.std.specs.Prelude.{◌++◌}
use Rattle.kinds.specs.declared.Seconds.{Seconds}
use Rattle.kinds.specs.declared.Changes.{Changes}
use Rattle.book_bytes.specs.Spelling.{Spelling, four, signed}

-- code 1, four bytes: the seconds, signed
abbrev pub seconds_spelling : Spelling Seconds
seconds_spelling = record { code = 1; width = 4; spelt = λ v. signed v.value }

-- code 2, eight bytes: the seconds, signed, then the count
abbrev pub changes_spelling : Spelling Changes
changes_spelling = record { code = 2; width = 8; spelt = λ v. signed v.seconds ++ four v.count }
