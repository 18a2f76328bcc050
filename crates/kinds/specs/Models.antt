-- What seconds, and seconds with changes, mean. Assumes nothing.
use Rattle.std.specs.Prelude.{ℕ, ◌+◌, max, if◌then◌else◌, ◌&&◌, ◌||◌, ℤ, pos, ◌+ℤ◌, ◌-ℤ◌, int_le, int_lt, nat_le, unsigned_abs}
use Rattle.kinds.specs.Time.{Time}
use Rattle.kinds.specs.declared.Seconds.{Seconds}
use Rattle.kinds.specs.declared.Changes.{Changes}

-- max(0, a - p)
abbrev pub over : ℤ → ℤ → ℕ
over a p = if int_lt p a then unsigned_abs (a -ℤ p) else 0

-- Whole seconds: joining adds, nothing is 0, the size is the absolute value.
abbrev pub seconds_time : Time Seconds
seconds_time = record {
  before = λ a b. int_le a.value b.value;
  join = λ a b. record { value = a.value +ℤ b.value };
  none = record { value = pos 0 };
  late = λ a p. over a.value p.value;
  size = λ a. unsigned_abs a.value;
}

-- Seconds and a count of changes, ordered by seconds and then by count: joining adds both, nothing is (0, 0), the size is the
-- greater of the count and the absolute seconds, and lateness looks at the seconds alone.
abbrev pub changes_time : Time Changes
changes_time = record {
  before = λ a b. int_lt a.seconds b.seconds || (int_le a.seconds b.seconds && nat_le a.count b.count);
  join = λ a b. record { seconds = a.seconds +ℤ b.seconds; count = a.count + b.count };
  none = record { seconds = pos 0; count = 0 };
  late = λ a p. over a.seconds p.seconds;
  size = λ a. max a.count (unsigned_abs a.seconds);
}
