-- The two kinds of the base keep the laws.
use Rattle.std.specs.Prelude.{◌≡◌, ℕ, ℤ}
use Rattle.std.proofs.Common.{ap, arith}
use Rattle.std.proofs.lemmas.Int.{ints}
use Rattle.std.proofs.lemmas.Bool.Decides.{nat_tests}
use Rattle.kinds.specs.Time.{Laws}
use Rattle.kinds.specs.Models.{seconds_time, changes_time}
use Rattle.kinds.specs.declared.Seconds.{Seconds}
use Rattle.kinds.specs.declared.Changes.{Changes}

abbrev sec : ℤ → Seconds
sec z = record { value = z }

pub seconds_laws : Laws seconds_time
seconds_laws = record {
  trans = λ a b c p q. grind (arith, ints);
  total = λ a b p. grind (arith, ints);
  antisym = λ a b p q. ap sec (grind (arith, ints));
  assoc = λ a b c h. ap sec (omega (arith, ints));
  none_left = λ a h. ap sec (omega (arith, ints));
  none_right = λ a h. ap sec (omega (arith, ints));
  mono_left = λ a b w h k p. grind (arith, ints);
  mono_right = λ a b w h k p. grind (arith, ints);
  later = λ a w h p. grind (arith, ints);
  late_none = λ a p h q. grind (arith, ints);
  late_mono = λ a b p h k q. grind (arith, ints);
  late_size = λ a p h. grind (arith, ints);
  join_size = λ a w h. omega (arith, ints);
  none_size = omega arith;
}

abbrev chg : ℤ → ℕ → Changes
chg z n = record { seconds = z; count = n }

same : {z y : ℤ} {m n : ℕ} → z ≡ y → m ≡ n → chg z m ≡ chg y n
same p q = cc

pub changes_laws : Laws changes_time
changes_laws = record {
  trans = λ a b c p q. grind (arith, ints, nat_tests);
  total = λ a b p. grind (arith, ints, nat_tests);
  antisym = λ a b p q. same (grind (arith, ints, nat_tests)) (grind (arith, ints, nat_tests));
  assoc = λ a b c h. same (omega (arith, ints)) (omega arith);
  none_left = λ a h. same (omega (arith, ints)) (omega arith);
  none_right = λ a h. same (omega (arith, ints)) (omega arith);
  mono_left = λ a b w h k p. grind (arith, ints, nat_tests);
  mono_right = λ a b w h k p. grind (arith, ints, nat_tests);
  later = λ a w h p. grind (arith, ints, nat_tests);
  late_none = λ a p h q. grind (arith, ints, nat_tests);
  late_mono = λ a b p h k q. grind (arith, ints, nat_tests);
  late_size = λ a p h. grind (arith, ints);
  join_size = λ a w h. grind (arith, ints);
  none_size = omega arith;
}
