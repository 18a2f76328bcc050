-- How times are written as words, and what reading a word answers. Assumes nothing.
use Rattle.std.specs.Prelude.{ℕ, ◌^◌, ◌<◌, ◌==◌, ◌↔◌, List, ◌++◌, Result, IsErrOf, Some, None, Option, Contains, decimal, codes, FitsSigned}
use Rattle.std.specs.Int.{w32}
use Rattle.std.specs.Fmt.{signed_decimal}
use Rattle.std.specs.List.{before_first, after_first}
use Rattle.std.specs.Result.{OkIff}
use Rattle.std.specs.Str.Parse.{IsNumeral, digits_value, signed_digits_value, without_leading_plus, without_leading_sign}
use Rattle.kinds.specs.declared.Seconds.{Seconds}
use Rattle.kinds.specs.declared.Changes.{Changes}
use Rattle.kinds.specs.declared.words.ChangesError.{ChangesError}
use Rattle.kinds.specs.declared.words.ChangesError.TheVariants.{NoSlash}
use Rattle.kinds.specs.declared.words.ChangesError.TheVariants as error

-- the seconds in decimal, as 123 and -5
abbrev pub seconds_word : Seconds → List ℕ
seconds_word s = signed_decimal s.value

-- the seconds, a slash and the count, as -5/2
abbrev pub changes_word : Changes → List ℕ
changes_word c = signed_decimal c.seconds ++ (codes "/" ++ decimal c.count)

-- decimal digits of a number in 32 bits, that a sign may lead where the number is signed, and a plus where it is not
abbrev pub IsSigned : List ℕ → Type 0
IsSigned word = IsNumeral 10 (without_leading_sign word) × FitsSigned w32 (signed_digits_value 10 word)

abbrev pub IsUnsigned : List ℕ → Type 0
IsUnsigned word = IsNumeral 10 (without_leading_plus word) × (digits_value 10 (without_leading_plus word) < 2 ^ 32)

-- the byte of a slash, and what stands before and after the first one
abbrev pub slash : ℕ
slash = 47

abbrev pub front : List ℕ → List ℕ
front word = before_first (λ b. b == slash) word

abbrev pub back : List ℕ → List ℕ
back word = after_first (λ b. b == slash) word

-- What reading seconds answers: the number, or an error exactly if the word is none.
abbrev pub ReadsSeconds : {E : Type 0} → List ℕ → Result Seconds E → Type 0
ReadsSeconds word r = OkIff r (IsSigned word) (record { value = signed_digits_value 10 word })

-- seconds, a slash and a count
pub record IsChanges (word : List ℕ) : Type 0 where
  pub parted : Contains word slash
  pub seconds : IsSigned (front word)
  pub count : IsUnsigned (back word)

abbrev pub changes_of : List ℕ → Changes
changes_of word = record { seconds = signed_digits_value 10 (front word); count = digits_value 10 (without_leading_plus (back word)) }

-- What reading seconds with a count answers: both, or an error exactly if the word is no such pair, which names a slash that is missing.
pub record ReadsChanges (word : List ℕ) (r : Result Changes ChangesError) : Type 0 where
  pub changes : OkIff r (IsChanges word) (changes_of word)
  pub no_slash : IsErrOf r NoSlash ↔ (¬ Contains word slash)

-- What is printed of such an error. Of a number that is none it is the library's own words, of which the library states nothing.
abbrev pub changes_error_text : ChangesError → Option (List ℕ)
changes_error_text error.NoSlash = Some (codes "no slash parts the seconds from the count")
changes_error_text (error.Number fault) = None
