-- Bytes spell one number.
use Rattle.std.proofs.Common.{◌≡◌, ℕ, ◌/◌, ◌%◌, ◌<◌, ℤ, pos, negsuc, refl, arith, w32, of_z}
use Rattle.book_bytes.specs.Spelling.{two, four, complement}

-- the number that stands for a signed one is the library's
pub complement_is : (z : ℤ) → complement z ≡ of_z w32 z
complement_is (pos n) = refl
complement_is (negsuc n) = refl

pub two_once : (m n : ℕ) → m < 65536 → n < 65536 → two m ≡ two n → m ≡ n
two_once m n hm hn e =
    let a : m / 256 % 256 ≡ n / 256 % 256 = cc in
    let b : m % 256 ≡ n % 256 = cc in
    omega arith

pub four_once : (m n : ℕ) → m < 4294967296 → n < 4294967296 → four m ≡ four n → m ≡ n
four_once m n hm hn e =
    let a : m / 16777216 % 256 ≡ n / 16777216 % 256 = cc in
    let b : m / 65536 % 256 ≡ n / 65536 % 256 = cc in
    let c : m / 256 % 256 ≡ n / 256 % 256 = cc in
    let d : m % 256 ≡ n % 256 = cc in
    omega arith
