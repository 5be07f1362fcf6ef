-- The bytes of a name are ASCII.
use Rattle.std.proofs.Common.{◌≡◌, ℕ, zero, suc, ◌<◌, Bool, true, false, ◌&&◌, ◌||◌, List, [], ◌∷◌, refl, arith}
use Rattle.std.proofs.lemmas.Bool.Decides.{nat_tests}
use Rattle.std.specs.Str.{IsAscii}
use Rattle.cloud_base.specs.Values.{is_letter, is_digit, is_name_byte, all_name_bytes, IsName}

letter_small : (b : ℕ) → is_letter b ≡ true → b < 128
letter_small b h = grind (arith, nat_tests)

digit_small : (b : ℕ) → is_digit b ≡ true → b < 128
digit_small b h = grind (arith, nat_tests)

name_byte_by : (b : ℕ) (l d : Bool) → is_letter b ≡ l → is_digit b ≡ d → (l || d) ≡ true → b < 128
name_byte_by b true d e f h = letter_small b e
name_byte_by b false true e f h = digit_small b f
name_byte_by b false false e f h = absurd (cc h)

both : (a b : Bool) → (a && b) ≡ true → (a ≡ true) × (b ≡ true)
both true b h = (refl, h)
both false b h = absurd (cc h)

all_ascii : (bytes : List ℕ) → all_name_bytes bytes ≡ true → IsAscii bytes
all_ascii [] h i = omega arith
all_ascii (b ∷ bytes) h zero = name_byte_by b _ _ refl refl (both (is_name_byte b) _ h).0
all_ascii (b ∷ bytes) h (suc i) = all_ascii bytes (both (is_name_byte b) _ h).1 i

pub name_ascii : (bytes : List ℕ) → IsName bytes → IsAscii bytes
name_ascii [] h i = absurd (cc h)
name_ascii (b ∷ bytes) h zero = letter_small b (both (is_letter b) _ h).0
name_ascii (b ∷ bytes) h (suc i) = all_ascii bytes (both (is_letter b) _ h).1 i
