-- The bytes of a number's text: it may stand in a line, and between commas.
use Rattle.std.proofs.Common.{◌≡◌, ℕ, suc, ◌^◌, ◌<◌, List, [], ◌∷◌, ℤ, pos, negsuc, decimal, arith}
use lib.Signed.{mag}
use Rattle.std.specs.Str.Parse.{AllDigits}
use Rattle.std.specs.Int.{IsInRange}
use Rattle.std.specs.Fmt.{signed_decimal}
use Rattle.std.specs.List.{AllByRecursion}
use Rattle.std.proofs.lemmas.Fmt.{decimal_is_IsNumeral}
use Rattle.std.proofs.ByRecursion.{All-weaker}
use Rattle.std.proofs.lemmas.Str.Parse.{digit_from_value}
use Rattle.lines.specs.Cuts.{Free}
use Rattle.lines.specs.Line.{Printable}
use Rattle.lines.specs.Numeral.{minus_sign}

all_digits : (ds : List ℕ) → AllDigits 10 ds → AllByRecursion (IsInRange 48 57) ds
all_digits [] h = tt
all_digits (c ∷ cs) h = (digit_from_value c h.0, all_digits cs h.1)

-- all that is said of each digit holds of each byte of a number
pub decimal_bytes : (P : ℕ → Type 0) → ((c : ℕ) → IsInRange 48 57 c → P c) → (n : ℕ) → n < 2 ^ 64 → AllByRecursion P (decimal n)
decimal_bytes P h n small = All-weaker (IsInRange 48 57) P h (decimal n) (all_digits (decimal n) (decimal_is_IsNumeral n small).0.1)

pub signed_bytes : (P : ℕ → Type 0) → ((c : ℕ) → IsInRange 48 57 c → P c) → P minus_sign → (z : ℤ) → mag z < 2 ^ 63 → AllByRecursion P (signed_decimal z)
signed_bytes P h minus (pos n) small = decimal_bytes P h n (omega arith)
signed_bytes P h minus (negsuc n) small = (minus, decimal_bytes P h (suc n) (omega arith))

pub signed_printable : (z : ℤ) → mag z < 2 ^ 63 → AllByRecursion Printable (signed_decimal z)
signed_printable = signed_bytes Printable (λ c d. (omega arith, omega arith)) (omega arith, omega arith)

pub decimal_printable : (n : ℕ) → n < 2 ^ 64 → AllByRecursion Printable (decimal n)
decimal_printable = decimal_bytes Printable (λ c d. (omega arith, omega arith))

-- a byte below the minus, as a comma, stands in no number
pub signed_free : (b : ℕ) → b < minus_sign → (z : ℤ) → mag z < 2 ^ 63 → Free b (signed_decimal z)
signed_free b low z small = signed_bytes (λ x. x ≡ b → ⊥) (λ c d e. omega arith) (λ e. omega arith) z small

pub decimal_free : (b : ℕ) → b < minus_sign → (n : ℕ) → n < 2 ^ 64 → Free b (decimal n)
decimal_free b low n small = decimal_bytes (λ x. x ≡ b → ⊥) (λ c d e. omega arith) n small
