-- Numbers in base ten: at least one digit, no needless zero in front, at most one minus and none before 0.
use Rattle.std.specs.Prelude.{◌≡◌, ℕ, zero, suc, ◌+◌, ◌-◌, ◌*◌, ◌^◌, ◌<◌, ◌≤◌, Bool, cond, not, ◌&&◌, List, [], ◌∷◌, length, drop, ℤ, pos, negsuc, Some, None, decimal, Option, ◌==◌, nat_le, nat_lt, slice_index}
use Rattle.std.specs.Int.Signed.{mag}
use Rattle.std.specs.Option.{option_map}
use Rattle.std.specs.Fmt.{signed_decimal}
use Rattle.std.specs.Char.{is_ascii_digit}
use Rattle.std.specs.Str.{all_ascii_digits}
use Rattle.lines.specs.Exactly.{Iff}

-- the digit 0
abbrev pub zero_digit : ℕ
zero_digit = 48

abbrev pub minus_sign : ℕ
minus_sign = 45

-- the number that digits write, after those that wrote n
abbrev pub value_after : ℕ → List ℕ → ℕ
value_after n [] = n
value_after n (c ∷ cs) = value_after (10 * n + (c - zero_digit)) cs

abbrev pub needless_zero : List ℕ → Bool
needless_zero s = nat_lt 1 (length s) && slice_index s 0 == zero_digit

-- a text in the form of a number
abbrev pub well_formed : List ℕ → Bool
well_formed s = (nat_lt 0 (length s) && not (needless_zero s)) && all_ascii_digits s

-- the number that a text writes, if it is at most so much
abbrev pub numeral : List ℕ → ℕ → Option ℕ
numeral s most = cond (well_formed s && nat_le (value_after 0 s) most) (Some (value_after 0 s)) None

-- one digit more behind v, if that is at most so much
abbrev pub pushed : ℕ → ℕ → ℕ → Option ℕ
pushed v c most = cond (is_ascii_digit c && nat_le (10 * v + (c - zero_digit)) most) (Some (10 * v + (c - zero_digit))) None

-- a number behind a minus
abbrev pub negated : Option ℕ → Option ℤ
negated None = None
negated (Some zero) = None
negated (Some (suc n)) = Some (negsuc n)

-- the number of 64 bits that a text writes, with or without a minus
abbrev pub signed_numeral : List ℕ → Option ℤ
signed_numeral s = cond (slice_index s 0 == minus_sign) (negated (numeral (drop 1 s) (2 ^ 63))) (option_map pos (numeral s (2 ^ 63 - 1)))

-- a number is read exactly from its decimal text, and exactly where it is at most so much
abbrev pub ReadsNumber : List ℕ → ℕ → Option ℕ → Type 0
ReadsNumber s most r = (n : ℕ) → Iff (r ≡ Some n) ((s ≡ decimal n) × (n ≤ most))

-- the same with a sign, at every number of 64 bits
abbrev pub ReadsSigned : List ℕ → Option ℤ → Type 0
ReadsSigned s r = (z : ℤ) → Iff (r ≡ Some z) ((s ≡ signed_decimal z) × (mag z < 2 ^ 63))
