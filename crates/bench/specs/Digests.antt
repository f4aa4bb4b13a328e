-- Numbers and answers mixed into one number.
use Rattle.std.specs.Prelude.{ℕ, zero, suc, ◌+◌, ◌-◌, ◌*◌, ◌%◌, ◌^◌, Bool, cond, ℤ, pos, negsuc, Some, None, Option}
use Rattle.interface.specs.declared.plant.Bill.{Bill}
use Rattle.interface.specs.declared.plant.Outcome.{Outcome}

abbrev pub multiplier : ℕ
multiplier = 6364136223846793005

-- stands for an absent answer
abbrev pub absent : ℕ
absent = 2 ^ 64 - 1

-- one more number
unfoldable pub mix : ℕ → ℕ → ℕ
mix d n = ((d * multiplier) % 2 ^ 64 + n) % 2 ^ 64

abbrev pub with_flag : ℕ → Bool → ℕ
with_flag d b = cond b (mix d 1) (mix d 0)

abbrev pub with_bill : ℕ → Option Bill → ℕ
with_bill d (Some b) = mix (mix d b.seconds) b.cents
with_bill d None = mix d absent

abbrev pub with_outcome : ℕ → Option Outcome → ℕ
with_outcome d (Some o) = mix (mix d o.next) o.weight
with_outcome d None = mix d absent

-- the sign of a place, and then its size
abbrev pub with_place : ℕ → Option ℤ → ℕ
with_place d (Some (pos n)) = mix (mix d 0) n
with_place d (Some (negsuc n)) = mix (mix d 1) (suc n)
with_place d None = mix d absent

-- steps 0, 1, .. in turn, so many
abbrev pub in_turn : (ℕ → ℕ → ℕ) → ℕ → ℕ → ℕ
in_turn step zero d = d
in_turn step (suc n) d = step n (in_turn step n d)
