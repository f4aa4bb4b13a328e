-- Why no pair is made.
use Rattle.std.specs.Prelude.{ℕ}
use Rattle.pair.specs.declared.refusal.PairRefusal.{PairRefusal}
use Rattle.pair.specs.declared.refusal.PairRefusal.TheVariants.{OutOfRange, NoFullRenewal}
use Rattle.pair.specs.declared.numbers.PairNumbers.{PairNumbers}
use Rattle.pair.specs.Pairs.{LawfulNumbers, Unrenewable}

-- The number of a refusal among all refusals of the house.
abbrev pub refusal_number : PairRefusal → ℕ
refusal_number OutOfRange = 3
refusal_number NoFullRenewal = 6

-- Numbers that no text holds have no line, so the place is 0.
abbrev pub refusal_place : PairRefusal → ℕ
refusal_place OutOfRange = 0
refusal_place NoFullRenewal = 0

-- What a refusal says of the numbers. The ranges are tested first.
abbrev pub Refused : PairNumbers → PairRefusal → Type 0
Refused n OutOfRange = LawfulNumbers n → ⊥
Refused n NoFullRenewal = LawfulNumbers n × Unrenewable n
