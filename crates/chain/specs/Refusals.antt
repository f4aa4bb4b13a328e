-- Why no chain is made.
use Rattle.std.specs.Prelude.{ℕ, ◌<◌, ◌≤◌}
use Rattle.chain.specs.Chains.{Unrenewable}
use Rattle.chain.specs.Parts.{LawfulNumbers}
use Rattle.chain.specs.States.{all_states}
use Rattle.chain.specs.declared.numbers.ChainNumbers.{ChainNumbers}
use Rattle.chain.specs.declared.refusal.ChainRefusal.TheVariants.{OutOfRange, TooManyStates, NoFullRenewal}
use Rattle.chain.specs.declared.refusal.ChainRefusal.{ChainRefusal}
use Rattle.interface.specs.Limits.{most_states}

-- The number of a refusal among all refusals of the house.
abbrev pub refusal_number : ChainRefusal → ℕ
refusal_number OutOfRange = 3
refusal_number TooManyStates = 4
refusal_number NoFullRenewal = 6

-- Numbers that no text holds have no line, so the place is 0.
abbrev pub refusal_place : ChainRefusal → ℕ
refusal_place OutOfRange = 0
refusal_place TooManyStates = 0
refusal_place NoFullRenewal = 0

-- What a refusal says of the numbers: the first test that fails.
abbrev pub Refused : ChainNumbers → ChainRefusal → Type 0
Refused n OutOfRange = LawfulNumbers n → ⊥
Refused n TooManyStates = LawfulNumbers n × (most_states < all_states n)
Refused n NoFullRenewal = LawfulNumbers n × (all_states n ≤ most_states) × Unrenewable n
