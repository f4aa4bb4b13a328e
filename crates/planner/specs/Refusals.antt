-- Why there is no plan, with its number and its place.
use Rattle.std.specs.Prelude.{ℕ}
use Rattle.planner.specs.declared.refusal.Refusal.{Refusal}
use Rattle.planner.specs.declared.refusal.Refusal.TheVariants.{TooManySweeps, WrongLength, BeyondReach}

abbrev pub number_of : Refusal → ℕ
number_of TooManySweeps = 3
number_of WrongLength = 7
number_of (BeyondReach s) = 8

abbrev pub place_of : Refusal → ℕ
place_of TooManySweeps = 0
place_of WrongLength = 0
place_of (BeyondReach s) = s
