-- The number and the place of each refusal.
use Rattle.std.specs.Prelude.{ℕ}
use Rattle.bookkeeping.specs.declared.refusal.Refusal.{Refusal}
use Rattle.bookkeeping.specs.declared.refusal.Refusal.TheVariants.{NoState, WrongLength, Infeasible, NoOutcome, Full}

abbrev pub number_of : Refusal → ℕ
number_of (NoState s) = 21
number_of WrongLength = 7
number_of (Infeasible s) = 22
number_of (NoOutcome k) = 23
number_of Full = 24

-- The state or the outcome that is named, 0 where none is.
abbrev pub place_of : Refusal → ℕ
place_of (NoState s) = s
place_of WrongLength = 0
place_of (Infeasible s) = s
place_of (NoOutcome k) = k
place_of Full = 0
