-- Worked figures. Assumes nothing.
use Rattle.std.specs.Prelude.{ℕ, List, [], ◌∷◌, Some, None}
use Rattle.workorder.specs.Orders.{Least}
use Rattle.workorder.specs.declared.Arc.{Arc}

abbrev pub arc : ℕ → ℕ → ℕ → Arc
arc f t c = record { from = f; to = t; cents = c }

-- Each of two parts can be done after the other for 1, but one of them is done first, from the door.
abbrev pub circle : List Arc
circle = arc 0 1 10 ∷ arc 0 2 10 ∷ arc 1 2 1 ∷ arc 2 1 1 ∷ []

-- part 2 is cheaper after part 1 than from the door
abbrev pub row : List Arc
row = arc 0 1 364 ∷ arc 0 2 828 ∷ arc 1 2 527 ∷ []

-- no part can be done first
abbrev pub closed : List Arc
closed = arc 1 2 1 ∷ arc 2 1 1 ∷ []

-- the least cents of parts 1 and 2 together, and of part 1 alone
pub record Figures : Type 0 where
  pub circle_both : Least circle 3 (Some 11)
  pub row_both : Least row 3 (Some 891)
  pub row_first : Least row 1 (Some 364)
  pub closed_both : Least closed 3 None
