-- Rows of signed whole numbers, in thousandths: what amounts mean. All is done place by place.
use Rattle.std.specs.Prelude.{ℕ, max, List, [], ◌∷◌, replicate, ℤ, pos, ◌+ℤ◌, ◌-ℤ◌, ◌*ℤ◌, unsigned_abs}
use Rattle.std.specs.Int.{int_div_euclid}
use Rattle.interface.specs.Limits.{whole}

abbrev pub Row : Type 0
Row = List ℤ

abbrev pub zeros : ℕ → Row
zeros n = replicate n (pos 0)

abbrev pub plus : Row → Row → Row
plus [] v = []
plus (x ∷ u) [] = []
plus (x ∷ u) (y ∷ v) = (x +ℤ y) ∷ plus u v

abbrev pub minus : Row → Row → Row
minus [] v = []
minus (x ∷ u) [] = []
minus (x ∷ u) (y ∷ v) = (x -ℤ y) ∷ minus u v

abbrev pub times : ℕ → Row → Row
times n [] = []
times n (x ∷ u) = (pos n *ℤ x) ∷ times n u

-- A ten-thousandth of each place, by floor division.
abbrev pub share : Row → Row
share [] = []
share (x ∷ u) = int_div_euclid x (pos whole) ∷ share u

-- The largest absolute value among the places.
abbrev pub reach : Row → ℕ
reach [] = 0
reach (x ∷ u) = max (unsigned_abs x) (reach u)
