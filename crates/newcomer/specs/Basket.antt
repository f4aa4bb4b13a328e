-- A tariff of three places: seconds, cents, and a fee for every second. Rows are compared by the sum of their places, so that
-- different rows can be each at most the other.
use Rattle.std.specs.Prelude.{[], ◌∷◌, ℤ, pos, ◌+ℤ◌, int_le}
use Rattle.interface.specs.Rows.{Row}
use Rattle.interface.specs.Tariffs.{Scale}

abbrev pub contents : Row → ℤ
contents [] = pos 0
contents (x ∷ u) = x +ℤ contents u

abbrev pub basket_scale : Scale
basket_scale = record {
  places = 3;
  second = pos 1000 ∷ pos 0 ∷ pos 7 ∷ [];
  cent = pos 0 ∷ pos 1000 ∷ pos 0 ∷ [];
  at_most = λ u v. int_le (contents u) (contents v);
}
