-- The order in which the first place decides, then the second, and so on: at one place, the usual order of numbers.
use Rattle.std.specs.Prelude.{Bool, true, false, cond, [], ◌∷◌, int_lt}
use Rattle.interface.specs.Rows.{Row}

abbrev pub first_decides : Row → Row → Bool
first_decides [] v = true
first_decides (x ∷ u) [] = false
first_decides (x ∷ u) (y ∷ v) = cond (int_lt x y) true (cond (int_lt y x) false (first_decides u v))
