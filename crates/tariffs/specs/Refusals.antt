-- Why no priced tariff is made, with its number and its place.
use Rattle.std.specs.Prelude.{ℕ}
use Rattle.tariffs.specs.declared.refusal.Unpriced.{Unpriced}
use Rattle.tariffs.specs.declared.refusal.Unpriced.TheVariants.{RateOutOfRange}

abbrev pub number_of : Unpriced → ℕ
number_of RateOutOfRange = 3

abbrev pub place_of : Unpriced → ℕ
place_of RateOutOfRange = 0
