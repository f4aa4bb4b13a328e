-- The air-first tariff: two places, dark seconds and then cents, and the first place decides.
use Rattle.std.specs.Prelude.{[], ◌∷◌, pos}
use Rattle.interface.specs.Tariffs.{Scale}
use Rattle.tariffs.specs.Orders.{first_decides}

abbrev pub air_first_scale : Scale
air_first_scale = record {
  places = 2;
  second = pos 1000 ∷ pos 0 ∷ [];
  cent = pos 0 ∷ pos 1000 ∷ [];
  at_most = first_decides;
}
