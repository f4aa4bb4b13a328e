-- The priced tariff: one place. A dark second costs the rate, in cents; a cent is 1,000 thousandths.
use Rattle.std.specs.Prelude.{ℕ, ◌*◌, [], ◌∷◌, pos}
use Rattle.interface.specs.Tariffs.{Scale}
use Rattle.tariffs.specs.Orders.{first_decides}

abbrev pub most_rate : ℕ
most_rate = 1000

abbrev pub priced_scale : ℕ → Scale
priced_scale rate = record {
  places = 1;
  second = pos (1000 * rate) ∷ [];
  cent = pos 1000 ∷ [];
  at_most = first_decides;
}
