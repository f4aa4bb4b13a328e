-- The look-ahead and the gain of a portfolio under a value table, as rows of any reach.
use Rattle.std.specs.Prelude.{◌≡◌, ℕ, ◌≤◌, List, [], ◌∷◌, length, slice_index_or}
use Rattle.std.specs.Coded.{Coded-set, coded_ℕ, ×_prop, Unit-prop, le_prop}
use Rattle.std.proofs.Math.Path.{ap, ◌∙◌}
use Rattle.interface.specs.declared.plant.Outcome.{Outcome}
use Rattle.interface.specs.Limits.{whole, most_value}
use Rattle.interface.specs.Plants.{Model}
use Rattle.interface.specs.Rows.{Row, zeros, plus, minus, times, reach}
use Rattle.interface.specs.Tariffs.{Scale, price}

-- A value table has one row to each state.
abbrev pub value_of : Scale → List Row → ℕ → Row
value_of t vs s = slice_index_or vs s (zeros t.places)

-- Every outcome's value, weighed, added up.
abbrev pub expected : Scale → List Row → List Outcome → Row
expected t vs [] = zeros t.places
expected t vs (o ∷ os) = plus (times o.weight (value_of t vs o.next)) (expected t vs os)

-- 10,000 × the price of the bill + the expected value.
abbrev pub look_ahead : Model → Scale → List Row → ℕ → ℕ → Row
look_ahead m t vs s x = plus (times whole (price t (m.bill s x))) (expected t vs (m.outcomes s x))

-- What the look-ahead exceeds the state's own value by, that value taken 10,000 times.
abbrev pub gain : Model → Scale → List Row → ℕ → ℕ → Row
gain m t vs s x = minus (look_ahead m t vs s x) (times whole (value_of t vs s))

abbrev pub Near : List Row → Type 0
Near [] = Unit {0}
Near (v ∷ vs) = (reach v ≤ most_value) × Near vs

-- A table within reach: one value to each state, each within 10^12.
pub record Within (m : Model) (vs : List Row) : Type 0 where
  pub long : length vs ≡ m.states
  pub near : Near vs

-- Each holds in one way only, so that a struct may keep it.
pub near_prop : (vs : List Row) → IsProp (Near vs)
near_prop [] = Unit-prop
near_prop (v ∷ vs) = ×_prop le_prop (near_prop vs)

pub within_prop : (m : Model) (vs : List Row) → IsProp (Within m vs)
within_prop m vs = λ a b. ap (λ long. record { long = long; near = a.near }) (Coded-set coded_ℕ (length vs) m.states a.long b.long) ∙ ap (λ near. record { long = b.long; near = near }) (near_prop vs a.near b.near)
