-- The look-ahead and the gain step by step, as the tariff's operations answer: absent as soon as one of them is,
-- or a state has no value in the table. Gains.antt says what they come to on a table within reach.
use Rattle.std.specs.Prelude.{ℕ, cond, List, [], ◌∷◌, Some, None, Option}
use Rattle.std.specs.List.{slice_get}
use Rattle.interface.specs.declared.plant.Bill.{Bill}
use Rattle.interface.specs.declared.plant.Outcome.{Outcome}
use Rattle.interface.specs.Limits.{whole}
use Rattle.interface.specs.Plants.{Model}
use Rattle.interface.specs.Rows.{Row, plus, minus, times}
use Rattle.interface.specs.Tariffs.{Scale, price, summable, multipliable, billable}

abbrev pub then : {A B : Type 0} → Option A → (A → Option B) → Option B
then None f = None
then (Some a) f = f a

abbrev pub summed : Row → Row → Option Row
summed u v = cond (summable u v) (Some (plus u v)) None

abbrev pub lessened : Row → Row → Option Row
lessened u v = cond (summable u v) (Some (minus u v)) None

abbrev pub multiplied : ℕ → Row → Option Row
multiplied n u = cond (multipliable n u) (Some (times n u)) None

abbrev pub priced : Scale → Bill → Option Row
priced t b = cond (billable b) (Some (price t b)) None

-- one outcome more
abbrev pub add_outcome : List Row → Row → Outcome → Option Row
add_outcome vs u o = then (slice_get vs o.next) (λ v. then (multiplied o.weight v) (λ w. summed u w))

abbrev pub add_outcomes : List Row → Row → List Outcome → Option Row
add_outcomes vs u [] = Some u
add_outcomes vs u (o ∷ os) = then (add_outcome vs u o) (λ w. add_outcomes vs w os)

-- the look-ahead of a bill and its outcomes
abbrev pub ahead_of : Scale → List Row → Bill → List Outcome → Option Row
ahead_of t vs b os = then (priced t b) (λ p. then (multiplied whole p) (λ u. add_outcomes vs u os))

-- what a look-ahead exceeds a state's own value by, that value taken 10,000 times
abbrev pub above_own : List Row → ℕ → Row → Option Row
above_own vs s l = then (slice_get vs s) (λ v. then (multiplied whole v) (λ w. lessened l w))

-- the gain of a bill and its outcomes, in a state
abbrev pub gain_of : Scale → List Row → Bill → List Outcome → ℕ → Option Row
gain_of t vs b os s = then (ahead_of t vs b os) (above_own vs s)

abbrev pub look_ahead_steps : Model → Scale → List Row → ℕ → ℕ → Option Row
look_ahead_steps m t vs s x = cond (m.feasible s x) (ahead_of t vs (m.bill s x) (m.outcomes s x)) None

abbrev pub gain_steps : Model → Scale → List Row → ℕ → ℕ → Option Row
gain_steps m t vs s x = then (look_ahead_steps m t vs s x) (above_own vs s)
