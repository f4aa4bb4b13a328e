-- The limits of every plant and tariff, as src/limits.rt has them for the code.
use Rattle.std.specs.Prelude.{ℕ}

abbrev pub most_states : ℕ
most_states = 4096

abbrev pub most_portfolios : ℕ
most_portfolios = 64

abbrev pub most_outcomes : ℕ
most_outcomes = 64

abbrev pub most_seconds : ℕ
most_seconds = 10000

abbrev pub most_cents : ℕ
most_cents = 10000000

-- the sum of the weights of one list of outcomes
abbrev pub whole : ℕ
whole = 10000

-- the largest single charge that a plant is described by, in cents
abbrev pub most_charge : ℕ
most_charge = 1000000

-- the highest threshold of survival
abbrev pub most_threshold : ℕ
most_threshold = whole

abbrev pub most_places : ℕ
most_places = 4

-- the reach of a lawful bill's price
abbrev pub most_price : ℕ
most_price = 100000000000

-- beyond this reach no sum, difference or multiple is answered
abbrev pub most_reach : ℕ
most_reach = 1000000000000000000

-- the largest number by which an amount is multiplied
abbrev pub most_factor : ℕ
most_factor = 10000

-- the farthest that a value of a table may reach: 10^12
abbrev pub most_value : ℕ
most_value = 1000000000000

-- the farthest that the claims low and high may reach: 10^17
abbrev pub most_claim : ℕ
most_claim = 100000000000000000

-- the most windows that a book takes
abbrev pub most_windows : ℕ
most_windows = 1000000
