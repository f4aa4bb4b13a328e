-- The rows of hundredths.
use Rattle.std.specs.Prelude.{ℕ, Bool, cond, ◌&&◌, List, take, Some, None, sum, Option, ◌==◌}
use Rattle.reading.specs.Values.{padded as padded_to, list_of}
use Rattle.pair.specs.Limits.{hundred, most_grades}
pub use Rattle.pair.specs.Units.{all_zero}

-- a row adds up, and has zeros before the index of its own grade
abbrev pub adds_up : ℕ → List ℕ → Bool
adds_up own row = sum row == hundred && all_zero (take own row)

-- a row with zeros behind its numbers
abbrev pub padded : List ℕ → List ℕ
padded = padded_to most_grades

abbrev pub tested : ℕ → Option (List ℕ) → Option (List ℕ)
tested own None = None
tested own (Some hs) = cond (adds_up own (padded hs)) (Some (padded hs)) None

-- the row that a value lists, if it may stand there
abbrev pub row_of : List ℕ → ℕ → ℕ → Option (List ℕ)
row_of value grades own = tested own (list_of value hundred grades)
