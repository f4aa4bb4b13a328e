-- The limits of a pair, as src/limits.rt has them for the code.
use Rattle.std.specs.Prelude.{ℕ}
use Rattle.interface.specs.Limits.{most_charge as any_charge, most_threshold as any_threshold}

abbrev pub least_grades : ℕ
least_grades = 2

abbrev pub most_grades : ℕ
most_grades = 8

-- the sum of one row
abbrev pub hundred : ℕ
hundred = 100

abbrev pub most_threshold : ℕ
most_threshold = any_threshold

-- the largest setup, inspection, planned or forced renewal, in cents
abbrev pub most_charge : ℕ
most_charge = any_charge

-- the largest number of dark seconds of one failed unit
abbrev pub most_dark : ℕ
most_dark = 5000
