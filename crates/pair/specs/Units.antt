-- One unit: its grades go from 1 to a last one, which is failed. The row of a grade below the last gives the
-- hundredths of each next grade.
use Rattle.std.specs.Prelude.{◌≡◌, ℕ, zero, suc, ◌+◌, ◌-◌, ◌<◌, ◌≤◌, Bool, true, cond, ◌&&◌, List, [], take, sum, ◌==◌, slice_index, slice_index_or}
use Rattle.std.specs.List.{list_all, range_with_len}
use Rattle.pair.specs.declared.numbers.UnitNumbers.{UnitNumbers}
use Rattle.pair.specs.Limits.{least_grades, most_grades, hundred, most_charge, most_dark}

-- The sum of f over the grades 1 to n.
abbrev pub over_grades : (ℕ → ℕ) → ℕ → ℕ
over_grades f zero = 0
over_grades f (suc n) = over_grades f n + f (n + 1)

-- The row of grade g, and in it the hundredths of grade h after a window in which the unit moves by that row.
abbrev pub row_at : UnitNumbers → ℕ → List ℕ
row_at u g = slice_index_or u.rows (g - 1) []

abbrev pub hundredths : UnitNumbers → ℕ → ℕ → ℕ
hundredths u g h = slice_index (row_at u g) (h - 1)

-- The hundredths of staying below the failed grade.
abbrev pub staying : UnitNumbers → ℕ → ℕ
staying u g = over_grades (hundredths u g) (u.grades - 1)

abbrev pub failed : UnitNumbers → ℕ → Bool
failed u g = g == u.grades

-- A renewed unit moves by the row of grade 1, another by that of its own grade.
abbrev pub row_grade : Bool → ℕ → ℕ
row_grade renewed g = cond renewed 1 g

-- A failed unit has to be renewed.
abbrev pub attended : UnitNumbers → Bool → ℕ → Bool
attended u renewed g = cond (failed u g) renewed true

-- The cents of a renewal, if there is one: a failed unit's is forced.
abbrev pub renewal_cents : UnitNumbers → Bool → ℕ → ℕ
renewal_cents u renewed g = cond renewed (cond (failed u g) u.forced u.planned) 0

abbrev pub dark_seconds : UnitNumbers → ℕ → ℕ
dark_seconds u g = cond (failed u g) u.dark 0

abbrev pub HasGrade : UnitNumbers → ℕ → Type 0
HasGrade u g = (1 ≤ g) × (g ≤ u.grades)

-- A grade below the failed one. It has a row.
abbrev pub Working : UnitNumbers → ℕ → Type 0
Working u g = (1 ≤ g) × (g < u.grades)

-- The row of grade g adds up to 100, and has zeros before its own grade.
abbrev pub LawfulRow : UnitNumbers → ℕ → Type 0
LawfulRow u g = (over_grades (hundredths u g) u.grades ≡ hundred) × ((h : ℕ) → 1 ≤ h → h < g → hundredths u g h ≡ 0)

-- The same of every row, each part by itself.
abbrev pub WholeRows : UnitNumbers → Type 0
WholeRows u = (g : ℕ) → Working u g → over_grades (hundredths u g) u.grades ≡ hundred

abbrev pub NoReturn : UnitNumbers → Type 0
NoReturn u = (g h : ℕ) → Working u g × (1 ≤ h) × (h < g) → hundredths u g h ≡ 0

abbrev pub LawfulGrades : UnitNumbers → Type 0
LawfulGrades u = (least_grades ≤ u.grades) × (u.grades ≤ most_grades) × WholeRows u

abbrev pub LawfulCharges : UnitNumbers → Type 0
LawfulCharges u = (u.planned ≤ most_charge) × (u.forced ≤ most_charge) × (u.dark ≤ most_dark)

abbrev pub LawfulUnit : UnitNumbers → Type 0
LawfulUnit u = LawfulGrades u × NoReturn u × LawfulCharges u

-- The same as tests: of one row, and of the row of every grade below the failed one.
abbrev pub all_zero : List ℕ → Bool
all_zero = list_all (λ h. h == 0)

abbrev pub row_test : UnitNumbers → ℕ → Bool
row_test u g = sum (take u.grades (row_at u g)) == hundred && all_zero (take (g - 1) (row_at u g))

abbrev pub rows_test : UnitNumbers → Bool
rows_test u = list_all (row_test u) (range_with_len 1 (u.grades - 1))
