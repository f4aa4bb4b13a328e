-- What is known of a reader, whatever it has read: all that is behind it was in form, range and turn.
use Rattle.std.specs.Prelude.{◌≡◌, ℕ, ◌+◌, ◌-◌, ◌<◌, ◌≤◌, List, ◌++◌, map, length, get_or, take, drop, slice_index_or}
use Rattle.pair.specs.Limits.{least_grades, most_grades, most_threshold, most_charge}
use Rattle.pair.specs.Units.{LawfulRow, LawfulCharges}
use Rattle.pair.specs.declared.numbers.UnitNumbers.{UnitNumbers}
use Rattle.pairtext.specs.declared.reader.PairReader.{PairReader}
use Rattle.pairtext.specs.declared.stage.Stage.{Stage}
use Rattle.pairtext.specs.declared.stage.Stage.TheVariants.{KindDue, ThresholdDue, SetupDue, InspectDue, UnitDue, GradesDue, RowDue, PlannedDue, ForcedDue, DarkDue, EndDue, Complete}
use Rattle.pairtext.specs.declared.stage.UnitName.{UnitName}
use Rattle.pairtext.specs.declared.stage.UnitName.TheVariants.{One, Two}
use Rattle.pairtext.specs.Readers.{blank_rows, no_unit, opened_unit}
use Rattle.pairtext.specs.Rows.{padded}

-- a table of which so many rows are used, each up to so many grades, with zeros everywhere else
abbrev pub laid : ℕ → ℕ → List (List ℕ) → List (List ℕ)
laid count grades rows = map (λ row. padded (take grades row)) (take count rows) ++ drop count blank_rows

-- the grades of a unit are in range, so many of its rows are lawful, and it holds no other
abbrev pub Graded : ℕ → UnitNumbers → Type 0
Graded count u = (least_grades ≤ u.grades) × (u.grades ≤ most_grades) × ((g : ℕ) → 1 ≤ g → g ≤ count → LawfulRow u g) × (u.rows ≡ laid count u.grades u.rows)

-- all of its rows are
abbrev pub WhollyGraded : UnitNumbers → Type 0
WhollyGraded u = Graded (u.grades - 1) u

-- each unit has room for all rows, and charges in range
abbrev pub Kept : UnitNumbers → Type 0
Kept u = (length u.rows ≡ most_grades) × LawfulCharges u

-- the other unit: of unit 2 nothing was read before unit 1 is behind, and then all of unit 1
abbrev pub Other : UnitName → PairReader → Type 0
Other One r = (get_or r.units 1 no_unit).rows ≡ blank_rows
Other Two r = WhollyGraded (slice_index_or r.units 0 no_unit)

-- what was read of the unit opened last, by the line that is due
abbrev pub Here : Stage → PairReader → Type 0
Here KindDue r = ((opened_unit r).rows ≡ blank_rows) × (r.opened ≡ One)
Here ThresholdDue r = ((opened_unit r).rows ≡ blank_rows) × (r.opened ≡ One)
Here SetupDue r = ((opened_unit r).rows ≡ blank_rows) × (r.opened ≡ One)
Here InspectDue r = ((opened_unit r).rows ≡ blank_rows) × (r.opened ≡ One)
Here UnitDue r = (opened_unit r).rows ≡ blank_rows
Here GradesDue r = (opened_unit r).rows ≡ blank_rows
Here RowDue r = Graded r.row (opened_unit r) × (r.row + 1 < (opened_unit r).grades)
Here PlannedDue r = WhollyGraded (opened_unit r)
Here ForcedDue r = WhollyGraded (opened_unit r)
Here DarkDue r = WhollyGraded (opened_unit r)
Here EndDue r = WhollyGraded (opened_unit r) × (r.opened ≡ Two)
Here Complete r = WhollyGraded (opened_unit r) × (r.opened ≡ Two)

pub record Sound (r : PairReader) : Type 0 where
  pub threshold : r.threshold ≤ most_threshold
  pub setup : r.setup ≤ most_charge
  pub inspect : r.inspect ≤ most_charge
  pub both : length r.units ≡ 2
  pub kept : (i : ℕ) → i < 2 → Kept (slice_index_or r.units i no_unit)
  pub other : Other r.opened r
  pub here : Here r.stage r
