-- One line of a pair's text: what the reader makes of its key and its value.
use Rattle.std.specs.Prelude.{ℕ, ◌+◌, Bool, cond, List, Some, None, Ok, Err, codes, Option, Result, ◌==◌}
use Rattle.std.specs.Str.{bytes_eq}
use Rattle.lines.specs.Line.{Said, pair, fault}
use Rattle.reading.specs.Keys.{name_of, key_of}
use Rattle.reading.specs.Rules.{fault_rule}
use Rattle.reading.specs.Values.{number_between}
use Rattle.reading.specs.declared.keys.Key.{Key}
use Rattle.reading.specs.declared.keys.Key.TheVariants.{Kind, Threshold, Setup, Inspect, Unit as UnitKey, Grades, Row, Planned, Forced, Dark, End, Other}
use Rattle.reading.specs.declared.rules.Rule.{Rule}
use Rattle.reading.specs.declared.rules.Rule.TheVariants.{Unexpected, OutOfRange}
use Rattle.pair.specs.Limits.{least_grades, most_grades, most_threshold, most_charge, most_dark}
use Rattle.pairtext.specs.declared.reader.PairReader.{PairReader}
use Rattle.pairtext.specs.declared.stage.Stage.{Stage}
use Rattle.pairtext.specs.declared.stage.Stage.TheVariants.{KindDue, ThresholdDue, SetupDue, InspectDue, UnitDue, GradesDue, RowDue, PlannedDue, ForcedDue, DarkDue, EndDue, Complete}
use Rattle.pairtext.specs.declared.stage.UnitName.{UnitName}
use Rattle.pairtext.specs.declared.stage.UnitName.TheVariants.{One, Two}
use Rattle.pairtext.specs.Readers.{unit_number, with_grades, with_row, with_planned, with_forced, with_dark, opened_unit, at_stage, with_threshold, with_setup, with_inspect, with_unit, with_opened, at_row}
use Rattle.pairtext.specs.Rows.{row_of}

-- the reader behind the line, or the rule that the line breaks
abbrev pub Step : Type 0
Step = Result PairReader Rule

-- a line whose value is a word
abbrev pub on_word : List ℕ → List ℕ → PairReader → Step
on_word value word next = cond (bytes_eq value word) (Ok next) (Err Unexpected)

-- a line whose value is a number or a row, where it is in form, range and turn
abbrev pub on : {X : Type 0} → Option X → (X → PairReader) → Step
on None next = Err OutOfRange
on (Some x) next = Ok (next x)

-- behind the rows comes the planned renewal; a unit of G grades has G - 1 rows
abbrev pub behind_row : ℕ → ℕ → Stage
behind_row rows grades = cond (rows + 1 == grades) PlannedDue RowDue

-- behind unit 1 comes unit 2, and behind that the end
abbrev pub behind_unit : UnitName → PairReader → PairReader
behind_unit One r = at_stage UnitDue (with_opened Two r)
behind_unit Two r = at_stage EndDue r

abbrev pub take_kind : PairReader → List ℕ → Step
take_kind r value = on_word value (codes "pair") (at_stage ThresholdDue r)

abbrev pub take_threshold : PairReader → List ℕ → Step
take_threshold r value = on (number_between value 0 most_threshold) (λ n. at_stage SetupDue (with_threshold n r))

abbrev pub take_setup : PairReader → List ℕ → Step
take_setup r value = on (number_between value 0 most_charge) (λ n. at_stage InspectDue (with_setup n r))

abbrev pub take_inspect : PairReader → List ℕ → Step
take_inspect r value = on (number_between value 0 most_charge) (λ n. at_stage UnitDue (with_inspect n r))

abbrev pub take_unit : PairReader → List ℕ → Step
take_unit r value = on (number_between value (unit_number r.opened) (unit_number r.opened)) (λ n. at_stage GradesDue r)

abbrev pub take_grades : PairReader → List ℕ → Step
take_grades r value = on (number_between value least_grades most_grades) (λ n. at_stage RowDue (at_row 0 (with_unit (with_grades n (opened_unit r)) r)))

abbrev pub take_row : PairReader → List ℕ → Step
take_row r value = on (row_of value (opened_unit r).grades r.row) (λ hs. at_stage (behind_row (r.row + 1) (opened_unit r).grades) (at_row (r.row + 1) (with_unit (with_row r.row hs (opened_unit r)) r)))

abbrev pub take_planned : PairReader → List ℕ → Step
take_planned r value = on (number_between value 0 most_charge) (λ n. at_stage ForcedDue (with_unit (with_planned n (opened_unit r)) r))

abbrev pub take_forced : PairReader → List ℕ → Step
take_forced r value = on (number_between value 0 most_charge) (λ n. at_stage DarkDue (with_unit (with_forced n (opened_unit r)) r))

abbrev pub take_dark : PairReader → List ℕ → Step
take_dark r value = on (number_between value 0 most_dark) (λ n. behind_unit r.opened (with_unit (with_dark n (opened_unit r)) r))

abbrev pub take_end : PairReader → List ℕ → Step
take_end r value = on_word value (codes "plant") (at_stage Complete r)

-- the key that is due, and what becomes of its value
abbrev pub due : Stage → Key
due KindDue = Kind
due ThresholdDue = Threshold
due SetupDue = Setup
due InspectDue = Inspect
due UnitDue = UnitKey
due GradesDue = Grades
due RowDue = Row
due PlannedDue = Planned
due ForcedDue = Forced
due DarkDue = Dark
due EndDue = End
due Complete = Other

abbrev pub take_at : Stage → PairReader → List ℕ → Step
take_at KindDue r value = take_kind r value
take_at ThresholdDue r value = take_threshold r value
take_at SetupDue r value = take_setup r value
take_at InspectDue r value = take_inspect r value
take_at UnitDue r value = take_unit r value
take_at GradesDue r value = take_grades r value
take_at RowDue r value = take_row r value
take_at PlannedDue r value = take_planned r value
take_at ForcedDue r value = take_forced r value
take_at DarkDue r value = take_dark r value
take_at EndDue r value = take_end r value
take_at Complete r value = Err Unexpected

abbrev pub is_due : Stage → Key → Bool
is_due stage key = bytes_eq (name_of key) (name_of (due stage))

-- one line: another key than the one due is refused before its value is looked at
abbrev pub pair_step : PairReader → Key → List ℕ → Step
pair_step r key value = cond (is_due r.stage key) (take_at r.stage r value) (Err Unexpected)

-- what is read of a line: a key with its value is taken, and a fault breaks its rule
abbrev pub line_step : PairReader → Said → Step
line_step r (pair key value) = pair_step r (key_of key) value
line_step r (fault n) = Err (fault_rule n)

-- what a step answers, and the reader after it: a refused step leaves it as it was
abbrev pub answer_of : Step → Result (Unit {0}) Rule
answer_of (Ok next) = Ok tt
answer_of (Err rule) = Err rule

abbrev pub reader_after : PairReader → Step → PairReader
reader_after r (Ok next) = next
reader_after r (Err rule) = r
