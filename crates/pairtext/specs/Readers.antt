-- What was read so far of a pair's text.
use Rattle.std.specs.Prelude.{ℕ, List, [], ◌∷◌, replicate, slice_index_or, slice_set}
use Rattle.pair.specs.Limits.{most_grades}
use Rattle.pair.specs.declared.numbers.UnitNumbers.{UnitNumbers}
use Rattle.pairtext.specs.declared.reader.PairReader.{PairReader}
use Rattle.pairtext.specs.declared.stage.Stage.{Stage}
use Rattle.pairtext.specs.declared.stage.Stage.TheVariants.{KindDue}
use Rattle.pairtext.specs.declared.stage.UnitName.{UnitName}
use Rattle.pairtext.specs.declared.stage.UnitName.TheVariants.{One, Two}

-- the number of a unit in a text, and its place in a table of both
abbrev pub unit_number : UnitName → ℕ
unit_number One = 1
unit_number Two = 2

abbrev pub unit_index : UnitName → ℕ
unit_index One = 0
unit_index Two = 1

-- a row of which nothing was read, all rows, and a unit
abbrev pub blank_row : List ℕ
blank_row = replicate most_grades 0

abbrev pub blank_rows : List (List ℕ)
blank_rows = replicate most_grades blank_row

abbrev pub blank_unit : UnitNumbers
blank_unit = record { grades = 0; rows = blank_rows; planned = 0; forced = 0; dark = 0 }

-- a reader of which the first line is due
abbrev pub fresh : PairReader
fresh = record { stage = KindDue; threshold = 0; setup = 0; inspect = 0; units = blank_unit ∷ (blank_unit ∷ []); opened = One; row = 0 }

-- a unit with one number put in
abbrev pub with_grades : ℕ → UnitNumbers → UnitNumbers
with_grades n u = record { grades = n; rows = u.rows; planned = u.planned; forced = u.forced; dark = u.dark }

abbrev pub with_row : ℕ → List ℕ → UnitNumbers → UnitNumbers
with_row at row u = record { grades = u.grades; rows = slice_set u.rows at row; planned = u.planned; forced = u.forced; dark = u.dark }

abbrev pub with_planned : ℕ → UnitNumbers → UnitNumbers
with_planned n u = record { grades = u.grades; rows = u.rows; planned = n; forced = u.forced; dark = u.dark }

abbrev pub with_forced : ℕ → UnitNumbers → UnitNumbers
with_forced n u = record { grades = u.grades; rows = u.rows; planned = u.planned; forced = n; dark = u.dark }

abbrev pub with_dark : ℕ → UnitNumbers → UnitNumbers
with_dark n u = record { grades = u.grades; rows = u.rows; planned = u.planned; forced = u.forced; dark = n }

-- past the table stands nothing at all
abbrev pub no_unit : UnitNumbers
no_unit = record { grades = 0; rows = []; planned = 0; forced = 0; dark = 0 }

-- the unit opened last
abbrev pub opened_unit : PairReader → UnitNumbers
opened_unit r = slice_index_or r.units (unit_index r.opened) no_unit

-- a reader with one thing put in
abbrev pub at_stage : Stage → PairReader → PairReader
at_stage s r = record { stage = s; threshold = r.threshold; setup = r.setup; inspect = r.inspect; units = r.units; opened = r.opened; row = r.row }

abbrev pub with_threshold : ℕ → PairReader → PairReader
with_threshold n r = record { stage = r.stage; threshold = n; setup = r.setup; inspect = r.inspect; units = r.units; opened = r.opened; row = r.row }

abbrev pub with_setup : ℕ → PairReader → PairReader
with_setup n r = record { stage = r.stage; threshold = r.threshold; setup = n; inspect = r.inspect; units = r.units; opened = r.opened; row = r.row }

abbrev pub with_inspect : ℕ → PairReader → PairReader
with_inspect n r = record { stage = r.stage; threshold = r.threshold; setup = r.setup; inspect = n; units = r.units; opened = r.opened; row = r.row }

abbrev pub with_unit : UnitNumbers → PairReader → PairReader
with_unit u r = record { stage = r.stage; threshold = r.threshold; setup = r.setup; inspect = r.inspect; units = slice_set r.units (unit_index r.opened) u; opened = r.opened; row = r.row }

abbrev pub with_opened : UnitName → PairReader → PairReader
with_opened n r = record { stage = r.stage; threshold = r.threshold; setup = r.setup; inspect = r.inspect; units = r.units; opened = n; row = r.row }

abbrev pub at_row : ℕ → PairReader → PairReader
at_row k r = record { stage = r.stage; threshold = r.threshold; setup = r.setup; inspect = r.inspect; units = r.units; opened = r.opened; row = k }
