-- A pair's text, read line by line.
use Rattle.std.specs.Prelude.{◌≡◌, ℕ, zero, suc, ◌+◌, Bool, true, false, cond, List, length, Ok, Err, Result, slice_index_or}
use Rattle.lines.specs.Line.{Said, pair, fault, line_at, rest_at}
use Rattle.reading.specs.Keys.{key_of}
use Rattle.reading.specs.Rules.{fault_rule}
use Rattle.reading.specs.declared.rules.ReadRefusal.{ReadRefusal}
use Rattle.reading.specs.declared.rules.Rule.{Rule}
use Rattle.reading.specs.declared.rules.Rule.TheVariants.{Unexpected, NoFullRenewal}
use Rattle.pair.specs.Pairs.{pair_feasible}
use Rattle.pair.specs.Portfolios.{both_units}
use Rattle.pair.specs.declared.numbers.PairNumbers.{PairNumbers}
use Rattle.pair.specs.declared.plant.Pair.{Pair}
use Rattle.pairtext.specs.declared.reader.PairReader.{PairReader}
use Rattle.pairtext.specs.declared.stage.Stage.{Stage}
use Rattle.pairtext.specs.declared.stage.Stage.TheVariants.{KindDue, ThresholdDue, SetupDue, InspectDue, UnitDue, GradesDue, RowDue, PlannedDue, ForcedDue, DarkDue, EndDue, Complete}
use Rattle.pairtext.specs.Readers.{fresh, no_unit}
use Rattle.pairtext.specs.Steps.{Step, pair_step}

-- what comes of a text: the numbers or the refusal, and how far it was read
pub record Reading : Type 0 where
  pub answer : Result PairNumbers ReadRefusal
  pub rest : List ℕ
  pub place : ℕ

abbrev pub refused_at : Rule → ℕ → Result PairNumbers ReadRefusal
refused_at rule line = Err (record { rule = rule; line = line })

abbrev pub complete : Stage → Bool
complete KindDue = false
complete ThresholdDue = false
complete SetupDue = false
complete InspectDue = false
complete UnitDue = false
complete GradesDue = false
complete RowDue = false
complete PlannedDue = false
complete ForcedDue = false
complete DarkDue = false
complete EndDue = false
complete Complete = true

-- the numbers that were read
abbrev pub numbers_read : PairReader → PairNumbers
numbers_read r = record { threshold = r.threshold; setup = r.setup; inspect = r.inspect; one = slice_index_or r.units 0 no_unit; two = slice_index_or r.units 1 no_unit }

-- both units may be renewed in state 0, and so in every state
abbrev pub renewable : PairNumbers → Bool
renewable n = pair_feasible n 0 both_units

-- the last line is judged by the whole
abbrev pub judged : PairNumbers → ℕ → Result PairNumbers ReadRefusal
judged n line = cond (renewable n) (Ok n) (refused_at NoFullRenewal line)

-- behind a line that was judged: the end, a refusal, or the next line
abbrev pub on_step : (PairReader → List ℕ → ℕ → Reading) → Step → List ℕ → ℕ → Reading
on_step further (Err rule) rest line = record { answer = refused_at rule line; rest = rest; place = line }
on_step further (Ok next) rest line = cond (complete next.stage) (record { answer = judged (numbers_read next) line; rest = rest; place = line }) (further next rest line)

-- one line, which is numbered from 1; a line that cannot be read stays in the text
abbrev pub on_line : (PairReader → List ℕ → ℕ → Reading) → PairReader → List ℕ → ℕ → Said → Reading
on_line further r text place (fault n) = record { answer = refused_at (fault_rule n) (place + 1); rest = text; place = place }
on_line further r text place (pair key value) = on_step further (pair_step r (key_of key) value) (rest_at text) (place + 1)

-- so many lines at most
abbrev pub read_from : ℕ → PairReader → List ℕ → ℕ → Reading
read_from zero r text place = record { answer = refused_at Unexpected (place + 1); rest = text; place = place }
read_from (suc n) r text place = on_line (read_from n) r text place (line_at text)

-- a text of which so many lines were read before; it has fewer lines than bytes
abbrev pub read_pair : List ℕ → ℕ → Reading
read_pair text place = read_from (suc (length text)) fresh text place

-- the numbers of a pair, or the refusal
abbrev pub answered : Result Pair ReadRefusal → Result PairNumbers ReadRefusal
answered (Ok p) = Ok p.numbers
answered (Err e) = Err e

-- whether a plant was read at all
abbrev pub done : Result PairNumbers ReadRefusal → Result (Unit {0}) ReadRefusal
done (Ok n) = Ok tt
done (Err e) = Err e

-- the plant that was read into: it has the numbers of the text, or is as it was
abbrev pub PlantAfter : Result PairNumbers ReadRefusal → Pair → Pair → Type 0
PlantAfter (Ok n) before after = after.numbers ≡ n
PlantAfter (Err e) before after = after ≡ before
