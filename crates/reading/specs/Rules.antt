-- Why a text is refused, and where.
use Rattle.std.specs.Prelude.{ℕ, cond, ◌==◌}
use Rattle.lines.specs.Line.{bad_line}
use Rattle.reading.specs.declared.rules.ReadRefusal.{ReadRefusal}
use Rattle.reading.specs.declared.rules.Rule.{Rule}
use Rattle.reading.specs.declared.rules.Rule.TheVariants.{BadLine, Unexpected, OutOfRange, TooManyStates, WrongArc, NoFullRenewal}

-- The number of a rule among all refusals of the house.
abbrev pub number_of : Rule → ℕ
number_of BadLine = 1
number_of Unexpected = 2
number_of OutOfRange = 3
number_of TooManyStates = 4
number_of WrongArc = 5
number_of NoFullRenewal = 6

-- The place of a refusal is its line, counted from 1.
abbrev pub place_of : ReadRefusal → ℕ
place_of r = r.line

-- The rule that is broken where no line could be read: a line's fault, or else that the text ends early.
abbrev pub fault_rule : ℕ → Rule
fault_rule fault = cond (fault == bad_line) BadLine Unexpected
