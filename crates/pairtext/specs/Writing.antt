-- The text of a pair, as it is written.
use Rattle.std.specs.Prelude.{◌≡◌, ℕ, ◌-◌, List, [], ◌∷◌, ◌++◌, take, Ok, codes, Result}
use Rattle.lines.specs.Exactly.{Iff}
use Rattle.reading.specs.Written.{line_of, number_line, list_line}
use Rattle.reading.specs.declared.keys.Key.TheVariants.{Kind, Threshold, Setup, Inspect, Unit as UnitKey, Grades, Row, Planned, Forced, Dark, End}
use Rattle.reading.specs.declared.rules.ReadRefusal.{ReadRefusal}
use Rattle.pair.specs.Pairs.{LawfulNumbers, Renewable}
use Rattle.pair.specs.declared.numbers.PairNumbers.{PairNumbers}
use Rattle.pair.specs.declared.numbers.UnitNumbers.{UnitNumbers}
use Rattle.pairtext.specs.declared.stage.UnitName.{UnitName}
use Rattle.pairtext.specs.declared.stage.UnitName.TheVariants.{One, Two}
use Rattle.pairtext.specs.Readers.{unit_number}
use Rattle.pairtext.specs.Sound.{laid}

-- a line for each row, with the hundredths of so many grades
abbrev pub row_lines : ℕ → List (List ℕ) → List ℕ
row_lines grades [] = []
row_lines grades (row ∷ rows) = list_line Row (take grades row) ++ row_lines grades rows

-- the failed grade has no row
abbrev pub unit_text : UnitName → UnitNumbers → List ℕ
unit_text name u = number_line UnitKey (unit_number name) ++ (number_line Grades u.grades ++ (row_lines u.grades (take (u.grades - 1) u.rows) ++ (number_line Planned u.planned ++ (number_line Forced u.forced ++ number_line Dark u.dark))))

abbrev pub pair_text : PairNumbers → List ℕ
pair_text n = line_of Kind (codes "pair") ++ (number_line Threshold n.threshold ++ (number_line Setup n.setup ++ (number_line Inspect n.inspect ++ (unit_text One n.one ++ (unit_text Two n.two ++ line_of End (codes "plant"))))))

-- what a unit holds beyond its grades, where no text says anything, is 0
abbrev pub ZeroBeyond : UnitNumbers → Type 0
ZeroBeyond u = u.rows ≡ laid (u.grades - 1) u.grades u.rows

-- the text begins with that of a pair with these numbers, and this follows
pub record BeginsPair (text : List ℕ) (n : PairNumbers) (after : List ℕ) : Type 0 where
  pub whole : text ≡ pair_text n ++ after
  pub lawful : LawfulNumbers n
  pub renewable : Renewable n
  pub one : ZeroBeyond n.one
  pub two : ZeroBeyond n.two

-- a pair is read exactly from its text, and what follows is left
abbrev pub ReadsPair : List ℕ → Result PairNumbers ReadRefusal → List ℕ → Type 0
ReadsPair text answer rest = (n : PairNumbers) (after : List ℕ) → Iff ((answer ≡ Ok n) × (rest ≡ after)) (BeginsPair text n after)
