-- What a line asks, by what is due.
use Rattle.std.specs.Prelude.{◌≡◌, ℕ, ◌-◌, ◌^◌, ◌≤◌, ⊤, List, Some, None, Ok, Err, codes, decimal, Option, Result, if◌then◌else◌}
use Rattle.std.specs.Str.{bytes_eq}
use Rattle.lines.specs.Exactly.{Iff}
use Rattle.lines.specs.Line.{Said, pair, fault, line_at, Begins}
use Rattle.reading.specs.Rules.{fault_rule}
use Rattle.reading.specs.Values.{number_between}
use Rattle.reading.specs.declared.rules.Rule.{Rule}
use Rattle.reading.specs.declared.rules.Rule.TheVariants.{Unexpected, OutOfRange}
use Rattle.desk.specs.declared.asking.Due.{Due}
use Rattle.desk.specs.declared.asking.Due.TheVariants as due
use Rattle.desk.specs.declared.asking.Ask.{Ask}
use Rattle.desk.specs.declared.asking.Ask.TheVariants as ask

-- The greatest number that can be asked.
abbrev pub most_number : ℕ
most_number = 2 ^ 32 - 1

-- The number that a value is.
abbrev pub in_range : Option ℕ → Result ℕ Rule
in_range None = Err OutOfRange
in_range (Some n) = Ok n

abbrev pub number_of : List ℕ → Result ℕ Rule
number_of value = in_range (number_between value 0 most_number)

-- What a number asks.
abbrev pub asks : (ℕ → Ask) → Result ℕ Rule → Result Ask Rule
asks make (Ok n) = Ok (make n)
asks make (Err e) = Err e

-- What a word asks.
abbrev pub called : List ℕ → List ℕ → Ask → Result Ask Rule
called value word a = if bytes_eq value word then Ok a else Err Unexpected

-- The key of the line that is due.
abbrev pub key_of : Due → List ℕ
key_of due.State = codes "state"
key_of due.Order = codes "call"
key_of due.CarryOut = codes "call"
key_of due.Outcome = codes "report"

-- What the value of that line asks.
abbrev pub ask_of : Due → List ℕ → Result Ask Rule
ask_of due.State value = asks ask.State (number_of value)
ask_of due.Order value = called value (codes "issue") ask.Order
ask_of due.CarryOut value = called value (codes "carry-out") ask.CarryOut
ask_of due.Outcome value = asks ask.Outcome (number_of value)

-- What a line asks: its key has to be the one that is due.
abbrev pub asked_by : Due → Said → Result Ask Rule
asked_by d (pair key value) = if bytes_eq key (key_of d) then ask_of d value else Err Unexpected
asked_by d (fault n) = Err (fault_rule n)

abbrev pub asked : Due → List ℕ → Result Ask Rule
asked d text = asked_by d (line_at text)

-- Nothing else is asked than what is due.
abbrev pub Suits : Due → Ask → Type 0
Suits due.State (ask.State n) = n ≤ most_number
Suits due.Order ask.Order = ⊤
Suits due.CarryOut ask.CarryOut = ⊤
Suits due.Outcome (ask.Outcome n) = n ≤ most_number
Suits d a = ⊥

-- How the value of a line is written that asks this.
abbrev pub value_text : Ask → List ℕ
value_text (ask.State n) = decimal n
value_text ask.Order = codes "issue"
value_text ask.CarryOut = codes "carry-out"
value_text (ask.Outcome n) = decimal n

-- A text begins with the line that asks this.
abbrev pub BeginsAsking : Due → Ask → List ℕ → Type 0
BeginsAsking d a text = (after : List ℕ) × Begins text (key_of d) (value_text a) after

-- Something is asked exactly by a text that begins with its line, where it is due.
abbrev pub AsksExactly : Due → List ℕ → Result Ask Rule → Type 0
AsksExactly d text r = (a : Ask) → Iff (r ≡ Ok a) (BeginsAsking d a text × Suits d a)
