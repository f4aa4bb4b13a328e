-- The talk at a desk, turn by turn, and what it comes to.
use Rattle.std.specs.Prelude.{◌≡◌, ℕ, ◌+◌, List, [], ◌∷◌, ◌++◌, length, Option, Some, None, Ok, Err, Result}
use Rattle.reading.specs.Rules.{number_of}
use Rattle.reading.specs.declared.rules.Rule.{Rule}
use Rattle.service.specs.Services as service
use Rattle.desk.specs.declared.asking.Ask.{Ask}
use Rattle.desk.specs.declared.asking.Ask.TheVariants.{State, Order, CarryOut, Outcome}
use Rattle.desk.specs.declared.talk.Turn.{Turn}
use Rattle.desk.specs.declared.talk.Turn.TheVariants.{Heard, Told, Shown}
use Rattle.desk.specs.Asking.{asked}
use Rattle.desk.specs.Histories.{History, newest}
use Rattle.desk.specs.Saying.{refusal_line, told_line, told_of, lines_of, finding_lines}
use Rattle.interface.specs.Rows.{Row}

-- The turns of a talk, the oldest first.
abbrev pub Talk : Type 0
Talk = History Turn

-- What is asked, in the words of the service.
abbrev pub ask_of : Ask → service.Ask
ask_of (State n) = service.to_make n
ask_of Order = service.to_issue
ask_of CarryOut = service.to_carry_out
ask_of (Outcome n) = service.to_report n

-- A line asks what is due, or breaks a rule and is refused with its number.
abbrev pub asks_by : Result Ask Rule → List service.Turn
asks_by (Ok a) = service.asks (ask_of a) ∷ []
asks_by (Err rule) = []

abbrev pub refuses_by : ℕ → Result Ask Rule → List (List ℕ)
refuses_by n (Ok a) = []
refuses_by n (Err rule) = refusal_line (number_of rule) n ∷ []

-- What a turn is in the words of the service.
abbrev pub turns_in : Turn → List service.Turn
turns_in (Heard d line) = asks_by (asked d line.items)
turns_in (Told t) = service.tells (told_of t) ∷ []
turns_in (Shown lines) = service.shows ∷ []

-- The line that is heard in a turn, and the line that is said: the nth line that is heard is refused as line n.
abbrev pub hears_in : Turn → List (List ℕ)
hears_in (Heard d line) = line.items ∷ []
hears_in (Told t) = []
hears_in (Shown lines) = []

abbrev pub says_in : ℕ → Turn → List (List ℕ)
says_in n (Heard d line) = refuses_by n (asked d line.items)
says_in n (Told t) = told_line (told_of t) ∷ []
says_in n (Shown lines) = lines_of lines

-- The lines of the finding that is shown in a turn, the newest first.
abbrev pub shows_in : Turn → List (List ℕ)
shows_in (Heard d line) = []
shows_in (Told t) = []
shows_in (Shown lines) = lines_of lines

-- How many lines were heard after a turn.
abbrev pub heard_after : ℕ → Turn → ℕ
heard_after n t = n + length (hears_in t)

-- All lines that are said in a talk, the newest first, where so many lines were heard before it.
abbrev pub said_from : ℕ → Talk → List (List ℕ)
said_from n [] = []
said_from n (t ∷ ts) = said_from (heard_after n t.0) ts ++ says_in (heard_after n t.0) t.0

-- What was asked before and after a line is heard, if one is.
abbrev pub Hears : Option (Result Ask Rule) → List service.Turn → List service.Turn → Type 0
Hears None old new = new ≡ old
Hears (Some asked) old new = new ≡ asks_by asked ++ old

-- What was heard and said at a terminal is the talk: after the lines that were heard and said before it, each line of the talk
-- was heard, and all that the talk says was said, in turn. The lines that were heard before count in the numbers of refusals.
pub record IsTalk (heard said : List (List ℕ)) (talk : Talk) : Type 0 where
  pub heard_before : List (List ℕ)
  pub said_before : List (List ℕ)
  pub heard_all : heard ≡ newest hears_in talk ++ heard_before
  pub said_all : said ≡ said_from (length heard_before) talk ++ said_before

-- What was asked before and after a desk waits for what is due, if it comes.
abbrev pub Asks : Option Ask → List service.Turn → List service.Turn → Type 0
Asks None old new = new ≡ old
Asks (Some a) old new = new ≡ service.asks (ask_of a) ∷ old

-- The last finding that was shown has these rows: its lines are the last that were shown.
abbrev pub WasShown : List (List ℕ) → List Row → Type 0
WasShown shown rows = (before : List (List ℕ)) × (shown ≡ finding_lines rows ++ before)
