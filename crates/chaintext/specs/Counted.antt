-- What a text comes to, line by line, with what is left of it and how many lines were read, also where it is refused.
use Rattle.std.specs.Prelude.{◌≡◌, ℕ, ◌+◌, ◌<◌, ◌≤◌, ◌⊎◌, List, Ok, Err, Result, ◌≢◌}
use Rattle.interface.specs.Limits.{most_states}
use Rattle.chain.specs.Chains.{Unrenewable}
use Rattle.chain.specs.Made.{Made}
use Rattle.chain.specs.Parts.{LawfulNumbers}
use Rattle.chain.specs.States.{all_states}
use Rattle.chain.specs.declared.numbers.ChainNumbers.{ChainNumbers}
use Rattle.chain.specs.declared.plant.Chain.{Chain}
use Rattle.lines.specs.Line.{line_at, rest_at, taken}
use Rattle.reading.specs.declared.rules.ReadRefusal.{ReadRefusal}
use Rattle.reading.specs.declared.rules.Rule.{Rule}
use Rattle.reading.specs.declared.rules.Rule.TheVariants.{TooManyStates, NoFullRenewal}
use Rattle.chaintext.specs.declared.read.Complete.{Complete}
use Rattle.chaintext.specs.declared.reader.ChainReader.{ChainReader}
use Rattle.chaintext.specs.declared.reader.Stage.TheVariants as stage
use Rattle.chaintext.specs.Reads.{fresh, line_step, numbers_of}

-- how reading ends: with all that is read, or refused by a rule at a line; and what is left of the text then, and how many lines were read
pub data CountedEnding : Type 0 where
  complete_at : ChainReader → List ℕ → ℕ → CountedEnding
  refused_at : Rule → ℕ → List ℕ → ℕ → CountedEnding

-- reading goes from line to line until the end is read or a line is refused; a line that cannot be read stays in the text and is not counted
pub data CountedReads : ChainReader → List ℕ → ℕ → CountedEnding → Type 0 where
  done_at : {d : ChainReader} {text : List ℕ} {place : ℕ} → d.stage ≡ stage.Done → CountedReads d text place (complete_at d text place)
  stop_at : {d : ChainReader} {text : List ℕ} {place : ℕ} {rule : Rule} → (d.stage ≢ stage.Done) → line_step d (line_at text) ≡ Err rule → CountedReads d text place (refused_at rule (place + 1) (rest_at text) (place + taken (line_at text)))
  more_at : {d e : ChainReader} {text : List ℕ} {place : ℕ} {o : CountedEnding} → (d.stage ≢ stage.Done) → line_step d (line_at text) ≡ Ok e → CountedReads e (rest_at text) (place + 1) o → CountedReads d text place o

-- What comes of the lines alone: all up to the end are read, or one is refused.
abbrev pub ReadsLines : List ℕ → ℕ → List ℕ → ℕ → Result Complete ReadRefusal → Type 0
ReadsLines text place rest count (Ok c) = CountedReads fresh text place (complete_at c.reader rest count) × (c.line ≡ count)
ReadsLines text place rest count (Err e) = CountedReads fresh text place (refused_at e.rule e.line rest count)

-- All lines up to the end are read, and a chain is made of them.
pub record CountedAccepted (text : List ℕ) (place : ℕ) (rest : List ℕ) (count : ℕ) (c : Chain) : Type 0 where
  pub reader : ChainReader
  pub reads : CountedReads fresh text place (complete_at reader rest count)
  pub numbers : c.numbers ≡ numbers_of reader

-- Why no chain is made of numbers that are in range.
abbrev pub UnmadeBy : ChainNumbers → Rule → Type 0
UnmadeBy n rule = ((rule ≡ TooManyStates) × (most_states < all_states n)) ⊎ ((rule ≡ NoFullRenewal) × (all_states n ≤ most_states) × Unrenewable n)

-- What is made of the numbers behind the last line: a chain, or a refusal at that line.
abbrev pub MadeOf : ChainNumbers → ℕ → Result Chain ReadRefusal → Type 0
MadeOf n line (Ok c) = (c.numbers ≡ n) × Made n c.least
MadeOf n line (Err e) = (e.line ≡ line) × UnmadeBy n e.rule

-- All lines up to the end are read, and no chain is made of them: refused at the last line. All numbers are in range.
pub record CountedUnmade (text : List ℕ) (place : ℕ) (rest : List ℕ) (count : ℕ) (e : ReadRefusal) : Type 0 where
  pub reader : ChainReader
  pub reads : CountedReads fresh text place (complete_at reader rest count)
  pub lawful : LawfulNumbers (numbers_of reader)
  pub line : e.line ≡ count
  pub why : UnmadeBy (numbers_of reader) e.rule

-- A line is refused, or all lines together.
abbrev pub CountedRefusal : List ℕ → ℕ → List ℕ → ℕ → ReadRefusal → Type 0
CountedRefusal text place rest count e = CountedReads fresh text place (refused_at e.rule e.line rest count) ⊎ CountedUnmade text place rest count e

-- What comes of a text of which so many lines were read before: what is left of it, how many lines are read then, and the answer.
abbrev pub CountedChain : List ℕ → ℕ → List ℕ → ℕ → Result Chain ReadRefusal → Type 0
CountedChain text place rest count (Ok c) = CountedAccepted text place rest count c
CountedChain text place rest count (Err e) = CountedRefusal text place rest count e

-- A chain read into the place of another: a refusal leaves that as it was.
abbrev pub CountedReplaced : {U : Type 0} → Chain → Chain → List ℕ → ℕ → List ℕ → ℕ → Result U ReadRefusal → Type 0
CountedReplaced old new text place rest count (Ok u) = CountedAccepted text place rest count new
CountedReplaced old new text place rest count (Err e) = (new ≡ old) × CountedRefusal text place rest count e
