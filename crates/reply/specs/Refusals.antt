-- Why a request has no plan, with its number and its place.
use Rattle.std.specs.Prelude.{ℕ, List, ◌++◌, codes, decimal}
use Rattle.reading.specs.Rules.{number_of as rule_number}
use Rattle.reply.specs.declared.answer.Refusal.{Refusal}
use Rattle.reply.specs.declared.answer.Refusal.TheVariants.{Broken, BeyondReach}
use Rattle.reply.specs.declared.answer.Unanswered.{Unanswered}
use Rattle.reply.specs.declared.answer.Unanswered.TheVariants.{Refused, NoMemory}

abbrev pub number_of : Refusal → ℕ
number_of (Broken e) = rule_number e.rule
number_of (BeyondReach line) = 8

-- always a line, counted from 1
abbrev pub place_of : Refusal → ℕ
place_of (Broken e) = e.line
place_of (BeyondReach line) = line

-- the line in which a refusal is told
abbrev pub refusal_text : Refusal → List ℕ
refusal_text e = codes "refused=" ++ (decimal (number_of e) ++ (codes "," ++ decimal (place_of e)))

-- a refusal as its line, and want of memory in words
abbrev pub unanswered_text : Unanswered → List ℕ
unanswered_text (Refused e) = refusal_text e
unanswered_text NoMemory = codes "no memory for the tables and the text of the plan"
