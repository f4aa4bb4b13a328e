-- What a text that should be a plan is refused for: the first line with a fault.
use Rattle.std.specs.Prelude.{ℕ, ◌+◌, cond, ◌&&◌, List, [], ◌∷◌, ◌++◌, map, length, Some, None, codes, Option, ◌==◌}
use Rattle.std.specs.List.{range_with_len}
use Rattle.std.specs.Str.{bytes_eq}
use Rattle.lines.specs.Fields.{fields}
use Rattle.lines.specs.Line.{Said, pair, fault, line_at, rest_at, bad_line}
use Rattle.plantext.specs.declared.refusal.Fault.{Fault}
use Rattle.plantext.specs.declared.refusal.Fault.TheVariants.{BadLine, NotDue, OutOfForm}
use Rattle.plantext.specs.declared.refusal.PlanRefusal.{PlanRefusal}
use Rattle.plantext.specs.declared.refusal.PlanRefusal.TheVariants.{AtLine, WrongLength}
use Rattle.plantext.specs.declared.stage.Stage.{Stage}
use Rattle.plantext.specs.declared.stage.Stage.TheVariants.{States, Low, High, Row, End}
use Rattle.plantext.specs.Values.{count_of, amount_of, entry_of, is}

-- the key of a line
abbrev pub key_of : Stage → List ℕ
key_of States = codes "states"
key_of Low = codes "low"
key_of High = codes "high"
key_of (Row s) = codes "row"
key_of End = codes "end"

-- a value that is not to be had is out of form
abbrev pub unread : {A : Type 0} → Option A → Option Fault
unread None = Some OutOfForm
unread (Some a) = None

-- what is wrong with the value of a line
abbrev pub value_fault : ℕ → Stage → List ℕ → Option Fault
value_fault places States v = unread (count_of v)
value_fault places Low v = unread (amount_of places (fields v))
value_fault places High v = unread (amount_of places (fields v))
value_fault places (Row s) v = unread (entry_of places s (fields v))
value_fault places End v = cond (bytes_eq v (codes "plan")) None (Some NotDue)

-- what is wrong with a line where this is due, or nothing more: first the line, then its key, then its value
abbrev pub pair_fault : ℕ → Option Stage → List ℕ → List ℕ → Option Fault
pair_fault places None k v = Some NotDue
pair_fault places (Some due) k v = cond (bytes_eq k (key_of due)) (value_fault places due v) (Some NotDue)

-- what is wrong with a line that is none
abbrev pub said_fault : ℕ → Fault
said_fault n = cond (n == bad_line) BadLine NotDue

abbrev pub line_fault : ℕ → Option Stage → Said → Option Fault
line_fault places due (pair k v) = pair_fault places due k v
line_fault places due (fault n) = Some (said_fault n)

-- the lines that are due behind the first, of a plan with n states
abbrev pub stages_behind : ℕ → List Stage
stages_behind n = Low ∷ (High ∷ (map Row (range_with_len 0 n) ++ (End ∷ [])))

-- the refusal at a line that has a fault, and else what is said of the lines behind it
abbrev pub at_line : ℕ → Option Fault → Option PlanRefusal → Option PlanRefusal
at_line j None behind = behind
at_line j (Some f) behind = Some (AtLine f j)

-- what is wrong with a text in which these lines are due, from line j on; nothing follows the last
abbrev pub first_fault : ℕ → List Stage → ℕ → List ℕ → Option PlanRefusal
first_fault places [] j text = cond (length text == 0) None (at_line j (line_fault places None (line_at text)) None)
first_fault places (due ∷ dues) j text = at_line j (line_fault places (Some due) (line_at text)) (first_fault places dues (j + 1) (rest_at text))

-- the number of states that a line says
abbrev pub states_said : Said → Option ℕ
states_said (pair k v) = count_of v
states_said (fault n) = None

-- why a text is refused as a plan for tables of these lengths, or nothing
abbrev pub refusal : ℕ → ℕ → ℕ → List ℕ → Option PlanRefusal
refusal places n m text =
    at_line 1 (line_fault places (Some States) (line_at text))
    (cond (is n (states_said (line_at text)) && is m (states_said (line_at text))) (first_fault places (stages_behind n) 2 (rest_at text)) (Some WrongLength))
