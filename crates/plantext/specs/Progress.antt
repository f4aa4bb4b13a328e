-- How far a plan has been read, and how one line more is taken.
use Rattle.std.specs.Prelude.{◌≡◌, ℕ, ◌+◌, cond, List, ◌++◌, map, length, Some, None, Ok, Err, Option, Result, nat_lt, slice_set}
use Rattle.interface.specs.Rows.{Row as Amounts}
use Rattle.lines.specs.Fields.{fields}
use Rattle.lines.specs.Line.{line_at, rest_at, pair}
use Rattle.plantext.specs.declared.reading.Reader.{Reader}
use Rattle.plantext.specs.declared.refusal.Fault.{Fault}
use Rattle.plantext.specs.declared.refusal.PlanRefusal.{PlanRefusal}
use Rattle.plantext.specs.declared.refusal.PlanRefusal.TheVariants.{AtLine}
use Rattle.plantext.specs.declared.stage.Stage.{Stage}
use Rattle.plantext.specs.declared.stage.Stage.TheVariants.{States, Low, High, Row, End}
use Rattle.plantext.specs.Lines.{Plan, Lawful, Inside, states_line, plan_text}
use Rattle.plantext.specs.Reading.{pair_fault, line_fault, stages_behind, first_fault}
use Rattle.plantext.specs.Values.{count_of, amount_of, entry_of}

-- the line that is due, or none behind the end; the number of states, and the tables and claims as they are so far
pub record Progress : Type 0 where
  pub due : Option Stage
  pub states : ℕ
  pub plan : Plan

abbrev pub progress : {A : Type 0} → (A → Amounts) → Reader A → List A → List ℕ → Progress
progress row r vs xs = record { due = r.due; states = r.states; plan = record { values = map row vs; policy = xs; low = row r.claims.low; high = row r.claims.high } }

-- the line behind the row of state s, of a plan with n states
abbrev pub after_row : ℕ → ℕ → Stage
after_row n s = cond (nat_lt (s + 1) n) (Row (s + 1)) End

pub record TakesStates (v : List ℕ) (a b : Progress) : Type 0 where
  pub said : count_of v ≡ Some b.states
  pub next : b.due ≡ Some Low
  pub plan : b.plan ≡ a.plan

pub record TakesLow (places : ℕ) (v : List ℕ) (a b : Progress) : Type 0 where
  pub said : amount_of places (fields v) ≡ Some b.plan.low
  pub next : b.due ≡ Some High
  pub states : b.states ≡ a.states
  pub values : b.plan.values ≡ a.plan.values
  pub policy : b.plan.policy ≡ a.plan.policy

pub record TakesHigh (places : ℕ) (v : List ℕ) (a b : Progress) : Type 0 where
  pub said : amount_of places (fields v) ≡ Some b.plan.high
  pub next : b.due ≡ Some (Row 0)
  pub states : b.states ≡ a.states
  pub values : b.plan.values ≡ a.plan.values
  pub policy : b.plan.policy ≡ a.plan.policy
  pub low : b.plan.low ≡ a.plan.low

pub record TakesRow (places s : ℕ) (v : List ℕ) (a b : Progress) : Type 0 where
  pub portfolio : ℕ
  pub value : Amounts
  pub said : entry_of places s (fields v) ≡ Some (record { portfolio = portfolio; value = value })
  pub next : b.due ≡ Some (after_row (length a.plan.values) s)
  pub states : b.states ≡ a.states
  pub values : b.plan.values ≡ slice_set a.plan.values s value
  pub policy : b.plan.policy ≡ slice_set a.plan.policy s portfolio
  pub low : b.plan.low ≡ a.plan.low
  pub high : b.plan.high ≡ a.plan.high

pub record TakesEnd (a b : Progress) : Type 0 where
  pub next : b.due ≡ None
  pub states : b.states ≡ a.states
  pub plan : b.plan ≡ a.plan

-- the value of a line is put where it belongs, and the next line is due
abbrev pub Takes : ℕ → Stage → List ℕ → Progress → Progress → Type 0
Takes places States v a b = TakesStates v a b
Takes places Low v a b = TakesLow places v a b
Takes places High v a b = TakesHigh places v a b
Takes places (Row s) v a b = TakesRow places s v a b
Takes places End v a b = TakesEnd a b

abbrev pub TakesDue : ℕ → Option Stage → List ℕ → Progress → Progress → Type 0
TakesDue places None v a b = ⊥
TakesDue places (Some due) v a b = Takes places due v a b

-- a row that is due is of one of n states
abbrev pub InsideDue : ℕ → Option Stage → Type 0
InsideDue n None = Unit {0}
InsideDue n (Some due) = Inside n due

-- the line at the front of the text is taken, and rest is left
pub record TakesLine (places : ℕ) (a b : Progress) (text rest : List ℕ) : Type 0 where
  pub key : List ℕ
  pub value : List ℕ
  pub said : line_at text ≡ pair key value
  pub good : pair_fault places a.due key value ≡ None
  pub takes : TakesDue places a.due value a b
  pub left : rest ≡ rest_at text

-- a line is taken, or refused at its place
abbrev pub ReadsLine : ℕ → Progress → Progress → List ℕ → List ℕ → ℕ → ℕ → Result (Unit {0}) PlanRefusal → Type 0
ReadsLine places a b text rest line line' (Ok u) = TakesLine places a b text rest × (line' ≡ line + 1)
ReadsLine places a b text rest line line' (Err e) = (f : Fault) × ((line_fault places a.due (line_at text) ≡ Some f) × (e ≡ AtLine f (line + 1)))

-- refused exactly for this fault, and else done
abbrev pub Judged : {A : Type 0} → Result A Fault → Option Fault → Type 0 → Type 0
Judged (Ok u) f Done = (f ≡ None) × Done
Judged (Err e) f Done = f ≡ Some e

-- the lines behind the first are read, and those of the plan; or the first fault among them refuses the text
abbrev pub ReadsBehind : ℕ → ℕ → Plan → List ℕ → ℕ → Result (Unit {0}) PlanRefusal → Type 0
ReadsBehind places n p text line (Ok u) = (first_fault places (stages_behind n) (line + 1) text ≡ None) × (Lawful places p × (states_line n ++ text ≡ plan_text p))
ReadsBehind places n p text line (Err e) = first_fault places (stages_behind n) (line + 1) text ≡ Some e
