-- What a line of a plan leaves in the space that it is asked into.
use Rattle.std.specs.Prelude.{◌≡◌, ℕ, zero, suc, ◌<◌, ◌≤◌, Bool, true, false, cond, ◌&&◌, List, [], ◌∷◌, length, Some, None, Ok, Err, Option, Result, ◌==◌, nat_le, slice_index, slice_index_or}
use Rattle.std.specs.List.{slice_get}
use Rattle.interface.specs.Limits.{most_states}
use Rattle.lines.specs.Fields.{comma}
use Rattle.lines.specs.Placed.{fits, placed}
use Rattle.plantext.specs.declared.refusal.LineRefusal.{LineRefusal}
use Rattle.plantext.specs.declared.refusal.LineRefusal.TheVariants.{WrongLength, NoSpace}
use Rattle.plantext.specs.declared.stage.Stage.{Stage}
use Rattle.plantext.specs.declared.stage.Stage.TheVariants.{States, Low, High, Row, End}
use Rattle.plantext.specs.Lines.{Plan, Held, most_portfolio, stages, plan_lines}

-- room for a place with its comma, for an amount of 4 places, for the value of a line, and for a line with its line end
abbrev pub place_room : ℕ
place_room = 21

abbrev pub amount_room : ℕ
amount_room = 84

abbrev pub value_room : ℕ
value_room = 126

abbrev pub line_room : ℕ
line_room = 200

-- both tables have the same number of entries, 1 to 4,096
abbrev pub level : ℕ → ℕ → Bool
level n m = m == n && (nat_le 1 n && nat_le n most_states)

-- a field of a list with the comma before it, which the first has not
abbrev pub separated : ℕ → List ℕ → List ℕ
separated zero text = text
separated (suc i) text = comma ∷ text

-- what the call answers for this line of a plan
abbrev pub line_answer : Bool → Option (List ℕ) → List ℕ → Result (Option ℕ) LineRefusal
line_answer false l space = Err WrongLength
line_answer true None space = Ok None
line_answer true (Some l) space = cond (fits l 0 space) (Ok (Some (length l))) (Err NoSpace)

-- the space after the call: it holds the line at its front where there is one and it has room, and is else as it was
abbrev pub line_space : Bool → Option (List ℕ) → List ℕ → List ℕ
line_space false l space = space
line_space true None space = space
line_space true (Some l) space = placed l 0 space

-- line j of a plan is answered by its length, and stands at the front of the space; all behind it is as it was
pub record AnswersLine (p : Plan) (j : ℕ) (space space' : List ℕ) (r : Result (Option ℕ) LineRefusal) : Type 0 where
  pub answer : r ≡ line_answer (level (length p.values) (length p.policy)) (slice_get (plan_lines p) j) space
  pub after : space' ≡ line_space (level (length p.values) (length p.policy)) (slice_get (plan_lines p) j) space

-- a space is too small only where it has not the room for every line
abbrev pub Tight : List ℕ → Result (Option ℕ) LineRefusal → Type 0
Tight space (Ok o) = Unit {0}
Tight space (Err WrongLength) = Unit {0}
Tight space (Err NoSpace) = length space < line_room

-- the amounts of a line of a plan have so many places of 64 bits each, and its portfolio has 16 bits
abbrev pub HeldLine : ℕ → Plan → Stage → Type 0
HeldLine places p States = Unit {0}
HeldLine places p Low = Held places p.low
HeldLine places p High = Held places p.high
HeldLine places p (Row s) = Held places (slice_index_or p.values s []) × (slice_index p.policy s ≤ most_portfolio)
HeldLine places p End = Unit {0}

-- so have those of a line that is written
abbrev pub WritesHeld : ℕ → Plan → ℕ → Result (Option ℕ) LineRefusal → Type 0
WritesHeld places p j (Ok None) = Unit {0}
WritesHeld places p j (Ok (Some n)) = (stage : Stage) → slice_get (stages (length p.values)) j ≡ Some stage → HeldLine places p stage
WritesHeld places p j (Err e) = Unit {0}
