-- The text of a plan. A plan is a value table, a policy and the claims low and high.
use Rattle.std.specs.Prelude.{◌≡◌, ℕ, ◌^◌, ◌<◌, ◌≤◌, List, [], ◌∷◌, ◌++◌, map, length, codes, decimal, slice_index, slice_index_or}
use Rattle.std.specs.Int.Signed.{mag}
use Rattle.std.specs.List.{range_with_len, AllByRecursion}
use Rattle.std.specs.Fmt.{signed_decimal}
use Rattle.interface.specs.Limits.{most_states}
use Rattle.interface.specs.Rows.{Row as Amounts}
use Rattle.lines.specs.Fields.{joined}
use Rattle.lines.specs.Line.{equals_sign, line_end}
use Rattle.plantext.specs.declared.stage.Stage.{Stage}
use Rattle.plantext.specs.declared.stage.Stage.TheVariants.{States, Low, High, Row, End}

pub record Plan : Type 0 where
  pub values : List Amounts
  pub policy : List ℕ
  pub low : Amounts
  pub high : Amounts

-- the largest portfolio that a plan can name
abbrev pub most_portfolio : ℕ
most_portfolio = 65535

-- an amount of so many places, each a number of 64 bits
pub record Held (places : ℕ) (u : Amounts) : Type 0 where
  pub long : length u ≡ places
  pub each : AllByRecursion (λ z. mag z < 2 ^ 63) u

-- what a plan of amounts of so many places keeps
pub record Lawful (places : ℕ) (p : Plan) : Type 0 where
  pub level : length p.policy ≡ length p.values
  pub some : 1 ≤ length p.values
  pub few : length p.values ≤ most_states
  pub low : Held places p.low
  pub high : Held places p.high
  pub rows : (s : ℕ) → s < length p.values → Held places (slice_index_or p.values s []) × (slice_index p.policy s ≤ most_portfolio)

-- key=value and the line end
abbrev pub line : List ℕ → List ℕ → List ℕ
line key value = key ++ (equals_sign ∷ (value ++ (line_end ∷ [])))

-- an amount as text: its places, with a comma between each two
abbrev pub amount : Amounts → List ℕ
amount u = joined (map signed_decimal u)

abbrev pub states_line : ℕ → List ℕ
states_line n = line (codes "states") (decimal n)

abbrev pub low_line : Amounts → List ℕ
low_line u = line (codes "low") (amount u)

abbrev pub high_line : Amounts → List ℕ
high_line u = line (codes "high") (amount u)

-- the state, its portfolio and the places of its value
abbrev pub row_text : ℕ → ℕ → Amounts → List ℕ
row_text s x u = joined (decimal s ∷ (decimal x ∷ map signed_decimal u))

abbrev pub row_line : ℕ → ℕ → Amounts → List ℕ
row_line s x u = line (codes "row") (row_text s x u)

abbrev pub end_line : List ℕ
end_line = line (codes "end") (codes "plan")

-- the lines of a plan with n states by what stands in them, in order
abbrev pub stages : ℕ → List Stage
stages n = States ∷ (Low ∷ (High ∷ (map Row (range_with_len 0 n) ++ (End ∷ []))))

-- what stands behind the equals sign in a line of a plan
abbrev pub value_text : Plan → Stage → List ℕ
value_text p States = decimal (length p.values)
value_text p Low = amount p.low
value_text p High = amount p.high
value_text p (Row s) = row_text s (slice_index p.policy s) (slice_index_or p.values s [])
value_text p End = codes "plan"

-- what stands in a line of a plan
abbrev pub stage_line : Plan → Stage → List ℕ
stage_line p States = states_line (length p.values)
stage_line p Low = low_line p.low
stage_line p High = high_line p.high
stage_line p (Row s) = row_line s (slice_index p.policy s) (slice_index_or p.values s [])
stage_line p End = end_line

-- the lines of a plan, in order
abbrev pub plan_lines : Plan → List (List ℕ)
plan_lines p = map (stage_line p) (stages (length p.values))

abbrev pub concat : List (List ℕ) → List ℕ
concat [] = []
concat (l ∷ ls) = l ++ concat ls

-- the text of a plan: its lines, one behind the other
abbrev pub plan_text : Plan → List ℕ
plan_text p = concat (plan_lines p)

-- a row is of one of n states
abbrev pub Inside : ℕ → Stage → Type 0
Inside n States = Unit {0}
Inside n Low = Unit {0}
Inside n High = Unit {0}
Inside n (Row s) = s < n
Inside n End = Unit {0}
