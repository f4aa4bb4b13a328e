-- A pair: two units that are renewed together or apart, after each inspection.
use Rattle.std.specs.Prelude.{◌≡◌, ℕ, ◌+◌, ◌*◌, ◌<◌, ◌≤◌, Bool, true, false, cond, ◌&&◌, List, map, Some, None, Option, ◌==◌, nat_le, nat_lt}
use Rattle.std.specs.List.{range_with_len}
use Rattle.interface.specs.Plants.{Model}
use Rattle.interface.specs.declared.plant.Bill.{Bill}
use Rattle.interface.specs.declared.plant.Outcome.{Outcome}
use Rattle.pair.specs.declared.numbers.PairNumbers.{PairNumbers}
use Rattle.pair.specs.declared.states.Grades.{Grades}
use Rattle.pair.specs.Limits.{most_threshold, most_charge}
use Rattle.pair.specs.Portfolios.{nothing, both_units, all_portfolios, renews_one, renews_two}
use Rattle.pair.specs.States.{all_states, grades_in}
use Rattle.pair.specs.Units.{LawfulUnit, HasGrade, Working, hundredths, staying, row_grade, attended, renewal_cents, dark_seconds}

-- The grades by whose rows the units move.
abbrev pub moved_by : PairNumbers → ℕ → ℕ → Grades
moved_by n s x = record {
  one = row_grade (renews_one x) (grades_in n s).one;
  two = row_grade (renews_two x) (grades_in n s).two;
}

-- The ten-thousandths with which both units stay below their failed grades, where they move by the rows of these grades.
abbrev pub survival_by : PairNumbers → Grades → ℕ
survival_by n g = staying n.one g.one * staying n.two g.two

abbrev pub survival : PairNumbers → ℕ → ℕ → ℕ
survival n s x = survival_by n (moved_by n s x)

-- Every failed unit is renewed.
abbrev pub all_attended : PairNumbers → ℕ → ℕ → Bool
all_attended n s x = attended n.one (renews_one x) (grades_in n s).one && attended n.two (renews_two x) (grades_in n s).two

abbrev pub pair_feasible : PairNumbers → ℕ → ℕ → Bool
pair_feasible n s x = (nat_lt s (all_states n) && nat_lt x all_portfolios) && (all_attended n s x && nat_le n.threshold (survival n s x))

-- The grades by whose rows the units move, absent exactly where the state does not allow the portfolio.
abbrev pub rows_of : PairNumbers → ℕ → ℕ → Option Grades
rows_of n s x = cond (pair_feasible n s x) (Some (moved_by n s x)) None

-- Each unit has its grade.
abbrev pub HasGrades : PairNumbers → Grades → Type 0
HasGrades n g = HasGrade n.one g.one × HasGrade n.two g.two

abbrev pub BothWorking : PairNumbers → Grades → Type 0
BothWorking n g = Working n.one g.one × Working n.two g.two

-- The inspection is always paid, the setup once if anything is renewed.
abbrev pub cents_at : PairNumbers → Grades → ℕ → ℕ
cents_at n g x = n.inspect + cond (x == nothing) 0 n.setup + renewal_cents n.one (renews_one x) g.one + renewal_cents n.two (renews_two x) g.two

abbrev pub seconds_at : PairNumbers → Grades → ℕ
seconds_at n g = dark_seconds n.one g.one + dark_seconds n.two g.two

abbrev pub pair_bill : PairNumbers → ℕ → ℕ → Bill
pair_bill n s x = record { seconds = seconds_at n (grades_in n s); cents = cents_at n (grades_in n s) x }

-- Outcome k leads to state k. The units move independently, so its weight is a product.
abbrev pub outcome_by : PairNumbers → Grades → ℕ → Outcome
outcome_by n g k = record {
  next = k;
  weight = hundredths n.one g.one (grades_in n k).one * hundredths n.two g.two (grades_in n k).two;
}

abbrev pub pair_outcomes : PairNumbers → ℕ → ℕ → List Outcome
pair_outcomes n s x = map (outcome_by n (moved_by n s x)) (range_with_len 0 (all_states n))

abbrev pub pair_model : PairNumbers → Model
pair_model n = record {
  states = all_states n;
  portfolios = all_portfolios;
  feasible = pair_feasible n;
  bill = pair_bill n;
  outcomes = pair_outcomes n;
}

-- The numbers that the units share are in range.
abbrev pub LawfulTerms : PairNumbers → Type 0
LawfulTerms n = (n.threshold ≤ most_threshold) × (n.setup ≤ most_charge) × (n.inspect ≤ most_charge)

-- All numbers are in range.
abbrev pub LawfulNumbers : PairNumbers → Type 0
LawfulNumbers n = LawfulTerms n × LawfulUnit n.one × LawfulUnit n.two

-- Both units may be renewed in every state.
abbrev pub Renewable : PairNumbers → Type 0
Renewable n = (s : ℕ) → s < all_states n → pair_feasible n s both_units ≡ true

-- In no state may both be renewed.
abbrev pub Unrenewable : PairNumbers → Type 0
Unrenewable n = (s : ℕ) → pair_feasible n s both_units ≡ false

-- Where the units stay below their failed grades with 90 and 80 hundredths, the threshold 7200 is met and 7201 is not.
abbrev pub ThresholdFigure : Type 0
ThresholdFigure = (n : PairNumbers) (s x : ℕ) → s < all_states n → x < all_portfolios → all_attended n s x ≡ true → staying n.one (moved_by n s x).one ≡ 90 → staying n.two (moved_by n s x).two ≡ 80 → (n.threshold ≡ 7200 → pair_feasible n s x ≡ true) × (n.threshold ≡ 7201 → pair_feasible n s x ≡ false)
