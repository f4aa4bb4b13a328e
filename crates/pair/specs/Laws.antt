-- What the definitions of a pair come to.
use Rattle.std.specs.Prelude.{◌≡◌, ℕ, ◌<◌, ◌≤◌, Bool, true, not, ◌&&◌, filter}
use Rattle.interface.specs.Plants.{weights}
use Rattle.pair.specs.declared.numbers.PairNumbers.{PairNumbers}
use Rattle.pair.specs.Pairs.{LawfulNumbers, Renewable, moved_by, survival, outcome_by, pair_feasible, pair_outcomes}
use Rattle.pair.specs.States.{grades_in}
use Rattle.pair.specs.Units.{failed, staying}

-- A state in which no unit is failed.
abbrev pub none_failed : PairNumbers → ℕ → Bool
none_failed n s = not (failed n.one (grades_in n s).one) && not (failed n.two (grades_in n s).two)

pub record PairLaws (n : PairNumbers) : Type 0 where
  -- the survival is what those outcomes weigh in which no unit is failed
  pub survives : (s x : ℕ) → weights (filter (λ o. none_failed n o.next) (pair_outcomes n s x)) ≡ survival n s x
  -- an outcome that can happen leaves no unit better than the grade by whose row it moved
  pub wears : (s x k : ℕ) → pair_feasible n s x ≡ true → 0 < (outcome_by n (moved_by n s x) k).weight → ((moved_by n s x).one ≤ (grades_in n k).one) × ((moved_by n s x).two ≤ (grades_in n k).two)

-- There is a pair: at the threshold 7200, with units that stay below their failed grades with 90 and 80 hundredths when renewed.
pub record SomePair : Type 0 where
  pub numbers : PairNumbers
  pub lawful : LawfulNumbers numbers
  pub renewable : Renewable numbers
  pub threshold : numbers.threshold ≡ 7200
  pub one : staying numbers.one 1 ≡ 90
  pub two : staying numbers.two 1 ≡ 80
