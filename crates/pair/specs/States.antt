-- The states of a pair are the pairs of grades of its two units, numbered from 0; the grades of unit one run fastest.
use Rattle.std.specs.Prelude.{◌≡◌, ℕ, ◌+◌, ◌-◌, ◌*◌, ◌/◌, ◌%◌, Bool, cond, ◌&&◌, Some, None, Option, nat_le, nat_lt}
use Rattle.pair.specs.declared.numbers.UnitNumbers.{UnitNumbers}
use Rattle.pair.specs.declared.numbers.PairNumbers.{PairNumbers}
use Rattle.pair.specs.declared.states.Grades.{Grades}

abbrev pub all_states : PairNumbers → ℕ
all_states n = n.one.grades * n.two.grades

-- The grades of both units in a state.
abbrev pub grades_in : PairNumbers → ℕ → Grades
grades_in n s = record { one = s % n.one.grades + 1; two = s / n.one.grades + 1 }

abbrev pub numbered : PairNumbers → Grades → ℕ
numbered n g = (g.one - 1) + n.one.grades * (g.two - 1)

-- Whether a unit has the grade.
abbrev pub has_grade : UnitNumbers → ℕ → Bool
has_grade u g = nat_le 1 g && nat_le g u.grades

-- The number of a state, absent exactly when a unit has no such grade.
abbrev pub state_of : PairNumbers → Grades → Option ℕ
state_of n g = cond (has_grade n.one g.one && has_grade n.two g.two) (Some (numbered n g)) None

-- The grades of a state, absent from the number of states on.
abbrev pub grades_of : PairNumbers → ℕ → Option Grades
grades_of n s = cond (nat_lt s (all_states n)) (Some (grades_in n s)) None

-- States and their numbers turn into each other without loss.
pub record WithoutLoss (n : PairNumbers) : Type 0 where
  pub back : (g : Grades) (s : ℕ) → state_of n g ≡ Some s → grades_of n s ≡ Some g
  pub forth : (s : ℕ) (g : Grades) → grades_of n s ≡ Some g → state_of n g ≡ Some s
