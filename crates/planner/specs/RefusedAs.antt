-- By which rule there is no plan, and where: the rule as its number, the place as a number.
use Rattle.std.specs.Prelude.{◌≡◌, ℕ, ◌<◌, ◌≤◌, List, Result, IsErrAnd}
use Rattle.interface.specs.Plants.{Model}
use Rattle.interface.specs.Rows.{Row}
use Rattle.interface.specs.Tariffs.{Scale}
use Rattle.planner.specs.Answers.{Tables, Level}
use Rattle.planner.specs.Refusals.{number_of, place_of}
use Rattle.planner.specs.Sweeps.{most_sweeps, Swept, Stuck}
use Rattle.planner.specs.declared.refusal.Refusal.{Refusal}

-- One constructor to each rule: the number n of sweeps, then the lengths of the tables b, then the reach of the values: some sweep,
-- with k whole ones before it, would leave the value of state s beyond reach, and that of no state before s.
pub data RefusedAs {A : Type 0} (m : Model) (t : Scale) (n : ℕ) (b : Tables A) : ℕ → ℕ → Type 0 where
  by_sweeps : most_sweeps < n → RefusedAs m t n b 3 0
  by_length : n ≤ most_sweeps → (Level m b → ⊥) → RefusedAs m t n b 7 0
  by_value : {k s : ℕ} {vs : List Row} → n ≤ most_sweeps → Level m b → k < n → Swept m t k vs → Stuck m t vs s → RefusedAs m t n b 8 s

-- The answer is a refusal with this number and this place.
abbrev pub IsRefused : {A : Type 0} → Result A Refusal → ℕ → ℕ → Type 0
IsRefused r n p = IsErrAnd r (λ e. (number_of e ≡ n) × (place_of e ≡ p))
