-- The plan that some sweeps lead to, as rows.
use Rattle.std.specs.Prelude.{ℕ, List}
use Rattle.interface.specs.Plants.{Model}
use Rattle.interface.specs.Rows.{Row}
use Rattle.interface.specs.Tariffs.{Scale}
use Rattle.certificate.specs.Recipes.{Lowest, Highest}
use Rattle.planner.specs.Sweeps.{Swept, Chooses}

-- The plan after so many sweeps: the values that these end with, what they make the policy choose, and the two claims by the recipe.
pub record PlanAfter (m : Model) (t : Scale) (sweeps : ℕ) (vs : List Row) (ps : List ℕ) (low high : Row) : Type 0 where
  pub swept : Swept m t sweeps vs
  pub chosen : Chooses m t vs ps
  pub lowest : Lowest m t vs low
  pub highest : Highest m t vs ps high
