-- By which rule there is no recipe, and where. There are no claims yet that could be broken.
use Rattle.std.specs.Prelude.{ℕ, List}
use Rattle.interface.specs.Plants.{Model}
use Rattle.interface.specs.Rows.{Row}
use Rattle.interface.specs.Tariffs.{Scale}
use Rattle.certificate.specs.Reasons.{Level, FarValue, FirstInfeasible}

-- One constructor to each rule: the lengths of the tables, then the reach of the values, then what the policy names.
pub data RecipeRefusedAs (m : Model) (t : Scale) (vs : List Row) (ps : List ℕ) : ℕ → ℕ → Type 0 where
  by_length : (Level m vs ps → ⊥) → RecipeRefusedAs m t vs ps 7 0
  by_value : {s : ℕ} → Level m vs ps → FarValue m t vs s → RecipeRefusedAs m t vs ps 8 s
  by_policy : {s : ℕ} → FirstInfeasible m vs ps s → RecipeRefusedAs m t vs ps 9 s
