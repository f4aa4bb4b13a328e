-- What the recipe answers.
use Rattle.std.specs.Prelude.{◌≡◌, ℕ, List, Some, None, Ok, Err, Result}
use Rattle.interface.specs.Plants.{Model}
use Rattle.interface.specs.Rows.{Row}
use Rattle.interface.specs.Tariffs.{Scale}
use Rattle.interface.specs.declared.claims.Claims.{Claims}
use Rattle.certificate.specs.declared.refusal.Refusal.{Refusal}
use Rattle.certificate.specs.Recipes.{Lowest, Highest, recipe_refusal}

abbrev pub Recipe : {A : Type 0} → (A → Row) → Model → Scale → List Row → List ℕ → Result (Claims A) Refusal → Type 0
Recipe row m t vs ps (Ok c) = (recipe_refusal m t vs ps ≡ None) × Lowest m t vs (row c.low) × Highest m t vs ps (row c.high)
Recipe row m t vs ps (Err e) = recipe_refusal m t vs ps ≡ Some e
