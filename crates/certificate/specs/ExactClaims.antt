-- The tightest claims of a value table and a policy.
use Rattle.std.specs.Prelude.{ℕ, ◌↔◌, List, Result, IsOk}
use Rattle.interface.specs.Plants.{Model}
use Rattle.interface.specs.Rows.{Row}
use Rattle.interface.specs.Tariffs.{Scale, AtMost, Fit}
use Rattle.certificate.specs.Certificates.{Sound}
use Rattle.certificate.specs.Reasons.{ClaimsNear}
use Rattle.certificate.specs.Recipes.{Lowest, Highest, Fitting}
use Rattle.certificate.specs.declared.refusal.Refusal.{Refusal}

-- Claims that somebody may make: rows of this scale, within the reach of claims.
pub record Claimable (t : Scale) (low high : Row) : Type 0 where
  pub low_fits : Fit t low
  pub high_fits : Fit t high
  pub near : ClaimsNear low high

-- The claims low and high say no more than l and h: low is no greater, and high no less.
pub record NoTighter (t : Scale) (low high l h : Row) : Type 0 where
  pub low_below : AtMost t low l
  pub high_above : AtMost t h high

-- Of all claims, exactly those that are no tighter than l and h make a sound certificate of the table and the policy.
abbrev pub Tightest : Model → Scale → List Row → List ℕ → Row → Row → Type 0
Tightest m t vs ps l h = (low high : Row) → Claimable t low high → (Sound m t vs ps low high ↔ NoTighter t low high l h)

-- Where the least gain l of all and the greatest gain h of the policy's are known, and the claims low and high are within reach: accepted
-- exactly when they are no tighter.
abbrev pub AcceptsNoTighter : {A : Type 0} → Model → Scale → List Row → List ℕ → Row → Row → Result A Refusal → Type 0
AcceptsNoTighter m t vs ps low high r =
    (l h : Row) → Fitting m vs ps → Lowest m t vs l → Highest m t vs ps h → ClaimsNear low high → (IsOk r ↔ NoTighter t low high l h)
