-- By which rule a certificate is refused, and where: the rule as its number, the place as a number.
use Rattle.std.specs.Prelude.{◌≡◌, ℕ, false, List, Result, IsErrAnd}
use Rattle.interface.specs.Plants.{Model, named}
use Rattle.interface.specs.Rows.{Row}
use Rattle.interface.specs.Tariffs.{Scale}
use Rattle.certificate.specs.Reasons.{Level, ClaimsNear, FarValue, Before, LowFails, HighFails}
use Rattle.certificate.specs.Refusals.{number_of, place_of}
use Rattle.certificate.specs.declared.refusal.Refusal.{Refusal}

-- One constructor to each rule: the lengths of the tables, then the reach of the claims, then that of the values, then of one state
-- after the other what the policy names, low and high.
pub data RefusedAs (m : Model) (t : Scale) (vs : List Row) (ps : List ℕ) (low high : Row) : ℕ → ℕ → Type 0 where
  by_length : (Level m vs ps → ⊥) → RefusedAs m t vs ps low high 7 0
  by_claim : Level m vs ps → (ClaimsNear low high → ⊥) → RefusedAs m t vs ps low high 8 m.states
  by_value : {s : ℕ} → Level m vs ps → ClaimsNear low high → FarValue m t vs s → RefusedAs m t vs ps low high 8 s
  by_policy : {s : ℕ} → Before m t vs ps low high s → m.feasible s (named ps s) ≡ false → RefusedAs m t vs ps low high 9 s
  by_low : {s : ℕ} → Before m t vs ps low high s → LowFails m t vs ps low s → RefusedAs m t vs ps low high 10 s
  by_high : {s : ℕ} → Before m t vs ps low high s → HighFails m t vs ps low high s → RefusedAs m t vs ps low high 11 s

-- The answer is a refusal with this number and this place.
abbrev pub IsRefused : {A : Type 0} → Result A Refusal → ℕ → ℕ → Type 0
IsRefused r n p = IsErrAnd r (λ e. (number_of e ≡ n) × (place_of e ≡ p))
