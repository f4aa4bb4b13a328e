-- What an acceptance carries, and what the check answers.
use Rattle.std.specs.Prelude.{◌≡◌, ℕ, List, Some, None, Ok, Err, Result, IsOk}
use Rattle.interface.specs.Plants.{Model}
use Rattle.interface.specs.Rows.{Row}
use Rattle.interface.specs.Tariffs.{Scale}
use Rattle.certificate.specs.declared.finding.Finding.{Finding}
use Rattle.certificate.specs.declared.refusal.Refusal.{Refusal}
use Rattle.certificate.specs.Certificates.{Top, Bottom}
use Rattle.certificate.specs.Refusals.{refusal}

-- The claims as they were given, the first greatest value and the first least.
pub record Finds {A : Type 0} (row : A → Row) (m : Model) (t : Scale) (vs : List Row) (low high : A) (f : Finding A) : Type 0 where
  pub low_kept : f.low ≡ low
  pub high_kept : f.high ≡ high
  pub top_found : Top m t vs (row f.top)
  pub bottom_found : Bottom m t vs (row f.bottom)

-- Accepted with its finding when no test fails, else refused by the first that does.
abbrev pub Verdict : {A : Type 0} → (A → Row) → Model → Scale → List Row → List ℕ → A → A → Result (Finding A) Refusal → Type 0
Verdict row m t vs ps low high (Ok f) = (refusal m t vs ps (row low) (row high) ≡ None) × Finds row m t vs low high f
Verdict row m t vs ps low high (Err e) = refusal m t vs ps (row low) (row high) ≡ Some e

-- Whatever the check answers to this table, this policy and these claims is an acceptance.
abbrev pub Accepts : {A : Type 0} → (A → Row) → Model → Scale → List Row → List ℕ → A → A → Type 0
Accepts {A = A} row m t vs ps low high = (r : Result (Finding A) Refusal) → Verdict row m t vs ps low high r → IsOk r
