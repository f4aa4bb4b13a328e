-- A plan as text: what the planner finds after so many sweeps, written line by line.
use Rattle.std.specs.Prelude.{◌≡◌, ℕ, ◌<◌, List, map}
use Rattle.interface.specs.Plants.{Model}
use Rattle.interface.specs.Rows.{Row}
use Rattle.interface.specs.Tariffs.{Scale}
use Rattle.interface.specs.declared.claims.Claims.{Claims}
use Rattle.certificate.specs.Certificates.{Sound}
use Rattle.planner.specs.Plans.{PlanAfter}
use Rattle.planner.specs.Sweeps.{Swept, Stuck}
use Rattle.plantext.specs.Lines.{Plan, plan_text}

-- what tables and claims mean
abbrev pub plan_of : {A : Type 0} → (A → Row) → List A → List ℕ → Claims A → Plan
plan_of row values policy c = record { values = map row values; policy = policy; low = row c.low; high = row c.high }

-- The text of a plant's plan after so many sweeps under a tariff. As a certificate it is sound, so the check accepts it.
pub record PlanFor (m : Model) (t : Scale) (sweeps : ℕ) (text : List ℕ) : Type 0 where
  pub plan : Plan
  pub after : PlanAfter m t sweeps plan.values plan.policy plan.low plan.high
  pub sound : Sound m t plan.values plan.policy plan.low plan.high
  pub written : text ≡ plan_text plan

-- One of so many sweeps would leave the value of this state beyond reach.
pub record HaltsAt (m : Model) (t : Scale) (sweeps : ℕ) (state : ℕ) : Type 0 where
  pub whole : ℕ
  pub fewer : whole < sweeps
  pub values : List Row
  pub swept : Swept m t whole values
  pub stuck : Stuck m t values state
