-- What the planner answers, and what its three tables hold then.
use Rattle.std.specs.Prelude.{◌≡◌, ℕ, ◌<◌, ◌≤◌, List, map, length, replicate, Ok, Err, Result}
use Rattle.interface.specs.Plants.{Model}
use Rattle.interface.specs.Rows.{Row}
use Rattle.interface.specs.Tariffs.{Scale}
use Rattle.interface.specs.declared.claims.Claims.{Claims}
use Rattle.planner.specs.declared.refusal.Refusal.{Refusal}
use Rattle.planner.specs.declared.refusal.Refusal.TheVariants.{TooManySweeps, WrongLength, BeyondReach}
use Rattle.planner.specs.Plans.{PlanAfter}
use Rattle.planner.specs.Sweeps.{most_sweeps, blank, Swept, Stuck}

-- The three tables: values and working as amounts, and the policy.
pub record Tables (A : Type 0) : Type 0 where
  pub values : List A
  pub working : List A
  pub policy : List ℕ

-- Each table has an entry for each state.
pub record Level {A : Type 0} (m : Model) (b : Tables A) : Type 0 where
  pub values : length b.values ≡ m.states
  pub working : length b.working ≡ m.states
  pub policy : length b.policy ≡ m.states

-- The values, the policy and the claims are the plan after all sweeps; the working table is zero.
pub record Planned {A : Type 0} (row : A → Row) (m : Model) (t : Scale) (n : ℕ) (b : Tables A) (c : Claims A) : Type 0 where
  pub plan : PlanAfter m t n (map row b.values) b.policy (row c.low) (row c.high)
  pub cleared : map row b.working ≡ blank t m.states

-- A sweep that leaves a value beyond reach: the values are those of the last whole sweep, the other tables zero.
pub record Halted {A : Type 0} (row : A → Row) (m : Model) (t : Scale) (n : ℕ) (s : ℕ) (b : Tables A) : Type 0 where
  pub whole : ℕ
  pub fewer : whole < n
  pub swept : Swept m t whole (map row b.values)
  pub stuck : Stuck m t (map row b.values) s
  pub cleared : map row b.working ≡ blank t m.states
  pub no_policy : b.policy ≡ replicate m.states 0

-- b before, b' after.
abbrev pub Answer : {A : Type 0} → (A → Row) → Model → Scale → ℕ → Tables A → Tables A → Result (Claims A) Refusal → Type 0
Answer row m t n b b' (Ok c) = (n ≤ most_sweeps) × Level m b × Planned row m t n b' c
Answer row m t n b b' (Err TooManySweeps) = (most_sweeps < n) × (b' ≡ b)
Answer row m t n b b' (Err WrongLength) = (n ≤ most_sweeps) × (Level m b → ⊥) × (b' ≡ b)
Answer row m t n b b' (Err (BeyondReach s)) = (n ≤ most_sweeps) × Level m b × Halted row m t n s b'

-- So many sweeps lead to no other values than those of the plan, and where a value would be beyond reach to none at all.
abbrev pub Only : {A : Type 0} → (A → Row) → Model → Scale → ℕ → Tables A → Result (Claims A) Refusal → Type 0
Only row m t n b' (Ok c) = (vs : List Row) → Swept m t n vs → map row b'.values ≡ vs
Only row m t n b' (Err TooManySweeps) = Unit {0}
Only row m t n b' (Err WrongLength) = Unit {0}
Only row m t n b' (Err (BeyondReach s)) = (vs : List Row) → Swept m t n vs → ⊥
