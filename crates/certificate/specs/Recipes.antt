-- What the recipe makes of a value table and a policy: low, the smallest gain that anything feasible has, and high, the largest that the
-- policy meets.
use Rattle.std.specs.Prelude.{◌≡◌, ℕ, ◌<◌, true, false, cond, ◌⊎◌, List, length, Some, None, Option}
use Rattle.interface.specs.Plants.{Model, named}
use Rattle.interface.specs.Rows.{Row}
use Rattle.interface.specs.Tariffs.{Scale, AtMost}
use Rattle.lookahead.specs.Best.{Pick, first_best, cheaper, where_feasible}
use Rattle.lookahead.specs.Gains.{gain, Within}
use Rattle.certificate.specs.declared.refusal.Refusal.{Refusal}
use Rattle.certificate.specs.declared.refusal.Refusal.TheVariants.{WrongLength, Infeasible}
use Rattle.certificate.specs.Refusals.{or_else, first_fault, value_fault, level}

-- Row u is the smallest gain that anything feasible has. State and portfolio name the pair that has it: among several the one in the
-- lowest-numbered state, and there the lowest-numbered portfolio.
pub record Lowest (m : Model) (t : Scale) (vs : List Row) (u : Row) : Type 0 where
  pub state : ℕ
  pub portfolio : ℕ
  pub feasible : m.feasible state portfolio ≡ true
  pub there : u ≡ gain m t vs state portfolio
  pub least : (s x : ℕ) → m.feasible s x ≡ true → AtMost t u (gain m t vs s x)
  pub first : (s x : ℕ) → m.feasible s x ≡ true → (s < state) ⊎ ((s ≡ state) × (x < portfolio)) → t.at_most (gain m t vs s x) u ≡ false

-- Row u is the largest gain that the policy meets. The state is the lowest-numbered in which it meets that.
pub record Highest (m : Model) (t : Scale) (vs : List Row) (ps : List ℕ) (u : Row) : Type 0 where
  pub state : ℕ
  pub inside : state < m.states
  pub there : u ≡ gain m t vs state (named ps state)
  pub greatest : (s : ℕ) → s < m.states → AtMost t (gain m t vs s (named ps s)) u
  pub first : (s : ℕ) → s < state → t.at_most u (gain m t vs s (named ps s)) ≡ false

-- What a recipe can be made of: both tables have an entry for each state, the values are within reach, and whatever the
-- policy names may be done.
pub record Fitting (m : Model) (vs : List Row) (ps : List ℕ) : Type 0 where
  pub within : Within m vs
  pub policy : length ps ≡ m.states
  pub feasible : (s : ℕ) → s < m.states → m.feasible s (named ps s) ≡ true

-- The smallest gain of what is feasible in a state, if anything is.
abbrev pub row_of : Option Pick → Option Row
row_of None = None
row_of (Some p) = Some p.row

abbrev pub state_low : Model → Scale → List Row → ℕ → Option Row
state_low m t vs s = row_of (first_best (cheaper t) (where_feasible m (gain m t vs) s) m.portfolios)

-- The gain of the policy's portfolio, where that is feasible.
abbrev pub policy_gain : Model → Scale → List Row → List ℕ → ℕ → Option Row
policy_gain m t vs ps s = where_feasible m (gain m t vs) s (named ps s)

abbrev pub policy_fault : Model → List ℕ → ℕ → Option Refusal
policy_fault m ps s = cond (m.feasible s (named ps s)) None (Some (Infeasible s))

-- Why the recipe is refused: a length, a value beyond reach, an infeasible entry of the policy.
abbrev pub recipe_refusal : Model → Scale → List Row → List ℕ → Option Refusal
recipe_refusal m t vs ps =
    cond (level m vs ps)
    (or_else (first_fault (value_fault t vs) m.states) (first_fault (policy_fault m ps) m.states))
    (Some WrongLength)
