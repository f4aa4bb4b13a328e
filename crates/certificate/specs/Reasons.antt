-- What fails where a certificate or a recipe is refused, and what holds of all before it.
use Rattle.std.specs.Prelude.{◌≡◌, ℕ, ◌<◌, ◌≤◌, true, false, List, length}
use Rattle.interface.specs.Plants.{Model, named}
use Rattle.interface.specs.Rows.{Row, reach}
use Rattle.interface.specs.Tariffs.{Scale, AtMost}
use Rattle.interface.specs.Limits.{most_value, most_claim}
use Rattle.lookahead.specs.Gains.{value_of, gain, Within}

-- Both tables have an entry for each state.
pub record Level (m : Model) (vs : List Row) (ps : List ℕ) : Type 0 where
  pub values : length vs ≡ m.states
  pub policy : length ps ≡ m.states

-- Both claims are within their reach.
pub record ClaimsNear (low high : Row) : Type 0 where
  pub low_near : reach low ≤ most_claim
  pub high_near : reach high ≤ most_claim

-- The first value beyond reach is that of s.
pub record FarValue (m : Model) (t : Scale) (vs : List Row) (s : ℕ) : Type 0 where
  pub state : s < m.states
  pub near : (k : ℕ) → k < s → reach (value_of t vs k) ≤ most_value
  pub far : most_value < reach (value_of t vs s)

-- The claims hold of the state s and the policy's portfolio for it.
pub record Holds (m : Model) (t : Scale) (vs : List Row) (ps : List ℕ) (low high : Row) (s : ℕ) : Type 0 where
  pub feasible : m.feasible s (named ps s) ≡ true
  pub low_holds : (x : ℕ) → m.feasible s x ≡ true → AtMost t low (gain m t vs s x)
  pub high_holds : AtMost t (gain m t vs s (named ps s)) high

-- Lengths, claims and values are as they should be, and the claims hold of every state before the state s.
pub record Before (m : Model) (t : Scale) (vs : List Row) (ps : List ℕ) (low high : Row) (s : ℕ) : Type 0 where
  pub values : Within m vs
  pub policy : length ps ≡ m.states
  pub claims : ClaimsNear low high
  pub state : s < m.states
  pub each : (k : ℕ) → k < s → Holds m t vs ps low high k

-- Some feasible portfolio of s gains less than low. The policy's is feasible.
pub record LowFails (m : Model) (t : Scale) (vs : List Row) (ps : List ℕ) (low : Row) (s : ℕ) : Type 0 where
  pub policy_feasible : m.feasible s (named ps s) ≡ true
  pub portfolio : ℕ
  pub feasible : m.feasible s portfolio ≡ true
  pub below : t.at_most low (gain m t vs s portfolio) ≡ false

-- The policy's portfolio for s gains more than high, and no feasible one less than low.
pub record HighFails (m : Model) (t : Scale) (vs : List Row) (ps : List ℕ) (low high : Row) (s : ℕ) : Type 0 where
  pub feasible : m.feasible s (named ps s) ≡ true
  pub low_holds : (x : ℕ) → m.feasible s x ≡ true → AtMost t low (gain m t vs s x)
  pub above : t.at_most (gain m t vs s (named ps s)) high ≡ false

-- Lengths and values are as they should be, and s is the first state in which the policy's portfolio is not feasible.
pub record FirstInfeasible (m : Model) (vs : List Row) (ps : List ℕ) (s : ℕ) : Type 0 where
  pub values : Within m vs
  pub policy : length ps ≡ m.states
  pub state : s < m.states
  pub feasible : (k : ℕ) → k < s → m.feasible k (named ps k) ≡ true
  pub infeasible : m.feasible s (named ps s) ≡ false
