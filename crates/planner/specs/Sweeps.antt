-- What a sweep does to a value table, and what tables some sweeps lead to.
use Rattle.std.specs.Prelude.{◌≡◌, ℕ, zero, suc, ◌<◌, ◌≤◌, List, length, replicate}
use Rattle.interface.specs.Plants.{Model, named}
use Rattle.interface.specs.Rows.{Row, zeros, minus, share, reach}
use Rattle.interface.specs.Tariffs.{Scale}
use Rattle.interface.specs.Limits.{most_value}
use Rattle.lookahead.specs.Best.{Chosen, cheaper, where_feasible}
use Rattle.lookahead.specs.Gains.{value_of, look_ahead, Near}

-- the largest number of sweeps
abbrev pub most_sweeps : ℕ
most_sweeps = 1000

-- A table of n zero rows.
abbrev pub blank : Scale → ℕ → List Row
blank t n = replicate n (zeros t.places)

-- Row u is the least look-ahead of a state, first reached by portfolio x: the lowest-numbered among equals.
abbrev pub LeastAhead : Model → Scale → List Row → ℕ → ℕ → Row → Type 0
LeastAhead m t vs s x u = Chosen (cheaper t) (where_feasible m (look_ahead m t vs) s) m.portfolios (record { at = x; row = u })

-- Row u is the share of a state's least look-ahead.
pub record Shared (m : Model) (t : Scale) (vs : List Row) (s : ℕ) (u : Row) : Type 0 where
  pub at : ℕ
  pub ahead : Row
  pub least : LeastAhead m t vs s at ahead
  pub is : u ≡ share ahead

-- The value that a sweep gives a state: how far the share of its least look-ahead is above that of state 0, both under the old table.
pub record NewValue (m : Model) (t : Scale) (vs : List Row) (s : ℕ) (w : Row) : Type 0 where
  pub own : Row
  pub base : Row
  pub own_is : Shared m t vs s own
  pub base_is : Shared m t vs 0 base
  pub is : w ≡ minus own base

-- Table ws has at a state the value that a sweep of vs gives it, and that is within reach.
pub record Fresh (m : Model) (t : Scale) (vs ws : List Row) (s : ℕ) : Type 0 where
  pub new : NewValue m t vs s (value_of t ws s)
  pub near : reach (value_of t ws s) ≤ most_value

-- One sweep turns table vs into ws.
pub record Sweep (m : Model) (t : Scale) (vs ws : List Row) : Type 0 where
  pub long : length ws ≡ m.states
  pub each : (s : ℕ) → s < m.states → NewValue m t vs s (value_of t ws s)

-- The tables that k whole sweeps lead to from zero rows, each within reach.
pub data Swept (m : Model) (t : Scale) : ℕ → List Row → Type 0 where
  start : Swept m t zero (blank t m.states)
  more : {k : ℕ} {vs ws : List Row} → Swept m t k vs → Sweep m t vs ws → Near ws → Swept m t (suc k) ws

-- A sweep of vs would leave a value beyond reach, first at state s.
pub record Stuck (m : Model) (t : Scale) (vs : List Row) (s : ℕ) : Type 0 where
  pub inside : s < m.states
  pub value : Row
  pub new : NewValue m t vs s value
  pub far : most_value < reach value
  pub first : (k : ℕ) → k < s → (w : Row) × NewValue m t vs k w × (reach w ≤ most_value)

-- The policy names for each state what looks cheapest there under these values: among equal portfolios the lowest-numbered.
pub record Chooses (m : Model) (t : Scale) (vs : List Row) (ps : List ℕ) : Type 0 where
  pub long : length ps ≡ m.states
  pub each : (s : ℕ) → s < m.states → (u : Row) × LeastAhead m t vs s (named ps s) u
