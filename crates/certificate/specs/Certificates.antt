-- Sound certificates: a value table, a policy, and the claims low and high.
use Rattle.std.specs.Prelude.{◌≡◌, ℕ, ◌<◌, ◌≤◌, true, List, length}
use Rattle.std.specs.List.{slice_get}
use Rattle.interface.specs.Limits.{most_claim}
use Rattle.interface.specs.Plants.{Model, named}
use Rattle.interface.specs.Rows.{Row, reach}
use Rattle.interface.specs.Tariffs.{Scale, AtMost}
use Rattle.lookahead.specs.Best.{Chosen, cheaper, dearer}
use Rattle.lookahead.specs.Gains.{gain, Within}

-- A certificate is sound: both tables have an entry for each state, the values and the claims are within reach,
-- and wherever one stands: what the policy names may be done, whatever may be done gains no less than low, and what the
-- policy names gains no more than high.
pub record Sound (m : Model) (t : Scale) (vs : List Row) (ps : List ℕ) (low high : Row) : Type 0 where
  pub values : Within m vs
  pub policy : length ps ≡ m.states
  pub low_near : reach low ≤ most_claim
  pub high_near : reach high ≤ most_claim
  pub feasible : (s : ℕ) → s < m.states → m.feasible s (named ps s) ≡ true
  pub low_holds : (s x : ℕ) → m.feasible s x ≡ true → AtMost t low (gain m t vs s x)
  pub high_holds : (s : ℕ) → s < m.states → AtMost t (gain m t vs s (named ps s)) high

-- The first greatest and the first least value in state order.
abbrev pub Top : Model → Scale → List Row → Row → Type 0
Top m t vs u = (s : ℕ) × Chosen (dearer t) (slice_get vs) m.states (record { at = s; row = u })

abbrev pub Bottom : Model → Scale → List Row → Row → Type 0
Bottom m t vs u = (s : ℕ) × Chosen (cheaper t) (slice_get vs) m.states (record { at = s; row = u })
