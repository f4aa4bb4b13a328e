-- Where the sweeps stop: at a value that would be beyond reach.
use Rattle.std.specs.Prelude.{◌≡◌, ℕ, ◌<◌, List}
use Rattle.interface.specs.Plants.{Model}
use Rattle.interface.specs.Rows.{Row}
use Rattle.interface.specs.Tariffs.{Scale}
use Rattle.planner.specs.declared.refusal.Refusal.{Refusal}
use Rattle.planner.specs.declared.refusal.Refusal.TheVariants.{BeyondReach}
use Rattle.planner.specs.Sweeps.{Swept, Stuck}

-- One sweep of the table vs stops at a state, and the refusal names it.
pub record StopsAt (m : Model) (t : Scale) (vs : List Row) (e : Refusal) : Type 0 where
  pub state : ℕ
  pub told : e ≡ BeyondReach state
  pub stuck : Stuck m t vs state

-- Of n sweeps fewer are whole: they lead to the table vs, and the next stops.
pub record Stopped (m : Model) (t : Scale) (n : ℕ) (vs : List Row) (e : Refusal) : Type 0 where
  pub whole : ℕ
  pub fewer : whole < n
  pub swept : Swept m t whole vs
  pub stops : StopsAt m t vs e
