-- What a chain is made of.
use Rattle.std.specs.Prelude.{ℕ, ◌≤◌, List, Option}
use Rattle.chain.specs.Chains.{Renewable}
use Rattle.chain.specs.Parts.{LawfulNumbers, arcs_of}
use Rattle.chain.specs.States.{all_states}
use Rattle.chain.specs.declared.numbers.ChainNumbers.{ChainNumbers}
use Rattle.interface.specs.Limits.{most_states}
use Rattle.workorder.specs.Orders.{LeastTable}

-- The numbers are in range, make few enough states, and let all parts be renewed in every state; the table has the
-- least work order of every portfolio.
pub record Made (n : ChainNumbers) (table : List (Option ℕ)) : Type 0 where
  pub lawful : LawfulNumbers n
  pub few : all_states n ≤ most_states
  pub renewable : Renewable n
  pub least : LeastTable (arcs_of n) table
