-- What a window comes to.
use Rattle.std.specs.Prelude.{◌≡◌, ℕ, ◌+◌, ◌≤◌, true, false, List, Some, None, Option}
use Rattle.chain.specs.Chains.{chain_feasible, hazard_sum}
use Rattle.chain.specs.Parts.{hazard}
use Rattle.chain.specs.Portfolios.{start_age}
use Rattle.chain.specs.States.{state_with}
use Rattle.chain.specs.declared.numbers.ChainNumbers.{ChainNumbers}
use Rattle.chain.specs.declared.windows.Window.{Window}

-- The window with portfolio x in state s, asked about one part.
pub record ComesTo (n : ChainNumbers) (s x part : ℕ) (w : Window) : Type 0 where
  pub all : w.hazards ≡ hazard_sum n s x
  pub one : 1 ≤ part → part ≤ n.count → w.hazard ≡ hazard n part (start_age n s x part)
  pub unfailed : w.next ≡ state_with n (λ i. start_age n s x i + 1) 0

-- There is a window exactly when the pair is feasible.
abbrev pub WhenFeasible : ChainNumbers → List (Option ℕ) → ℕ → ℕ → ℕ → Option Window → Type 0
WhenFeasible n table s x part None = chain_feasible n table s x ≡ false
WhenFeasible n table s x part (Some w) = (chain_feasible n table s x ≡ true) × ComesTo n s x part w
