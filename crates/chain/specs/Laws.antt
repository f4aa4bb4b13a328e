-- What the definitions of a chain come to.
use Rattle.std.specs.Prelude.{◌≡◌, ℕ, ◌+◌, ◌<◌, ◌≤◌, true, false, List, Some, None, Decides, Option}
use Rattle.chain.specs.Chains.{Feasible, Renewable, chain_bill, chain_feasible, failure_charge, outcome_after}
use Rattle.chain.specs.Parts.{LawfulNumbers, arcs_of, hazard, life, part_of}
use Rattle.chain.specs.Portfolios.{all_portfolios, start_age}
use Rattle.chain.specs.States.{age_in, all_states, failed_in}
use Rattle.chain.specs.declared.numbers.ChainNumbers.{ChainNumbers}
use Rattle.interface.specs.Limits.{most_states}
use Rattle.workorder.specs.Figures.{circle, row}
use Rattle.workorder.specs.Orders.{Least, LeastTable}
use Rattle.workorder.specs.declared.Arc.{Arc}

-- The state after outcome k of a window.
abbrev pub next_state : ChainNumbers → ℕ → ℕ → ℕ → ℕ
next_state n s x k = (outcome_after n (start_age n s x) k).next

pub record ChainLaws (n : ChainNumbers) (table : List (Option ℕ)) : Type 0 where
  -- the test of feasibility says what feasible means
  pub feasible : (s x : ℕ) → Decides (chain_feasible n table s x) (Feasible n s x)
  -- nothing is paid for the empty portfolio,
  pub unpaid : (s : ℕ) → (chain_bill n table s 0).cents ≡ 0
  -- and for any other the least of all its work orders, beside the setup and what a failure costs
  pub paid : (s x : ℕ) → Feasible n s x → 1 ≤ x → (c : ℕ) × Least (arcs_of n) x (Some c) × ((chain_bill n table s x).cents ≡ n.setup + c + failure_charge n (failed_in n s))
  -- every part starts the window below its life, so that its hazard is known
  pub known : (s x i : ℕ) → Feasible n s x → 1 ≤ i → i ≤ n.count → start_age n s x i < life n i
  -- outcome k leaves part k failed,
  pub fails : (s x k : ℕ) → Feasible n s x → k ≤ n.count → failed_in n (next_state n s x k) ≡ k
  -- and every part one window older than it started
  pub ages : (s x k i : ℕ) → Feasible n s x → k ≤ n.count → 1 ≤ i → i ≤ n.count → age_in n (next_state n s x k) i ≡ start_age n s x i + 1

-- A chain by its arcs, its table and its setup.
abbrev pub With : ChainNumbers → List (Option ℕ) → List Arc → ℕ → Type 0
With n table arcs setup = (arcs_of n ≡ arcs) × LeastTable (arcs_of n) table × (n.setup ≡ setup)

-- Part 1 has failed; its surplus is 1092, and there is no alarm.
abbrev pub FirstFailed : ChainNumbers → ℕ → Type 0
FirstFailed n s = (failed_in n s ≡ 1) × (n.alarm ≡ 0) × ((part_of n 1).surplus ≡ 1092)

-- One part with life 2, which fails with 1000 when new and with 4000 at age 1.
abbrev pub LonePart : ChainNumbers → Type 0
LonePart n = (n.count ≡ 1) × (life n 1 ≡ 2) × (hazard n 1 0 ≡ 1000) × (hazard n 1 1 ≡ 4000)

-- Worked figures, for every chain that has these entries, whatever else it has.
pub record Figures : Type 0 where
  -- part 1 failed and renewed alone, or together with part 2, and both renewed as planned
  pub failed_alone : (n : ChainNumbers) (table : List (Option ℕ)) (s : ℕ) → With n table row 1000 → FirstFailed n s → (chain_bill n table s 1).cents ≡ 2456
  pub failed_with : (n : ChainNumbers) (table : List (Option ℕ)) (s : ℕ) → With n table row 1000 → FirstFailed n s → (chain_bill n table s 3).cents ≡ 2983
  pub planned : (n : ChainNumbers) (table : List (Option ℕ)) (s : ℕ) → With n table row 1000 → failed_in n s ≡ 0 → (chain_bill n table s 3).cents ≡ 1891
  -- in a circle of cheap arcs one part is still done first, from the door: 11, and not 2
  pub circle_both : (n : ChainNumbers) (table : List (Option ℕ)) (s : ℕ) → With n table circle 0 → failed_in n s ≡ 0 → (chain_bill n table s 3).cents ≡ 11
  -- the threshold 6000 lets state 0 skip, and 6001 does not
  pub skips : (n : ChainNumbers) (table : List (Option ℕ)) → LeastTable (arcs_of n) table → LonePart n → (n.threshold ≡ 6000 → chain_feasible n table 0 0 ≡ true) × (n.threshold ≡ 6001 → chain_feasible n table 0 0 ≡ false)

-- There is a chain: of two parts, with the arcs and charges of the first figures, and with a state in which part 1 has failed.
pub record SomeChain : Type 0 where
  pub numbers : ChainNumbers
  pub lawful : LawfulNumbers numbers
  pub few : all_states numbers ≤ most_states
  pub renewable : Renewable numbers
  pub arcs : arcs_of numbers ≡ row
  pub setup : numbers.setup ≡ 1000
  pub alarm : numbers.alarm ≡ 0
  pub surplus : (part_of numbers 1).surplus ≡ 1092
  pub failed : failed_in numbers 1 ≡ 1

-- The least cents of a portfolio's work orders; absent also where the chain has no such portfolio.
abbrev pub LeastWithin : ChainNumbers → ℕ → Option ℕ → Type 0
LeastWithin n x r = (x < all_portfolios n → Least (arcs_of n) x r) × (all_portfolios n ≤ x → r ≡ None)
