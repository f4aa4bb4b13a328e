-- The portfolios of a chain: which parts are renewed, and at what age each part starts the window.
use Rattle.std.specs.Prelude.{◌≡◌, ℕ, ◌-◌, ◌/◌, ◌%◌, ◌^◌, ◌≤◌, Bool, cond, not, ◌&&◌, ◌||◌, ◌==◌, nat_le}
use Rattle.chain.specs.Over.{every}
use Rattle.chain.specs.Parts.{life}
use Rattle.chain.specs.States.{age_in, failed_in}
use Rattle.chain.specs.declared.numbers.ChainNumbers.{ChainNumbers}
use Rattle.workorder.specs.Orders.{Holds}

abbrev pub all_portfolios : ChainNumbers → ℕ
all_portfolios n = 2 ^ n.count

-- The portfolio of all parts.
abbrev pub everything : ChainNumbers → ℕ
everything n = 2 ^ n.count - 1

-- Whether portfolio x holds part i, as a test of `Holds`.
abbrev pub renews : ℕ → ℕ → Bool
renews x i = nat_le 1 i && (x / 2 ^ (i - 1)) % 2 == 1

-- A renewed part starts the window at age 0, another at its age.
abbrev pub start_age : ChainNumbers → ℕ → ℕ → ℕ → ℕ
start_age n s x i = cond (renews x i) 0 (age_in n s i)

-- The failed part, if there is one, is renewed.
abbrev pub failure_renewed : ChainNumbers → ℕ → ℕ → Bool
failure_renewed n s x = failed_in n s == 0 || renews x (failed_in n s)

-- Part i is below its life or renewed.
abbrev pub attended : ChainNumbers → ℕ → ℕ → ℕ → Bool
attended n s x i = not (age_in n s i == life n i) || renews x i

-- Every part at its life is renewed.
abbrev pub worn_renewed : ChainNumbers → ℕ → ℕ → Bool
worn_renewed n s x = every (attended n s x) n.count

-- The same two as facts.
abbrev pub FailureRenewed : ChainNumbers → ℕ → ℕ → Type 0
FailureRenewed n s x = 1 ≤ failed_in n s → Holds x (failed_in n s)

abbrev pub WornRenewed : ChainNumbers → ℕ → ℕ → Type 0
WornRenewed n s x = (i : ℕ) → 1 ≤ i → i ≤ n.count → age_in n s i ≡ life n i → Holds x i
