-- A chain as a plant. The table has the least cents of a work order for each portfolio.
use Rattle.std.specs.Prelude.{◌≡◌, ℕ, ◌+◌, ◌-◌, ◌<◌, ◌≤◌, Bool, true, false, cond, ◌&&◌, List, map, is_some, Some, None, Option, ◌==◌, nat_le, nat_lt, slice_index_or}
use Rattle.chain.specs.Over.{Entries, over_parts}
use Rattle.chain.specs.Parts.{arcs_of, hazard, part_of}
use Rattle.chain.specs.Portfolios.{FailureRenewed, WornRenewed, all_portfolios, everything, failure_renewed, start_age, worn_renewed}
use Rattle.chain.specs.States.{all_states, failed_in, state_with}
use Rattle.chain.specs.declared.numbers.ChainNumbers.{ChainNumbers}
use Rattle.interface.specs.Limits.{whole}
use Rattle.interface.specs.Plants.{Model}
use Rattle.interface.specs.declared.plant.Bill.{Bill}
use Rattle.interface.specs.declared.plant.Outcome.{Outcome}
use Rattle.std.specs.List.{range_with_len}
use Rattle.std.specs.Option.{unwrap_or}
use Rattle.workorder.specs.Orders.{OrderFor}

-- The hazards of all parts, where part i starts the window at the age start i.
abbrev pub hazards_at : ChainNumbers → (ℕ → ℕ) → ℕ
hazards_at n start = over_parts (λ i. hazard n i (start i)) n.count

abbrev pub hazard_sum : ChainNumbers → ℕ → ℕ → ℕ
hazard_sum n s x = hazards_at n (start_age n s x)

-- The ten-thousandths with which no part fails, where the hazards add up to this number.
abbrev pub survival : ℕ → ℕ
survival hazards = whole - hazards

-- Whether the survival is at least the threshold. A sum of hazards above the whole is below every threshold.
abbrev pub survives : ChainNumbers → ℕ → Bool
survives n hazards = nat_le hazards whole && nat_le n.threshold (survival hazards)

-- The same as a fact.
abbrev pub Survives : ChainNumbers → ℕ → Type 0
Survives n hazards = (hazards ≤ whole) × (n.threshold ≤ survival hazards)

abbrev pub least_order : List (Option ℕ) → ℕ → Option ℕ
least_order table x = slice_index_or table x None

abbrev pub chain_feasible : ChainNumbers → List (Option ℕ) → ℕ → ℕ → Bool
chain_feasible n table s x = (nat_lt s (all_states n) && nat_lt x (all_portfolios n)) && ((failure_renewed n s x && worn_renewed n s x) && (is_some (least_order table x) && survives n (hazard_sum n s x)))

-- The ages at which the parts start the window; there are none exactly when the pair is not feasible.
abbrev pub Starts : ChainNumbers → List (Option ℕ) → ℕ → ℕ → Option (List ℕ) → Type 0
Starts n table s x None = chain_feasible n table s x ≡ false
Starts n table s x (Some starts) = (chain_feasible n table s x ≡ true) × Entries (start_age n s x) n.count starts

-- In cents: alarm and surplus when part f has failed.
abbrev pub failure_charge : ChainNumbers → ℕ → ℕ
failure_charge n f = cond (f == 0) 0 (n.alarm + (part_of n f).surplus)

-- Nothing is paid for the empty portfolio; for any other the setup, the least work order, and what a failure costs.
abbrev pub renewal_cents : ChainNumbers → List (Option ℕ) → ℕ → ℕ → ℕ
renewal_cents n table x f = cond (x == 0) 0 (n.setup + unwrap_or (least_order table x) 0 + failure_charge n f)

abbrev pub dark_seconds : ChainNumbers → ℕ → ℕ
dark_seconds n f = cond (f == 0) 0 (part_of n f).dark

abbrev pub chain_bill : ChainNumbers → List (Option ℕ) → ℕ → ℕ → Bill
chain_bill n table s x = record { seconds = dark_seconds n (failed_in n s); cents = renewal_cents n table x (failed_in n s) }

-- Outcome 0 is no failure, and outcome i the failure of part i. Every part is one window older than at its start.
abbrev pub outcome_after : ChainNumbers → (ℕ → ℕ) → ℕ → Outcome
outcome_after n start k = record {
  next = state_with n (λ i. start i + 1) k;
  weight = cond (k == 0) (survival (hazards_at n start)) (hazard n k (start k));
}

abbrev pub chain_outcomes : ChainNumbers → ℕ → ℕ → List Outcome
chain_outcomes n s x = map (outcome_after n (start_age n s x)) (range_with_len 0 (n.count + 1))

abbrev pub chain_model : ChainNumbers → List (Option ℕ) → Model
chain_model n table = record {
  states = all_states n;
  portfolios = all_portfolios n;
  feasible = chain_feasible n table;
  bill = chain_bill n table;
  outcomes = chain_outcomes n;
}

-- Some work order for portfolio x exists.
abbrev pub HasOrder : ChainNumbers → ℕ → Type 0
HasOrder n x = ∥ ((c : ℕ) × OrderFor (arcs_of n) x c) ∥₁

-- What it means that portfolio x is feasible in state s, by the work orders themselves.
pub record Feasible (n : ChainNumbers) (s x : ℕ) : Type 0 where
  pub state : s < all_states n
  pub portfolio : x < all_portfolios n
  pub failure : FailureRenewed n s x
  pub worn : WornRenewed n s x
  pub order : HasOrder n x
  pub survives : Survives n (hazard_sum n s x)

-- All parts may be renewed in every state.
abbrev pub Renewable : ChainNumbers → Type 0
Renewable n = (s : ℕ) → s < all_states n → Feasible n s (everything n)

-- The same by the test of feasibility.
abbrev pub RenewableBy : ChainNumbers → List (Option ℕ) → Type 0
RenewableBy n table = (s : ℕ) → s < all_states n → chain_feasible n table s (everything n) ≡ true

-- In no state may all parts be renewed.
abbrev pub Unrenewable : ChainNumbers → Type 0
Unrenewable n = (s : ℕ) → Feasible n s (everything n) → ⊥
