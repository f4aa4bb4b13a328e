-- What a plant means, and the laws that every plant keeps.
use Rattle.std.specs.Prelude.{◌≡◌, ℕ, ◌+◌, ◌<◌, ◌≤◌, Bool, true, cond, List, [], ◌∷◌, length, slice_index, Some, None, Option}
use Rattle.interface.specs.declared.plant.Bill.{Bill}
use Rattle.interface.specs.declared.plant.Outcome.{Outcome}
use Rattle.interface.specs.Limits.{most_states, most_portfolios, most_outcomes, most_seconds, most_cents, whole}

-- States and portfolios are numbered from 0. Of a pair that is not feasible, the bill and the outcomes mean nothing.
pub record Model : Type 0 where
  pub states : ℕ
  pub portfolios : ℕ
  pub feasible : ℕ → ℕ → Bool
  pub bill : ℕ → ℕ → Bill
  pub outcomes : ℕ → ℕ → List Outcome

-- What a plant answers: the bill of a pair, absent exactly when the pair is not feasible.
abbrev pub bill_of : Model → ℕ → ℕ → Option Bill
bill_of m s x = cond (m.feasible s x) (Some (m.bill s x)) None

-- The outcomes of a pair, none when it is not feasible.
abbrev pub outcomes_of : Model → ℕ → ℕ → List Outcome
outcomes_of m s x = cond (m.feasible s x) (m.outcomes s x) []

-- The portfolio that a policy names for a state.
abbrev pub named : List ℕ → ℕ → ℕ
named ps s = slice_index ps s

pub record LawfulBill (b : Bill) : Type 0 where
  pub dark : b.seconds ≤ most_seconds
  pub paid : b.cents ≤ most_cents

abbrev pub weights : List Outcome → ℕ
weights [] = 0
weights (o ∷ os) = o.weight + weights os

abbrev pub Inside : ℕ → List Outcome → Type 0
Inside n [] = Unit {0}
Inside n (o ∷ os) = (o.next < n) × Inside n os

-- One list of outcomes of a plant with n states.
pub record LawfulOutcomes (n : ℕ) (os : List Outcome) : Type 0 where
  pub some : 1 ≤ length os
  pub few : length os ≤ most_outcomes
  pub inside : Inside n os
  pub shared : weights os ≡ whole

-- The laws of every plant.
pub record Lawful (m : Model) : Type 0 where
  pub some_states : 1 ≤ m.states
  pub few_states : m.states ≤ most_states
  pub some_portfolios : 1 ≤ m.portfolios
  pub few_portfolios : m.portfolios ≤ most_portfolios
  -- a number out of range is not feasible
  pub in_range : (s x : ℕ) → m.feasible s x ≡ true → (s < m.states) × (x < m.portfolios)
  -- every state has a feasible portfolio
  pub way_out : (s : ℕ) → s < m.states → (x : ℕ) × (m.feasible s x ≡ true)
  pub billed : (s x : ℕ) → m.feasible s x ≡ true → LawfulBill (m.bill s x)
  pub spread : (s x : ℕ) → m.feasible s x ≡ true → LawfulOutcomes m.states (m.outcomes s x)
