-- What each call of a book needs, what it gives, and as which number and at which place it is refused.
use Rattle.std.specs.Prelude.{◌≡◌, ◌≢◌, ℕ, ◌<◌, ◌≤◌, true, false, List, length, Some, slice_get}
use Rattle.interface.specs.declared.plant.Outcome.{Outcome}
use Rattle.interface.specs.Limits.{most_windows}
use Rattle.interface.specs.Plants.{Model, named, outcomes_of}
use Rattle.bookkeeping.specs.Books.{Account, Order, Airing, moved}

-- A book is made in a state of the plant, and refused in any other.
pub data MakeRefused (m : Model) (s : ℕ) : ℕ → ℕ → Type 0 where
  no_state : m.states ≤ s → MakeRefused m s 21 s

-- An order may be issued: a window is left, the book stands in a state of the plant, the policy has an entry for each of its
-- states, and the entry for this one is feasible.
pub record MayIssue (m : Model) (a : Account) (ps : List ℕ) : Type 0 where
  pub room : a.windows < most_windows
  pub state : a.state < m.states
  pub policy : length ps ≡ m.states
  pub feasible : m.feasible a.state (named ps a.state) ≡ true

-- The order that a policy makes of an account.
abbrev pub ordered : Model → Account → List ℕ → Order
ordered m a ps = record { account = a; portfolio = named ps a.state; bill = m.bill a.state (named ps a.state) }

-- An issue is refused, with its number and its place: no window is left; the plant has no such state; the policy is of another
-- length; its entry for the state is not feasible.
pub data IssueRefused (m : Model) (a : Account) (ps : List ℕ) : ℕ → ℕ → Type 0 where
  full : most_windows ≤ a.windows → IssueRefused m a ps 24 0
  no_state : a.windows < most_windows → m.states ≤ a.state → IssueRefused m a ps 21 a.state
  wrong_length : a.windows < most_windows → a.state < m.states → length ps ≢ m.states → IssueRefused m a ps 7 0
  infeasible : a.windows < most_windows → a.state < m.states → length ps ≡ m.states
      → m.feasible a.state (named ps a.state) ≡ false → IssueRefused m a ps 22 a.state

-- Outcome k of what was carried out, as the plant has it.
pub record Reported (m : Model) (w : Airing) (k : ℕ) (a : Account) : Type 0 where
  pub outcome : Outcome
  pub there : slice_get (outcomes_of m w.account.state w.portfolio) k ≡ Some outcome
  pub moves : a ≡ moved w.account outcome.next

-- An outcome may be reported: the plant allows what was carried out, and has an outcome of this number.
pub record MayReport (m : Model) (w : Airing) (k : ℕ) : Type 0 where
  pub feasible : m.feasible w.account.state w.portfolio ≡ true
  pub outcome : k < length (outcomes_of m w.account.state w.portfolio)

-- A report is refused: the plant does not allow what was carried out, or has no outcome of this number.
pub data ReportRefused (m : Model) (w : Airing) (k : ℕ) : ℕ → ℕ → Type 0 where
  not_allowed : m.feasible w.account.state w.portfolio ≡ false → ReportRefused m w k 21 w.account.state
  no_outcome : m.feasible w.account.state w.portfolio ≡ true → length (outcomes_of m w.account.state w.portfolio) ≤ k
      → ReportRefused m w k 23 k
