-- What a policy names for the state in which a book stands.
use Rattle.std.specs.Prelude.{◌≡◌, ℕ, ◌<◌, List, length}
use Rattle.interface.specs.Limits.{most_windows}
use Rattle.interface.specs.Plants.{Model, named}
use Rattle.bookkeeping.specs.declared.refusal.Refusal.{Refusal}
use Rattle.bookkeeping.specs.Books.{Account}
use Rattle.bookkeeping.specs.Calls.{IssueRefused}
use Rattle.bookkeeping.specs.Refusals.{number_of, place_of}

-- The policy's entry for the state of a book that has a window left, in a state of the plant, where the policy has one entry
-- for each state.
pub record EntryOf (m : Model) (a : Account) (ps : List ℕ) (x : ℕ) : Type 0 where
  pub room : a.windows < most_windows
  pub state : a.state < m.states
  pub policy : length ps ≡ m.states
  pub entry : x ≡ named ps a.state

-- Why there is no entry.
abbrev pub NoEntry : Model → Account → List ℕ → Refusal → Type 0
NoEntry m a ps r = IssueRefused m a ps (number_of r) (place_of r)
