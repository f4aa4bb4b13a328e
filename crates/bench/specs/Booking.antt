-- What a book comes to as one number, window after window.
use Rattle.std.specs.Prelude.{ℕ, zero, suc, ◌/◌, ◌%◌, ◌^◌, ◌-◌, List, length, max, replicate, take}
use Rattle.interface.specs.Limits.{most_states}
use Rattle.interface.specs.Plants.{Model, outcomes_of}
use Rattle.bookkeeping.specs.Books.{Account, Airing, fresh, aired}
use Rattle.bookkeeping.specs.Calls.{MayIssue, ordered, Reported}
use Rattle.bench.specs.Digests.{mix}

-- the outcome that is drawn by the number so far: its upper half, by the number of outcomes
abbrev pub drawn : Model → Airing → ℕ → ℕ
drawn m w d = (d / 2 ^ 33) % max (length (outcomes_of m w.account.state w.portfolio)) 1

-- the number with what a book shows after one more window
abbrev pub with_account : ℕ → Account → ℕ
with_account d a = mix (mix (mix d a.state) a.seconds) a.cents

-- one such window
pub record Window (m : Model) (ps : List ℕ) (a : Account) (d : ℕ) (b : Account) : Type 0 where
  pub may : MayIssue m a ps
  pub reported : Reported m (aired (ordered m a ps)) (drawn m (aired (ordered m a ps)) d) b

-- So many windows by a policy take a new book from state 0 to an account, and come to a number.
pub data Books (m : Model) (ps : List ℕ) : ℕ → Account → ℕ → Type 0 where
  begins : Books m ps zero (fresh 0) 0
  goes_on : {n : ℕ} {a : Account} {d : ℕ} (b : Account) → Books m ps n a d → Window m ps a d b → Books m ps (suc n) b (with_account d b)

-- the policy that renews everything always
abbrev pub everything : Model → List ℕ
everything m = take m.states (replicate most_states (m.portfolios - 1))

-- so many windows by that policy come to this number
abbrev pub ComesTo : Model → ℕ → ℕ → Type 0
ComesTo m n d = (a : Account) × Books m (everything m) n a d
