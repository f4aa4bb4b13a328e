-- How following a policy through a list of outcomes ends.
use Rattle.std.specs.Prelude.{ℕ, ◌+◌, ◌<◌, ◌≤◌, List, [], ◌∷◌, length, take, get_or, Option, Some, None}
use Rattle.interface.specs.Limits.{most_windows}
use Rattle.interface.specs.Plants.{Model}
use Rattle.bookkeeping.specs.declared.refusal.Refusal.{Refusal}
use Rattle.bookkeeping.specs.declared.stage.Stage.TheVariants.{Open, Issued, OnAir}
use Rattle.bookkeeping.specs.Books.{Account, Book, opened, on_air, aired}
use Rattle.bookkeeping.specs.Calls.{MayIssue, ordered, IssueRefused, Reported, ReportRefused}
use Rattle.bookkeeping.specs.LookingBack.{GoesOn}
use Rattle.bookkeeping.specs.Log.{issue, carry_out, report, goes_on, refused}
use Rattle.bookkeeping.specs.Pasts.{Event, Past}
use Rattle.bookkeeping.specs.Refusals.{number_of, place_of}
use Rattle.following.specs.Rules.{CanMeet}
use Rattle.following.specs.Promises.{by_policies, always, GoesThrough}

-- A window went through: ordered, carried out, and its outcome reported.
pub record WentThrough (m : Model) (ps : List ℕ) (a : Account) (k : ℕ) (b : Account) : Type 0 where
  pub may : MayIssue m a ps
  pub reported : Reported m (aired (ordered m a ps)) k b

-- A window did not: its order was refused, and the book stays open; or it was carried out, its outcome was refused, and the book
-- stays on air.
pub data WindowRefused (m : Model) (ps : List ℕ) (a : Account) (k : ℕ) : Book → Refusal → Type 0 where
  not_issued : {r : Refusal} → IssueRefused m a ps (number_of r) (place_of r) → WindowRefused m ps a k (opened a) r
  not_reported : {r : Refusal} → MayIssue m a ps → ReportRefused m (aired (ordered m a ps)) k (number_of r) (place_of r)
      → WindowRefused m ps a k (on_air (aired (ordered m a ps))) r

-- The number of windows that went through, the book that they leave, and what was refused: all went through, and the book is open
-- behind the last; or so many did, and the next window was refused.
pub data Ends (m : Model) (ps : List ℕ) (a : Account) (ks : List ℕ) : ℕ → Book → Option Refusal → Type 0 where
  through : {b : Account} → GoesThrough m (always ps) 0 a ks b → Ends m ps a ks (length ks) (opened b) None
  stopped : {n : ℕ} {b : Account} {c : Book} {r : Refusal} → n < length ks → GoesThrough m (always ps) 0 a (take n ks) b
      → WindowRefused m ps b (get_or ks n 0) c r → Ends m ps a ks n c (Some r)

-- A list that a book can meet by a policy, with room for it.
pub record CanGo (m : Model) (ps : List ℕ) (a : Account) (ks : List ℕ) : Type 0 where
  pub state : a.state < m.states
  pub room : a.windows + length ks ≤ most_windows
  pub meets : CanMeet m (by_policies (always ps)) [] a.state ks

-- The calls of windows, on top of those before, the newest first.
abbrev pub carried : Model → List ℕ → List Event → List Event
carried m ps es =
    record { call = carry_out; reply = goes_on OnAir } ∷ record { call = issue m ps; reply = goes_on Issued } ∷ es

abbrev pub windows : Model → List ℕ → List ℕ → List Event → List Event
windows m ps [] es = es
windows m ps (k ∷ ks) es = windows m ps ks (record { call = report m k; reply = goes_on Open } ∷ carried m ps es)

-- The calls of a window that was refused, by the stage in which it left the book.
abbrev pub last_calls : Model → List ℕ → ℕ → Book → Option Refusal → List Event → List Event
last_calls m ps k b None es = es
last_calls m ps k (on_air w) (Some r) es =
    record { call = report m k; reply = refused (number_of r) (place_of r) } ∷ carried m ps es
last_calls m ps k b (Some r) es = record { call = issue m ps; reply = refused (number_of r) (place_of r) } ∷ es

-- The calls of a following that ended so.
abbrev pub calls : Model → List ℕ → List ℕ → ℕ → Book → Option Refusal → List Event → List Event
calls m ps ks n b r es = last_calls m ps (get_or ks n 0) b r (windows m ps (take n ks) es)

-- Whatever past led to the book that was given goes on by these calls to the book that is left.
abbrev pub Follows : Model → List ℕ → Account → List ℕ → ℕ → Book → Option Refusal → Type 0
Follows m ps a ks n b r = (first : ℕ) (es : List Event) → Past first es (opened a) → GoesOn first (calls m ps ks n b r es) b
