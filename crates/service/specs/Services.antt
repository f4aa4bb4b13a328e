-- What an operator asks of a book that follows one policy beside one plant, and is told.
use Rattle.std.specs.Prelude.{◌≡◌, ℕ, Bool, true, false, ◌≤◌, ◌<◌, List, [], ◌∷◌, ◌++◌, length, Option, Some, None, option_map, All, ⊤}
use Rattle.certificate.specs.declared.finding.Finding.{Finding}
use Rattle.interface.specs.Plants.{Model}
use Rattle.interface.specs.Rows.{Row}
use Rattle.bookkeeping.specs.declared.stage.Stage.TheVariants.{Open}
use Rattle.bookkeeping.specs.Books.{Account, Book, opened, issued, on_air, account_of, held_by, fresh, aired}
use Rattle.bookkeeping.specs.Calls.{MayIssue, ordered}
use Rattle.bookkeeping.specs.Log.{Log, Call, issue, carry_out, report, Reply, goes_on, refused, noted_seconds, noted_cents}
use Rattle.bookkeeping.specs.Pasts.{Event, log_of}
use Rattle.bookkeeping.specs.LookingBack.{GoesOn}
use Rattle.following.specs.Promises.{GoesThrough, always}
use Rattle.bookkeeping.specs.Refusals.{number_of, place_of}
use Rattle.bookkeeping.specs.Standings.{book_of, asked, reply_of, fits}
use Rattle.bookkeeping.specs.declared.refusal.Refusal.{Refusal}
use Rattle.bookkeeping.specs.declared.standing.Answer.{Answer}
use Rattle.bookkeeping.specs.declared.standing.Call as asking
use Rattle.bookkeeping.specs.declared.standing.Standing.{Standing}

-- What is asked: a book in a state, an order by the policy, that it is carried out, an outcome to be reported.
pub data Ask : Type 0 where
  to_make : ℕ → Ask
  to_issue : Ask
  to_carry_out : Ask
  to_report : ℕ → Ask

-- What a book shows: its account, and the portfolio that it holds.
pub record Shown : Type 0 where
  pub account : Account
  pub held : Option ℕ

abbrev pub shown : Book → Shown
shown b = record { account = account_of b; held = held_by b }

-- What an operator is told: the reply, and what the book shows then, if there is one.
pub record Told : Type 0 where
  pub reply : Reply
  pub shown : Option Shown

-- What passes between an operator and the service: something is asked or told, or the finding is shown.
pub data Turn : Type 0 where
  asks : Ask → Turn
  tells : Told → Turn
  shows : Turn

-- Something is asked if a test says so, and nothing otherwise.
abbrev pub AsksIf : Ask → Bool → List Turn → List Turn → Type 0
AsksIf a true old new = new ≡ asks a ∷ old
AsksIf a false old new = new ≡ old

-- Something is asked of a number, if there is one.
abbrev pub AsksFor : (ℕ → Ask) → Option ℕ → List Turn → List Turn → Type 0
AsksFor ask None old new = new ≡ old
AsksFor ask (Some n) old new = new ≡ asks (ask n) ∷ old

-- What was asked by a call.
abbrev pub ask_of : Call → Ask
ask_of (issue m ps) = to_issue
ask_of carry_out = to_carry_out
ask_of (report m k) = to_report k

-- What a log shows: its notes counted, and their bills added up.
abbrev pub shown_by : Log → Shown
shown_by l = record {
  account = record { state = l.state; windows = length l.notes; seconds = noted_seconds l.notes; cents = noted_cents l.notes };
  held = option_map (λ n. n.portfolio) l.held;
}

-- The turns of a book that was made in a state and has this past, the newest first: each call is asked for and then told, with the reply and
-- the numbers of the log.
abbrev pub turns_of : ℕ → List Event → List Turn
turns_of first [] = tells (record { reply = goes_on Open; shown = Some (shown_by (log_of first [])) }) ∷ asks (to_make first) ∷ []
turns_of first (e ∷ es) =
    tells (record { reply = e.reply; shown = Some (shown_by (log_of first (e ∷ es))) }) ∷ asks (ask_of e.call) ∷ turns_of first es

-- A call that goes beside this plant by this policy.
abbrev pub IsBy : Model → List ℕ → Call → Type 0
IsBy m ps (issue p qs) = (p ≡ m) × (qs ≡ ps)
IsBy m ps carry_out = ⊤
IsBy m ps (report p k) = p ≡ m

abbrev pub AllBy : Model → List ℕ → List Event → Type 0
AllBy m ps [] = ⊤
AllBy m ps (e ∷ es) = IsBy m ps e.call × AllBy m ps es

-- The outcomes that were reported and accepted, the oldest first.
abbrev pub outcomes_in : List Event → List ℕ
outcomes_in [] = []
outcomes_in (e ∷ es) = outcomes_in es ++ outcome_in e.call e.reply
  where
    outcome_in : Call → Reply → List ℕ
    outcome_in (report m k) (goes_on s) = k ∷ []
    outcome_in c r = []

-- A book went through these outcomes by a policy, from where it was made on; or it is in the window behind them.
abbrev pub WentBy : Model → List ℕ → ℕ → List ℕ → Book → Type 0
WentBy m ps first ks (opened a) = GoesThrough m (always ps) 0 (fresh first) ks a
WentBy m ps first ks (issued o) =
    (a : Account) × GoesThrough m (always ps) 0 (fresh first) ks a × MayIssue m a ps × (o ≡ ordered m a ps)
WentBy m ps first ks (on_air w) =
    (a : Account) × GoesThrough m (always ps) 0 (fresh first) ks a × MayIssue m a ps × (w ≡ aired (ordered m a ps))

-- A book is asked for in a state that the plant does not have.
abbrev pub unknown_turns : List ℕ → List Turn
unknown_turns [] = []
unknown_turns (s ∷ ss) = tells (record { reply = refused 21 s; shown = None }) ∷ asks (to_make s) ∷ unknown_turns ss

-- From one moment to another an operator was refused a book in these states, none of which the plant has, and nothing else passed.
pub record NoneMade (m : Model) (from to : List Turn) : Type 0 where
  pub unknown : List ℕ
  pub none_known : All (λ s. m.states ≤ s) unknown
  pub turns : to ≡ unknown_turns unknown ++ from

-- From one moment to another a book was made beside a plant, in the first state asked for that the plant has, and follows a policy. What
-- passed is its whole past, each call beside this plant and each order by this policy, with the replies and the numbers of its log; and the
-- book went by the policy through the outcomes that were reported, which is what the cost bound speaks of.
pub record InService (m : Model) (ps : List ℕ) (from to : List Turn) (b : Book) : Type 0 where
  pub unmade : List Turn
  pub none_made : NoneMade m from unmade
  pub first : ℕ
  pub known : first < m.states
  pub events : List Event
  pub past : GoesOn first events b
  pub by : AllBy m ps events
  pub turns : to ≡ turns_of first events ++ unmade
  pub went : WentBy m ps first (outcomes_in events) b

-- What comes of a service: a book that is in it, or none.
abbrev pub Serves : Model → List ℕ → List Turn → List Turn → Option Book → Type 0
Serves m ps from to None = NoneMade m from to
Serves m ps from to (Some b) = InService m ps from to b

-- An operator is told an answer, and shown the book as it then is.
abbrev pub IsTold : Answer → Standing → List Turn → List Turn → Type 0
IsTold answer book old new = new ≡ tells (record { reply = reply_of answer; shown = Some (shown (book_of book)) }) ∷ old

-- An operator is told why no book is made.
abbrev pub IsToldRefusal : Refusal → List Turn → List Turn → Type 0
IsToldRefusal why old new = new ≡ tells (record { reply = refused (number_of why) (place_of why); shown = None }) ∷ old

-- A call is asked for: it fits the book, goes by this policy, and was the last thing asked; or nothing more is asked.
abbrev pub AsksCall : Book → List ℕ → Option asking.Call → List Turn → List Turn → Type 0
AsksCall b ps None old new = new ≡ old
AsksCall b ps (Some c) old new =
    (m : Model) → (fits b (asked m c) ≡ true) × IsBy m ps (asked m c) × (new ≡ asks (ask_of (asked m c)) ∷ old)

-- The rows of a finding: low, high, top and bottom.
abbrev pub rows_of : {A : Type 0} → (A → Row) → Finding A → List Row
rows_of row f = row f.low ∷ row f.high ∷ row f.top ∷ row f.bottom ∷ []

-- What held of rows before holds of them afterwards.
abbrev pub Keeps : (List Row → Type 0) → (List Row → Type 0) → Type 0
Keeps before after = (rows : List Row) → before rows → after rows
