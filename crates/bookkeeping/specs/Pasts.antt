-- The whole past of a book.
use Rattle.std.specs.Prelude.{◌≡◌, ℕ, ◌<◌, List, [], ◌∷◌, Some, ⊤}
use Rattle.interface.specs.Plants.{Model, Lawful}
use Rattle.bookkeeping.specs.declared.stage.Stage.TheVariants.{Open, Issued, OnAir}
use Rattle.bookkeeping.specs.Books.{Account, Order, Airing, Book, opened, issued, on_air, fresh, aired}
use Rattle.bookkeeping.specs.Calls.{MayIssue, ordered, IssueRefused, Reported, ReportRefused}
use Rattle.bookkeeping.specs.Log.{Log, start, Call, issue, carry_out, report, Reply, goes_on, refused, reply, after}

-- One call of a book, with what it was told.
pub record Event : Type 0 where
  pub call : Call
  pub reply : Reply

-- The past of a book from the state in which it was made: each call with its reply, the newest first, and the book that they
-- leave. A book is made in a state of some plant, and is never anything but what its calls make of it, whatever plant
-- each of them goes beside.
pub data Past (first : ℕ) : List Event → Book → Type 0 where
  made : (m : Model) → Lawful m → first < m.states → Past first [] (opened (fresh first))
  was_issued : {es : List Event} {a : Account} (m : Model) (ps : List ℕ)
      → Past first es (opened a) → Lawful m → MayIssue m a ps
      → Past first (record { call = issue m ps; reply = goes_on Issued } ∷ es) (issued (ordered m a ps))
  issue_was_refused : {es : List Event} {a : Account} (m : Model) (ps : List ℕ) (n p : ℕ)
      → Past first es (opened a) → Lawful m → IssueRefused m a ps n p
      → Past first (record { call = issue m ps; reply = refused n p } ∷ es) (opened a)
  was_carried_out : {es : List Event} {o : Order}
      → Past first es (issued o)
      → Past first (record { call = carry_out; reply = goes_on OnAir } ∷ es) (on_air (aired o))
  was_reported : {es : List Event} {w : Airing} (m : Model) (k : ℕ) (a : Account)
      → Past first es (on_air w) → Lawful m → Reported m w k a
      → Past first (record { call = report m k; reply = goes_on Open } ∷ es) (opened a)
  report_was_refused : {es : List Event} {w : Airing} (m : Model) (k n p : ℕ)
      → Past first es (on_air w) → Lawful m → ReportRefused m w k n p
      → Past first (record { call = report m k; reply = refused n p } ∷ es) (on_air w)

-- The log that is fed the calls of a past.
abbrev pub log_of : ℕ → List Event → Log
log_of first [] = start first
log_of first (e ∷ es) = after (log_of first es) e.call

-- Each reply is the log's.
abbrev pub EachAnswered : ℕ → List Event → Type 0
EachAnswered first [] = ⊤
EachAnswered first (e ∷ es) = (reply (log_of first es) e.call ≡ Some e.reply) × EachAnswered first es
