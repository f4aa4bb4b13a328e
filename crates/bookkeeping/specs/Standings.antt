-- A book at any stage, and one call of it.
use Rattle.std.specs.Prelude.{◌≡◌, Bool, true, false, Option, Some, None}
use Rattle.interface.specs.Plants.{Model}
use Rattle.bookkeeping.specs.declared.stage.Stage.TheVariants as stage
use Rattle.bookkeeping.specs.declared.standing.Standing.{Standing}
use Rattle.bookkeeping.specs.declared.standing.Standing.TheVariants.{Open, Issued, OnAir}
use Rattle.bookkeeping.specs.declared.standing.Call as asking
use Rattle.bookkeeping.specs.declared.standing.Call.TheVariants.{Issue, CarryOut, Report}
use Rattle.bookkeeping.specs.declared.standing.Answer.{Answer}
use Rattle.bookkeeping.specs.declared.standing.Answer.TheVariants.{Next, Refused}
use Rattle.bookkeeping.specs.Books.{Account, Book, opened, issued, on_air, aired}
use Rattle.bookkeeping.specs.Calls.{MayIssue, ordered, IssueRefused, MayReport, Reported, ReportRefused}
use Rattle.bookkeeping.specs.Log.{Call, issue, carry_out, report, Reply, goes_on, refused}
use Rattle.bookkeeping.specs.Pasts.{Event}
use Rattle.bookkeeping.specs.Refusals.{number_of, place_of}

abbrev pub book_of : Standing → Book
book_of (Open a) = opened a
book_of (Issued o) = issued o
book_of (OnAir w) = on_air w

-- A call as it is asked beside a plant.
abbrev pub asked : Model → asking.Call → Call
asked m (Issue ps) = issue m ps.now
asked m CarryOut = carry_out
asked m (Report k) = report m k

abbrev pub reply_of : Answer → Reply
reply_of (Next s) = goes_on s
reply_of (Refused r) = refused (number_of r) (place_of r)

-- Whether a call fits a book's stage: an order for an open book, a carry-out for an issued one, a report for one on air.
abbrev pub fits : Book → Call → Bool
fits (opened a) (issue m ps) = true
fits (issued o) carry_out = true
fits (on_air w) (report m k) = true
fits b c = false

-- What a call that fits is told, and the book that it leaves.
abbrev pub Gives : Book → Call → Reply → Book → Type 0
Gives (opened a) (issue m ps) (goes_on s) b = MayIssue m a ps × (s ≡ stage.Issued) × (b ≡ issued (ordered m a ps))
Gives (opened a) (issue m ps) (refused n p) b = IssueRefused m a ps n p × (b ≡ opened a)
Gives (issued o) carry_out (goes_on s) b = (s ≡ stage.OnAir) × (b ≡ on_air (aired o))
Gives (on_air w) (report m k) (goes_on s) b =
    MayReport m w k × (s ≡ stage.Open) × ((a : Account) × Reported m w k a × (b ≡ opened a))
Gives (on_air w) (report m k) (refused n p) b = ReportRefused m w k n p × (b ≡ on_air w)
Gives b c r d = ⊥

-- A call that does not fit has no answer and leaves the book as it is.
abbrev pub Answered : Book → Call → Option Answer → Book → Type 0
Answered b c None d = (fits b c ≡ false) × (d ≡ b)
Answered b c (Some a) d = Gives b c (reply_of a) d

-- A call with its answer, as an event.
abbrev pub event_of : Call → Answer → Event
event_of c a = record { call = c; reply = reply_of a }
