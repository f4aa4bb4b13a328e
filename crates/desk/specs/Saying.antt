-- The lines in which the desk answers.
use Rattle.std.specs.Prelude.{ℕ, List, [], ◌∷◌, ◌++◌, Option, Some, None, codes, decimal}
use Rattle.bookkeeping.specs.declared.stage.Stage.{Stage}
use Rattle.bookkeeping.specs.declared.stage.Stage.TheVariants as stage
use Rattle.bookkeeping.specs.Books.{Account, account}
use Rattle.bookkeeping.specs.Log.{Reply, goes_on, refused}
use Rattle.bookkeeping.specs.Refusals.{number_of, place_of}
use Rattle.bookkeeping.specs.Standings.{reply_of}
use Rattle.interface.specs.Rows.{Row}
use Rattle.lines.specs.Fields.{comma}
use Rattle.plantext.specs.Lines.{line, amount}
use Rattle.service.specs.Services as service
use Rattle.desk.specs.declared.saying.Claim.{Claim}
use Rattle.desk.specs.declared.saying.Claim.TheVariants.{Low, High, Top, Bottom}
use Rattle.desk.specs.declared.saying.FindingLines.{FindingLines}
use Rattle.desk.specs.declared.saying.Shown.{Shown}
use Rattle.desk.specs.declared.saying.Told.{Told}
use Rattle.desk.specs.declared.saying.Told.TheVariants.{NotMade, Answered}

abbrev pub claim_key : Claim → List ℕ
claim_key Low = codes "low"
claim_key High = codes "high"
claim_key Top = codes "top"
claim_key Bottom = codes "bottom"

-- The line of an amount.
abbrev pub claim_line : Claim → Row → List ℕ
claim_line c u = line (claim_key c) (amount u)

-- A number with a comma before it.
abbrev pub further : ℕ → List ℕ
further n = comma ∷ decimal n

-- The state, the windows, the seconds and the cents, with a comma between each two.
abbrev pub account_text : Account → List ℕ
account_text a = decimal a.state ++ (further a.windows ++ (further a.seconds ++ further a.cents))

-- Behind them the portfolio that is held, if there is one.
abbrev pub held_text : Option ℕ → List ℕ
held_text None = []
held_text (Some x) = further x

abbrev pub shown_text : service.Shown → List ℕ
shown_text s = account_text s.account ++ held_text s.held

-- room for that
abbrev pub shown_room : ℕ
shown_room = 79

abbrev pub stage_key : Stage → List ℕ
stage_key stage.Open = codes "open"
stage_key stage.Issued = codes "issued"
stage_key stage.OnAir = codes "on-air"

-- The line of a book at a stage.
abbrev pub book_line : Stage → service.Shown → List ℕ
book_line stage s = line (stage_key stage) (shown_text s)

-- The line of a refusal: the number of the reason, and the place.
abbrev pub refusal_line : ℕ → ℕ → List ℕ
refusal_line n p = line (codes "refused") (decimal n ++ further p)

-- The line in which it is told what came of a call: of a refusal the number and the place, else what the book shows.
abbrev pub reply_line : Reply → Option service.Shown → List ℕ
reply_line (refused n p) shown = refusal_line n p
reply_line (goes_on stage) (Some s) = book_line stage s
reply_line (goes_on stage) None = line (stage_key stage) []

abbrev pub told_line : service.Told → List ℕ
told_line t = reply_line t.reply t.shown

-- What is shown and told, in the words of the service.
abbrev pub shown_of : Shown → service.Shown
shown_of s = record { account = account s.state s.windows s.seconds s.cents; held = s.portfolio }

abbrev pub told_of : Told → service.Told
told_of (NotMade why) = record { reply = refused (number_of why) (place_of why); shown = None }
told_of (Answered answer s) = record { reply = reply_of answer; shown = Some (shown_of s) }

-- The lines of a finding, the newest first: bottom, top, high, low.
abbrev pub lines_of : FindingLines → List (List ℕ)
lines_of f = f.bottom.bytes.items ∷ f.top.bytes.items ∷ f.high.bytes.items ∷ f.low.bytes.items ∷ []

-- So as they are written of rows, which are those of low, high, top and bottom.
abbrev pub finding_lines : List Row → List (List ℕ)
finding_lines (low ∷ high ∷ top ∷ bottom ∷ []) = claim_line Bottom bottom ∷ claim_line Top top ∷ claim_line High high ∷ claim_line Low low ∷ []
finding_lines rows = []
