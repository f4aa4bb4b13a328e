-- The plan that a service goes by.
use Rattle.std.specs.Prelude.{ℕ, List, ◌∷◌, map, Ok, Err, Result, Option, option_map}
use Rattle.interface.specs.Plants.{Model}
use Rattle.interface.specs.Rows.{Row}
use Rattle.interface.specs.Tariffs.{Scale}
use Rattle.interface.specs.declared.claims.Claims.{Claims}
use Rattle.certificate.specs.Certificates.{Sound, Top, Bottom}
use Rattle.certificate.specs.ExactClaims.{Tightest}
use Rattle.certificate.specs.Findings.{Accepts}
use Rattle.planner.specs.Answers.{Answer, Tables}
use Rattle.planner.specs.declared.refusal.Refusal.{Refusal}
use Rattle.following.specs.Promises.{Promised}
use Rattle.bookkeeping.specs.Books.{Book}
use Rattle.bookkeeping.specs.Standings.{book_of}
use Rattle.service.specs.Services.{Turn, Serves, shows}
use Rattle.service.specs.declared.serve.Served.{Served}

abbrev pub book_in : {A : Type 0} → Served A → Option Book
book_in s = option_map book_of s.book

-- All that is promised of a service: its plan is a certificate that the check accepts, with this finding; its claims are the tightest that the
-- check accepts of this table and policy; no rival costs less than the finding allows; and what passes after the finding was shown,
-- from one moment to another, is the whole past of the book, and its log.
pub record AllPromised {A : Type 0} (row : A → Row) (m : Model) (t : Scale) (b : Tables A) (from to : List Turn) (s : Served A) : Type 0 where
  pub sound : Sound m t (map row b.values) b.policy (row s.finding.low) (row s.finding.high)
  pub accepted : Accepts row m t (map row b.values) b.policy s.finding.low s.finding.high
  pub top : Top m t (map row b.values) (row s.finding.top)
  pub bottom : Bottom m t (map row b.values) (row s.finding.bottom)
  pub tightest : Tightest m t (map row b.values) b.policy (row s.finding.low) (row s.finding.high)
  pub bound : Promised row m t b.policy s.finding
  pub past : Serves m b.policy (shows ∷ from) to (book_in s)

-- The planner's answer for a service that was taken up with its claims, or refused as the planner refuses.
abbrev pub claimed : {A : Type 0} → Result (Served A) Refusal → Result (Claims A) Refusal
claimed (Ok s) = Ok (record { low = s.finding.low; high = s.finding.high })
claimed (Err e) = Err e

-- The plan of a service, or why there is none, and what the three tables hold then: b before, b' after.
abbrev pub PlannedAs : {A : Type 0} → (A → Row) → Model → Scale → ℕ → Tables A → Tables A → Result (Served A) Refusal → Type 0
PlannedAs row m t n b b' r = Answer row m t n b b' (claimed r)
