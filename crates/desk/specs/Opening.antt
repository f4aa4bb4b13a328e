-- What comes of a request that is followed at a desk.
use Rattle.std.specs.Prelude.{◌≡◌, ℕ, ◌≤◌, List, [], ◌∷◌, ◌++◌, Option, Ok, Err, Result}
use Rattle.bookkeeping.specs.Books.{Book}
use Rattle.certificate.specs.Certificates.{Sound, Top, Bottom}
use Rattle.certificate.specs.ExactClaims.{Tightest}
use Rattle.following.specs.Promises.{Promise, always}
use Rattle.interface.specs.Plants.{Model}
use Rattle.interface.specs.Rows.{Row}
use Rattle.interface.specs.Tariffs.{Scale}
use Rattle.planner.specs.Plans.{PlanAfter}
use Rattle.planner.specs.Sweeps.{most_sweeps}
use Rattle.reading.specs.Written.{number_line}
use Rattle.reading.specs.declared.keys.Key.TheVariants.{Sweeps}
use Rattle.request.specs.declared.tariff.TariffChoice.{TariffChoice}
use Rattle.request.specs.Writing.{tariff_line, RateInRange}
use Rattle.reply.specs.declared.answer.Unanswered.{Unanswered}
use Rattle.reply.specs.declared.answer.Unanswered.TheVariants.{Refused, NoMemory}
use Rattle.reply.specs.Laws.{IsRequest}
use Rattle.reply.specs.Replies.{Reply, scale_of}
use Rattle.service.specs.Services.{Serves, shows}
use Rattle.desk.specs.Histories.{newest}
use Rattle.desk.specs.Talks.{Talk, turns_in, shows_in, WasShown}

-- A plan after so many sweeps was followed in a talk: it is a sound certificate, its claims are the tightest that the check accepts, no rival
-- costs less than they allow, its finding was shown, and what then passed is the whole past of a book, and its log, if one was made.
pub record Followed (m : Model) (t : Scale) (sweeps : ℕ) (talk : Talk) : Type 0 where
  pub values : List Row
  pub policy : List ℕ
  pub low : Row
  pub high : Row
  pub top : Row
  pub bottom : Row
  pub book : Option Book
  pub plan : PlanAfter m t sweeps values policy low high
  pub sound : Sound m t values policy low high
  pub greatest : Top m t values top
  pub least : Bottom m t values bottom
  pub tightest : Tightest m t values policy low high
  pub bound : Promise m t (always policy) low high top bottom
  pub shown : WasShown (newest shows_in talk) (low ∷ high ∷ top ∷ bottom ∷ [])
  pub past : Serves m policy (shows ∷ []) (newest turns_in talk) book

-- So is the plan of a plant, by the tariff and the number of sweeps that stand behind it.
pub record FollowedBehind (m : Model) (text : List ℕ) (talk : Talk) : Type 0 where
  pub tariff : TariffChoice
  pub sweeps : ℕ
  pub whole : text ≡ tariff_line tariff ++ number_line Sweeps sweeps
  pub rate : RateInRange tariff
  pub few : sweeps ≤ most_sweeps
  pub followed : Followed m (scale_of tariff) sweeps talk

-- The text is a request, and its plan was followed.
pub record FollowedText (text : List ℕ) (talk : Talk) : Type 0 where
  pub plant : Model
  pub tariff : TariffChoice
  pub sweeps : ℕ
  pub request : IsRequest text plant tariff sweeps
  pub followed : Followed plant (scale_of tariff) sweeps talk

-- A desk was opened, and this holds of it; or it was not, for the refusal that is the reply to the request, or for want of memory.
abbrev pub Opened : {D : Type 0} → (Reply → Type 0) → Type 0 → (D → Type 0) → Result D Unanswered → Type 0
Opened Replies Wanting Holds (Ok desk) = Holds desk
Opened Replies Wanting Holds (Err (Refused e)) = Replies (Err e)
Opened Replies Wanting Holds (Err NoMemory) = Wanting
