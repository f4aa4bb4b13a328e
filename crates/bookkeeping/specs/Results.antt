-- What the result of a call says: which refusal it is, what the call was told, and the book that it gives.
use Rattle.std.specs.Prelude.{◌≡◌, ℕ, List, Ok, Err, Result}
use Rattle.interface.specs.Plants.{Model}
use Rattle.bookkeeping.specs.declared.refusal.Refusal.{Refusal}
use Rattle.bookkeeping.specs.declared.refusal.Refused.{Refused}
use Rattle.bookkeeping.specs.declared.stage.Stage.{Stage}
use Rattle.bookkeeping.specs.declared.stage.Stage.TheVariants.{Open, Issued, OnAir}
use Rattle.bookkeeping.specs.Books.{Account, Order, Airing, Book, opened, issued, on_air}
use Rattle.bookkeeping.specs.Log.{issue, carry_out, report, Reply, goes_on, refused}
use Rattle.bookkeeping.specs.Pasts.{Event}
use Rattle.bookkeeping.specs.Refusals.{number_of, place_of}

-- No book was made, for the reason of this number and place.
abbrev pub IsNotMade : {A : Type 0} → Result A Refusal → ℕ → ℕ → Type 0
IsNotMade (Ok a) n p = ⊥
IsNotMade (Err r) n p = (number_of r ≡ n) × (place_of r ≡ p)

-- A call was refused, as this number and at this place.
abbrev pub IsRefused : {A B : Type 0} → Result A (Refused B) → ℕ → ℕ → Type 0
IsRefused (Ok a) n p = ⊥
IsRefused (Err r) n p = (number_of r.why ≡ n) × (place_of r.why ≡ p)

-- What a call was told that leads to this stage if it is done.
abbrev pub told : {A B : Type 0} → Stage → Result A (Refused B) → Reply
told s (Ok a) = goes_on s
told s (Err r) = refused (number_of r.why) (place_of r.why)

-- An issue, a carry-out and a report as events.
abbrev pub issue_event : Model → List ℕ → Result Order (Refused Account) → Event
issue_event m ps r = record { call = issue m ps; reply = told Issued r }

abbrev pub carry_out_event : Event
carry_out_event = record { call = carry_out; reply = goes_on OnAir }

abbrev pub report_event : Model → ℕ → Result Account (Refused Airing) → Event
report_event m k r = record { call = report m k; reply = told Open r }

-- The book that an issue gives, and that a report gives: the next one, or the one that was refused.
abbrev pub after_issue : Result Order (Refused Account) → Book
after_issue (Ok o) = issued o
after_issue (Err r) = opened r.book

abbrev pub after_report : Result Account (Refused Airing) → Book
after_report (Ok a) = opened a
after_report (Err r) = on_air r.book
