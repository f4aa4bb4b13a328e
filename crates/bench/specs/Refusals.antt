-- Why a call answers no number, and an answer with the refusal as its number.
use Rattle.std.specs.Prelude.{ℕ, Ok, Err, Result}
use Rattle.bench.specs.declared.refusal.Refused.{Refused}
use Rattle.bench.specs.declared.refusal.Refused.TheVariants.{Text, Rate, Plan, Book}
use Rattle.bookkeeping.specs.Refusals.{number_of as book_number}
use Rattle.planner.specs.Refusals.{number_of as planner_number}
use Rattle.reading.specs.Rules.{number_of as reading_number}
use Rattle.tariffs.specs.Refusals.{number_of as tariff_number}

abbrev pub number_of : Refused → ℕ
number_of (Text e) = reading_number e.rule
number_of (Rate e) = tariff_number e
number_of (Plan e) = planner_number e
number_of (Book e) = book_number e

abbrev pub numbered : Result ℕ Refused → Result ℕ ℕ
numbered (Ok d) = Ok d
numbered (Err e) = Err (number_of e)
