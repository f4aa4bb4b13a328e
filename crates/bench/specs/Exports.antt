-- What the calls answer.
use Rattle.std.specs.Prelude.{◌≡◌, ℕ, ◌<◌, ◌≤◌, ◌⊎◌, List, Ok, Err, Result}
use Rattle.interface.specs.Plants.{Model}
use Rattle.interface.specs.Rows.{Row}
use Rattle.interface.specs.Tariffs.{Scale}
use Rattle.tariffs.specs.AirFirst.{air_first_scale}
use Rattle.tariffs.specs.Priced.{most_rate, priced_scale}
use Rattle.tariffs.specs.Refusals.{number_of as tariff_number}
use Rattle.tariffs.specs.declared.refusal.Unpriced.TheVariants.{RateOutOfRange}
use Rattle.chain.specs.declared.plant.Chain.{Chain}
use Rattle.chaintext.specs.Counted.{CountedChain}
use Rattle.pair.specs.Pairs.{pair_model}
use Rattle.pair.specs.declared.numbers.PairNumbers.{PairNumbers}
use Rattle.pairtext.specs.Texts.{read_pair}
use Rattle.planner.specs.Refusals.{number_of as planner_number}
use Rattle.planner.specs.declared.refusal.Refusal.{Refusal}
use Rattle.reading.specs.Rules.{number_of}
use Rattle.reading.specs.declared.rules.ReadRefusal.{ReadRefusal}
use Rattle.bookkeeping.specs.Refusals.{number_of as book_number}
use Rattle.bookkeeping.specs.declared.refusal.Refusal.{Refusal as BookRefusal}
use Rattle.bench.specs.Asking.{asked_again}
use Rattle.bench.specs.Booking.{ComesTo}
use Rattle.bench.specs.Planning.{PlanMade, model_of, cost_row, dark_row}

-- 0 and the number that was found, or the number of a refusal and nothing written
abbrev pub Told : Result ℕ ℕ → ℕ → ℕ → ℕ → Type 0
Told (Ok d) before after r = (r ≡ 0) × (after ≡ d)
Told (Err n) before after r = (r ≡ n) × (after ≡ before)

-- what reading a chain from a text answers
abbrev pub ChainIn : List ℕ → Result Chain ReadRefusal → Type 0
ChainIn text r = (rest : List ℕ) × ((lines : ℕ) × CountedChain text 0 rest lines r)

-- a text is refused with this number
abbrev pub ChainRefused : List ℕ → ℕ → Type 0
ChainRefused text n = (e : ReadRefusal) × ChainIn text (Err e) × (n ≡ number_of e.rule)

abbrev pub AsksChain : List ℕ → ℕ → Result ℕ ℕ → Type 0
AsksChain text rounds (Ok d) = (c : Chain) × ChainIn text (Ok c) × (d ≡ asked_again (model_of c) rounds)
AsksChain text rounds (Err n) = ChainRefused text n

abbrev pub AsksPair : List ℕ → ℕ → Result ℕ ℕ → Type 0
AsksPair text rounds (Ok d) = (p : PairNumbers) × ((read_pair text 0).answer ≡ Ok p) × (d ≡ asked_again (pair_model p) rounds)
AsksPair text rounds (Err n) = (e : ReadRefusal) × ((read_pair text 0).answer ≡ Err e) × (n ≡ number_of e.rule)

-- no plan, for a reason with this number
abbrev pub PlanRefused : {A : Type 0} → (A → Row) → Model → Scale → ℕ → ℕ → Type 0
PlanRefused row m t sweeps n = (e : Refusal) × PlanMade row m t sweeps (Err e) × (n ≡ planner_number e)

-- the text is judged first, then the rate, then the planning
abbrev pub PlansPriced : List ℕ → ℕ → ℕ → Result ℕ ℕ → Type 0
PlansPriced text rate sweeps (Ok d) = (c : Chain) × ChainIn text (Ok c) × (rate ≤ most_rate) × PlanMade cost_row (model_of c) (priced_scale rate) sweeps (Ok d)
PlansPriced text rate sweeps (Err n) =
    ChainRefused text n
    ⊎ ((c : Chain) × ChainIn text (Ok c) × (((most_rate < rate) × (n ≡ tariff_number RateOutOfRange)) ⊎ ((rate ≤ most_rate) × PlanRefused cost_row (model_of c) (priced_scale rate) sweeps n)))

abbrev pub PlansAirFirst : List ℕ → ℕ → Result ℕ ℕ → Type 0
PlansAirFirst text sweeps (Ok d) = (c : Chain) × ChainIn text (Ok c) × PlanMade dark_row (model_of c) air_first_scale sweeps (Ok d)
PlansAirFirst text sweeps (Err n) = ChainRefused text n ⊎ ((c : Chain) × ChainIn text (Ok c) × PlanRefused dark_row (model_of c) air_first_scale sweeps n)

-- a book of so many windows; or the text is refused, or a call of the book
abbrev pub BooksChain : List ℕ → ℕ → Result ℕ ℕ → Type 0
BooksChain text windows (Ok d) = (c : Chain) × ChainIn text (Ok c) × ComesTo (model_of c) windows d
BooksChain text windows (Err n) = ChainRefused text n ⊎ ((c : Chain) × ChainIn text (Ok c) × ((e : BookRefusal) × (n ≡ book_number e)))
