-- What a request is answered with, from its kind to its end.
use Rattle.std.specs.Prelude.{◌≡◌, ℕ, ◌+◌, List, Ok, Err, vec_items, Result, Vec}
use Rattle.std.specs.declared.alloc.Global.{Global}
use Rattle.interface.specs.Plants.{Model}
use Rattle.interface.specs.Tariffs.{Scale}
use Rattle.tariffs.specs.AirFirst.{air_first_scale}
use Rattle.tariffs.specs.Priced.{priced_scale}
use Rattle.lines.specs.Line.{rest_at}
use Rattle.reading.specs.declared.rules.ReadRefusal.{ReadRefusal}
use Rattle.chain.specs.Chains.{chain_model}
use Rattle.chain.specs.declared.plant.Chain.{Chain}
use Rattle.chaintext.specs.Counted.{CountedChain}
use Rattle.chaintext.specs.Writing.{ReadsFrom, answered as chain_numbers}
use Rattle.pair.specs.Pairs.{pair_model}
use Rattle.pair.specs.declared.plant.Pair.{Pair}
use Rattle.pairtext.specs.Texts.{read_pair, answered as pair_numbers}
use Rattle.pairtext.specs.Writing.{ReadsPair}
use Rattle.request.specs.declared.kind.Kind.{Kind}
use Rattle.request.specs.declared.kind.Kind.TheVariants as kind
use Rattle.request.specs.declared.sweeps.SweepsLine.{SweepsLine}
use Rattle.request.specs.declared.tariff.TariffChoice.{TariffChoice}
use Rattle.request.specs.declared.tariff.TariffChoice.TheVariants as tariff
use Rattle.request.specs.Requests.{read_kind, read_tariff, read_sweeps, read_end}
use Rattle.reply.specs.declared.answer.Refusal.{Refusal}
use Rattle.reply.specs.declared.answer.Refusal.TheVariants.{Broken, BeyondReach}
use Rattle.reply.specs.declared.answer.Unanswered.{Unanswered}
use Rattle.reply.specs.declared.answer.Unanswered.TheVariants.{Refused, NoMemory}
use Rattle.reply.specs.Plans.{PlanFor, HaltsAt}

-- a reply: the text of a plan, or why there is none
abbrev pub Reply : Type 0
Reply = Result (List ℕ) Refusal

-- so is a request answered, or it finds no memory, and then this holds
abbrev pub Answered : (Reply → Type 0) → Type 0 → Result (Vec ℕ Global) Unanswered → Type 0
Answered Replies Wanting (Ok text) = Replies (Ok (vec_items text))
Answered Replies Wanting (Err (Refused e)) = Replies (Err e)
Answered Replies Wanting (Err NoMemory) = Wanting

-- what a tariff that a request names means
abbrev pub scale_of : TariffChoice → Scale
scale_of (tariff.Priced rate) = priced_scale rate
scale_of tariff.AirFirst = air_first_scale

-- the planner's refusal is placed at the line that names the number of sweeps
abbrev pub NoPlan : Model → Scale → SweepsLine → Refusal → Type 0
NoPlan m t s (Broken e) = ⊥
NoPlan m t s (BeyondReach line) = (line ≡ s.line) × ((state : ℕ) × HaltsAt m t s.count state)

-- the plan of a plant under a tariff, or that a sweep would leave a value beyond reach
abbrev pub PlansAs : Model → Scale → SweepsLine → Reply → Type 0
PlansAs m t s (Ok text) = PlanFor m t s.count text
PlansAs m t s (Err e) = NoPlan m t s e

-- a request whose text breaks a rule
abbrev pub BrokenBy : ReadRefusal → Reply → Type 0
BrokenBy e r = r ≡ Err (Broken e)

-- after the sweeps line nothing may follow
abbrev pub AtEnd : Model → TariffChoice → SweepsLine → Result (Unit {0}) ReadRefusal → Reply → Type 0
AtEnd m c s (Ok u) r = PlansAs m (scale_of c) s r
AtEnd m c s (Err e) r = BrokenBy e r

-- the sweeps line, and the text behind it, of which so many lines were read
abbrev pub AtSweeps : Model → TariffChoice → List ℕ → ℕ → Result SweepsLine ReadRefusal → Reply → Type 0
AtSweeps m c text place (Ok s) r = AtEnd m c s (read_end text place) r
AtSweeps m c text place (Err e) r = BrokenBy e r

-- the tariff line, and the text behind it
abbrev pub AtTariff : Model → List ℕ → ℕ → Result TariffChoice ReadRefusal → Reply → Type 0
AtTariff m text place (Ok c) r = AtSweeps m c (rest_at text) (place + 1) (read_sweeps text place) r
AtTariff m text place (Err e) r = BrokenBy e r

-- the text behind a plant, of which so many lines were read
abbrev pub BehindPlant : Model → List ℕ → ℕ → Reply → Type 0
BehindPlant m text place r = AtTariff m (rest_at text) (place + 1) (read_tariff text place) r

-- a chain that was read, and the text behind it
abbrev pub AtChain : List ℕ → ℕ → Result Chain ReadRefusal → Reply → Type 0
AtChain text place (Ok c) r = BehindPlant (chain_model c.numbers c.least) text place r
AtChain text place (Err e) r = BrokenBy e r

-- what is read of the text as a chain, and the reply to that
pub record RepliesToChain (text : List ℕ) (r : Reply) : Type 0 where
  pub answer : Result Chain ReadRefusal
  pub rest : List ℕ
  pub place : ℕ
  pub reads : CountedChain text 0 rest place answer
  pub law : ReadsFrom text (chain_numbers answer) rest
  pub replies : AtChain rest place answer r

-- a pair that was read, and the text behind it
abbrev pub AtPair : List ℕ → ℕ → Result Pair ReadRefusal → Reply → Type 0
AtPair text place (Ok p) r = BehindPlant (pair_model p.numbers) text place r
AtPair text place (Err e) r = BrokenBy e r

-- what is read of the text as a pair, and the reply to that
pub record RepliesToPair (text : List ℕ) (r : Reply) : Type 0 where
  pub answer : Result Pair ReadRefusal
  pub rest : List ℕ
  pub place : ℕ
  pub reads : pair_numbers answer ≡ (read_pair text 0).answer
  pub left : rest ≡ (read_pair text 0).rest
  pub count : place ≡ (read_pair text 0).place
  pub law : ReadsPair text (pair_numbers answer) rest
  pub replies : AtPair rest place answer r

-- by the kind that the first line names
abbrev pub AtKind : List ℕ → Result Kind ReadRefusal → Reply → Type 0
AtKind text (Ok kind.Chain) r = RepliesToChain text r
AtKind text (Ok kind.Pair) r = RepliesToPair text r
AtKind text (Err e) r = BrokenBy e r

abbrev pub RepliesTo : List ℕ → Reply → Type 0
RepliesTo text r = AtKind text (read_kind text) r
