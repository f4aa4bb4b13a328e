-- The reply in the words of the house: which texts are requests, and what they are answered with.
use Rattle.std.specs.Prelude.{◌≡◌, ℕ, ◌≤◌, ◌⊎◌, List, ◌++◌, Ok, Err}
use Rattle.interface.specs.Plants.{Model}
use Rattle.chain.specs.Chains.{chain_model}
use Rattle.chain.specs.declared.plant.Chain.{Chain}
use Rattle.chaintext.specs.Writing.{BeginsChain}
use Rattle.pair.specs.Pairs.{pair_model}
use Rattle.pair.specs.declared.plant.Pair.{Pair}
use Rattle.pairtext.specs.Writing.{BeginsPair}
use Rattle.planner.specs.Sweeps.{most_sweeps}
use Rattle.reading.specs.Written.{number_line}
use Rattle.reading.specs.declared.keys.Key.TheVariants.{Sweeps}
use Rattle.request.specs.declared.tariff.TariffChoice.{TariffChoice}
use Rattle.request.specs.Writing.{tariff_line, RateInRange}
use Rattle.reply.specs.declared.answer.Refusal.{Refusal}
use Rattle.reply.specs.declared.answer.Refusal.TheVariants.{Broken, BeyondReach}
use Rattle.reply.specs.Plans.{PlanFor, HaltsAt}
use Rattle.reply.specs.Replies.{Reply, scale_of}

-- the text begins with that of a chain, which is this plant, and this follows
pub record ChainFirst (text : List ℕ) (m : Model) (after : List ℕ) : Type 0 where
  pub chain : Chain
  pub begins : BeginsChain text chain.numbers after
  pub is : m ≡ chain_model chain.numbers chain.least

-- or with that of a pair
pub record PairFirst (text : List ℕ) (m : Model) (after : List ℕ) : Type 0 where
  pub pair : Pair
  pub begins : BeginsPair text pair.numbers after
  pub is : m ≡ pair_model pair.numbers

abbrev pub PlantFirst : List ℕ → Model → List ℕ → Type 0
PlantFirst text m after = ChainFirst text m after ⊎ PairFirst text m after

-- The text is a request: that of a plant, the line of a tariff, the line of the sweeps, and nothing else.
pub record IsRequest (text : List ℕ) (m : Model) (c : TariffChoice) (sweeps : ℕ) : Type 0 where
  pub plant : PlantFirst text m (tariff_line c ++ number_line Sweeps sweeps)
  pub rate : RateInRange c
  pub few : sweeps ≤ most_sweeps

-- what follows the plant in a request
pub record Tail (text : List ℕ) : Type 0 where
  pub tariff : TariffChoice
  pub sweeps : ℕ
  pub whole : text ≡ tariff_line tariff ++ number_line Sweeps sweeps
  pub rate : RateInRange tariff
  pub few : sweeps ≤ most_sweeps

-- the text is a request, whatever plant, tariff and sweeps it names
pub record SomeRequest (text : List ℕ) : Type 0 where
  pub plant : Model
  pub tariff : TariffChoice
  pub sweeps : ℕ
  pub request : IsRequest text plant tariff sweeps

-- a request, and its plan
pub record HasPlan (text reply : List ℕ) : Type 0 where
  pub plant : Model
  pub tariff : TariffChoice
  pub sweeps : ℕ
  pub request : IsRequest text plant tariff sweeps
  pub plan : PlanFor plant (scale_of tariff) sweeps reply

-- a request whose sweeps drive a value beyond reach
pub record HasNoPlan (text : List ℕ) : Type 0 where
  pub plant : Model
  pub tariff : TariffChoice
  pub sweeps : ℕ
  pub state : ℕ
  pub request : IsRequest text plant tariff sweeps
  pub halts : HaltsAt plant (scale_of tariff) sweeps state

abbrev pub RefusedLaw : List ℕ → Refusal → Type 0
RefusedLaw text (Broken e) = (m : Model) (c : TariffChoice) (sweeps : ℕ) → IsRequest text m c sweeps → ⊥
RefusedLaw text (BeyondReach line) = HasNoPlan text

-- Exactly the requests are answered by a plan, which is then theirs, or by the refusal of their sweeps.
abbrev pub ReplyLaw : List ℕ → Reply → Type 0
ReplyLaw text (Ok plan) = HasPlan text plan
ReplyLaw text (Err e) = RefusedLaw text e
