-- What a plan comes to as one number.
use Rattle.std.specs.Prelude.{◌≡◌, ℕ, List, [], ◌∷◌, map, Ok, Err, fold, Result}
use Rattle.std.specs.List.{slice_get}
use Rattle.interface.specs.Plants.{Model}
use Rattle.interface.specs.Rows.{Row}
use Rattle.interface.specs.Tariffs.{Scale}
use Rattle.interface.specs.declared.claims.Claims.{Claims}
use Rattle.tariffs.specs.declared.air_first.DarkThenCost.{DarkThenCost}
use Rattle.tariffs.specs.declared.priced.Cost.{Cost}
use Rattle.chain.specs.Chains.{chain_model}
use Rattle.chain.specs.declared.plant.Chain.{Chain}
use Rattle.planner.specs.Answers.{Tables, Level, Answer}
use Rattle.planner.specs.declared.refusal.Refusal.{Refusal}
use Rattle.bench.specs.Digests.{mix, with_place, in_turn}

-- so many places of a row, one after the other
abbrev pub with_row : ℕ → ℕ → Row → ℕ
with_row places d u = in_turn (λ i e. with_place e (slice_get u i)) places d

-- low, high, the values and the policy
abbrev pub plan_told : {A : Type 0} → (A → Row) → Scale → Claims A → List A → List ℕ → ℕ
plan_told row t c values policy = fold mix (fold (with_row t.places) (with_row t.places (with_row t.places 0 (row c.low)) (row c.high)) (map row values)) policy

-- the planner's answer, with the plan told as one number; b before, b' after
abbrev pub Plans : {A : Type 0} → (A → Row) → Model → Scale → ℕ → Tables A → Tables A → Result ℕ Refusal → Type 0
Plans {A} row m t n b b' (Ok d) = (c : Claims A) × Answer row m t n b b' (Ok c) × (d ≡ plan_told row t c b'.values b'.policy)
Plans row m t n b b' (Err e) = Answer row m t n b b' (Err e)

-- a plan, or its refusal, with some tables that have an entry for each state
abbrev pub PlanMade : {A : Type 0} → (A → Row) → Model → Scale → ℕ → Result ℕ Refusal → Type 0
PlanMade {A} row m t n r = (b : Tables A) × (b' : Tables A) × Level m b × Plans row m t n b b' r

-- what a chain means
abbrev pub model_of : Chain → Model
model_of c = chain_model c.numbers c.least

-- what an amount of each tariff stands for
abbrev pub cost_row : Cost → Row
cost_row a = a.thousandths ∷ []

abbrev pub dark_row : DarkThenCost → Row
dark_row a = a.dark ∷ a.cost ∷ []
