-- The one-part chain of the worked figures, and the plans that sweeps lead to on it under the priced tariff.
use Rattle.std.specs.Prelude.{◌≡◌, ℕ, List, [], ◌∷◌, map, replicate, pos, Option, ◌-◌}
use Rattle.certificate.specs.Certificates.{Sound}
use Rattle.chain.specs.Chains.{chain_model}
use Rattle.chain.specs.Limits.{most_life, most_arcs}
use Rattle.chain.specs.Made.{Made}
use Rattle.chain.specs.Parts.{arcs_of}
use Rattle.chain.specs.declared.numbers.ChainNumbers.{ChainNumbers}
use Rattle.chain.specs.declared.numbers.Part.{Part}
use Rattle.interface.specs.Plants.{Model}
use Rattle.interface.specs.Rows.{Row}
use Rattle.interface.specs.Tariffs.{Scale}
use Rattle.planner.specs.Plans.{PlanAfter}
use Rattle.tariffs.specs.Priced.{priced_scale}
use Rattle.workorder.specs.Figures.{arc}
use Rattle.workorder.specs.Orders.{LeastTable, max_parts}

-- A part with life 2, which fails with 1000 when new and with 4000 at age 1.
abbrev pub lone_part : Part
lone_part = record {
  life = 2;
  hazards = 1000 ∷ 4000 ∷ replicate (most_life - 2) 0;
  surplus = 500;
  dark = 60;
}

-- What stands where there is no part.
abbrev pub no_part : Part
no_part = record { life = 0; hazards = replicate most_life 0; surplus = 0; dark = 0 }

-- The chain of that part, with one arc to it from the door; the rest of its tables is zero.
abbrev pub lone_chain : ChainNumbers
lone_chain = record {
  count = 1;
  threshold = 5000;
  setup = 100;
  alarm = 0;
  parts = lone_part ∷ replicate (max_parts - 1) no_part;
  arc_count = 1;
  arcs = arc 0 1 200 ∷ replicate (most_arcs - 1) (arc 0 0 0);
}

-- The chain as a plant, by a table of least work orders.
abbrev pub lone_plant : List (Option ℕ) → Model
lone_plant table = chain_model lone_chain table

-- A plan as rows: the value of each state, the portfolio that the policy names for it, and the claims.
pub record Plan : Type 0 where
  pub values : List Row
  pub policy : List ℕ
  pub low : Row
  pub high : Row

-- The plan is what the planner promises after so many sweeps.
abbrev pub Promised : Model → Scale → ℕ → Plan → Type 0
Promised m t sweeps p = PlanAfter m t sweeps p.values p.policy p.low p.high

-- This is such a plan, and there is no other.
pub record TheOnly (m : Model) (t : Scale) (sweeps : ℕ) (p : Plan) : Type 0 where
  pub itself : Promised m t sweeps p
  pub only : (q : Plan) → Promised m t sweeps q → q ≡ p

-- Rows of one place.
abbrev pub thousandths : ℕ → Row
thousandths x = pos x ∷ []

-- The part is renewed in every state: low is first met in state 1, high in state 0.
abbrev pub after_one : Plan
after_one = record {
  values = map thousandths (0 ∷ 1400000 ∷ 300000 ∷ 1400000 ∷ []);
  policy = 1 ∷ 1 ∷ 1 ∷ 1 ∷ [];
  low = thousandths 1400000000;
  high = thousandths 4400000000;
}

-- One sweep more, and low and high meet.
abbrev pub after_two : Plan
after_two = record {
  values = map thousandths (0 ∷ 1100000 ∷ 0 ∷ 1100000 ∷ []);
  policy = 1 ∷ 1 ∷ 1 ∷ 1 ∷ [];
  low = thousandths 4100000000;
  high = thousandths 4100000000;
}

-- Worked figures, under a rate of 10 cents for a dark second.
pub record SweepFigures : Type 0 where
  -- the numbers make a chain, with a table of least work orders
  pub made : (table : List (Option ℕ)) × Made lone_chain table
  -- and whatever table it is, there is one plan after one sweep, with low 1400000000 and high 4400000000,
  pub one_sweep : (table : List (Option ℕ)) → LeastTable (arcs_of lone_chain) table → TheOnly (lone_plant table) (priced_scale 10) 1 after_one
  -- and one after two, with 4100000000 for both
  pub two_sweeps : (table : List (Option ℕ)) → LeastTable (arcs_of lone_chain) table → TheOnly (lone_plant table) (priced_scale 10) 2 after_two
  -- which is a sound certificate, so the check accepts it: some certificate is accepted
  pub sound : (table : List (Option ℕ)) → LeastTable (arcs_of lone_chain) table → Sound (lone_plant table) (priced_scale 10) after_two.values after_two.policy after_two.low after_two.high
