-- Why a certificate is refused: the first test that fails, with its number and its place.
use Rattle.std.specs.Prelude.{ℕ, zero, suc, Bool, true, cond, ◌&&◌, List, length, Some, None, Option, ◌==◌, nat_le}
use Rattle.interface.specs.Plants.{Model, named}
use Rattle.interface.specs.Rows.{Row, reach}
use Rattle.interface.specs.Tariffs.{Scale}
use Rattle.interface.specs.Limits.{most_value, most_claim}
use Rattle.lookahead.specs.Gains.{value_of, gain}
use Rattle.certificate.specs.declared.refusal.Refusal.{Refusal}
use Rattle.certificate.specs.declared.refusal.Refusal.TheVariants.{WrongLength, BeyondReach, Infeasible, LowBroken, HighBroken}

abbrev pub number_of : Refusal → ℕ
number_of WrongLength = 7
number_of (BeyondReach s) = 8
number_of (Infeasible s) = 9
number_of (LowBroken s) = 10
number_of (HighBroken s) = 11

-- A state; the number of states for a claim; 0 for a length.
abbrev pub place_of : Refusal → ℕ
place_of WrongLength = 0
place_of (BeyondReach s) = s
place_of (Infeasible s) = s
place_of (LowBroken s) = s
place_of (HighBroken s) = s

abbrev pub or_else : {A : Type 0} → Option A → Option A → Option A
or_else None o = o
or_else (Some a) o = Some a

-- the first below n
abbrev pub first_fault : {A : Type 0} → (ℕ → Option A) → ℕ → Option A
first_fault f zero = None
first_fault f (suc n) = or_else (first_fault f n) (f n)

-- whether a test holds of every number below n
abbrev pub each : (ℕ → Bool) → ℕ → Bool
each f zero = true
each f (suc n) = each f n && f n

abbrev pub value_fault : Scale → List Row → ℕ → Option Refusal
value_fault t vs s = cond (nat_le (reach (value_of t vs s)) most_value) None (Some (BeyondReach s))

abbrev pub low_test : Model → Scale → List Row → Row → ℕ → ℕ → Bool
low_test m t vs low s x = cond (m.feasible s x) (t.at_most low (gain m t vs s x)) true

abbrev pub state_fault : Model → Scale → List Row → List ℕ → Row → Row → ℕ → Option Refusal
state_fault m t vs ps low high s =
    cond (m.feasible s (named ps s))
    (cond (each (low_test m t vs low s) m.portfolios)
    (cond (t.at_most (gain m t vs s (named ps s)) high) None (Some (HighBroken s)))
    (Some (LowBroken s)))
    (Some (Infeasible s))

-- The lengths of both tables.
abbrev pub level : Model → List Row → List ℕ → Bool
level m vs ps = length vs == m.states && length ps == m.states

abbrev pub refusal : Model → Scale → List Row → List ℕ → Row → Row → Option Refusal
refusal m t vs ps low high =
    cond (level m vs ps)
    (cond (nat_le (reach low) most_claim && nat_le (reach high) most_claim)
    (or_else (first_fault (value_fault t vs) m.states) (first_fault (state_fault m t vs ps low high) m.states))
    (Some (BeyondReach m.states)))
    (Some WrongLength)
