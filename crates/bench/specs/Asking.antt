-- What every question of a plant comes to.
use Rattle.std.specs.Prelude.{ℕ, suc, length}
use Rattle.std.specs.List.{slice_get}
use Rattle.interface.specs.Plants.{Model, bill_of, outcomes_of}
use Rattle.bench.specs.Digests.{mix, with_flag, with_bill, with_outcome, in_turn}

-- the number of outcomes, and each of them up to one past the last
abbrev pub outcomes_asked : Model → ℕ → ℕ → ℕ → ℕ
outcomes_asked m s x d = in_turn (λ k e. with_outcome e (slice_get (outcomes_of m s x) k)) (suc (length (outcomes_of m s x))) (mix d (length (outcomes_of m s x)))

-- all questions of one pair
unfoldable pub pair_asked : Model → ℕ → ℕ → ℕ → ℕ
pair_asked m s x d = outcomes_asked m s x (with_bill (with_flag d (m.feasible s x)) (bill_of m s x))

-- all pairs of one state, up to one portfolio past the last
unfoldable pub state_asked : Model → ℕ → ℕ → ℕ
state_asked m s d = in_turn (pair_asked m s) (suc m.portfolios) d

-- all states, up to one past the last
abbrev pub plant_asked : Model → ℕ → ℕ
plant_asked m d = in_turn (state_asked m) (suc m.states) (mix (mix d m.states) m.portfolios)

-- so many times, from 0
abbrev pub asked_again : Model → ℕ → ℕ
asked_again m n = in_turn (λ _. plant_asked m) n 0
