-- Rules of play, the lists of outcomes that they can meet, and what these weigh and cost.
use Rattle.std.specs.Prelude.{◌≡◌, ℕ, zero, suc, ◌*◌, ◌^◌, ◌≤◌, ◌↔◌, true, List, [], ◌∷◌, ◌++◌, map, length, Option, Some, None, ⊤, Contains, slice_get, sum_by}
use Rattle.interface.specs.declared.plant.Outcome.{Outcome}
use Rattle.interface.specs.Limits.{whole}
use Rattle.interface.specs.Plants.{Model, outcomes_of}
use Rattle.interface.specs.Rows.{Row, zeros, plus, times}
use Rattle.interface.specs.Tariffs.{Scale, price}

-- What was met: the state of each window, with the number of its outcome, in order.
abbrev pub Met : Type 0
Met = List (ℕ × ℕ)

-- A rule names a portfolio from all that was met so far and the state in which it stands.
abbrev pub Rule : Type 0
Rule = Met → ℕ → ℕ

-- What was met, with one window more that stood in s and ended in outcome k.
abbrev pub further : Met → ℕ → ℕ → Met
further met s k = met ++ (s, k) ∷ []

-- Outcome k of the pair in which a rule stands; none of an infeasible pair, nor past the last.
abbrev pub outcome_at : Model → Rule → Met → ℕ → ℕ → Option Outcome
outcome_at m r met s k = slice_get (outcomes_of m s (r met s)) k

-- A rule can play n windows from what was met and a state: what it names is feasible here, and after each outcome that can
-- happen it can play the rest.
unfoldable pub Plays : Model → Rule → ℕ → Met → ℕ → Type 0
Plays m r zero met s = ⊤
Plays m r (suc n) met s =
    (m.feasible s (r met s) ≡ true)
    × ((k : ℕ) (o : Outcome) → outcome_at m r met s k ≡ Some o → 1 ≤ o.weight → Plays m r n (further met s k) o.next)

-- A list of outcome numbers can be met by a rule: each is an outcome of the pair in which the rule then stands.
abbrev pub CanMeet : Model → Rule → Met → ℕ → List ℕ → Type 0
CanMeet m r met s [] = ⊤
CanMeet m r met s (k ∷ ks) =
    (o : Outcome) × (outcome_at m r met s k ≡ Some o) × CanMeet m r (further met s k) o.next ks

-- The lists that begin with the number of an outcome, for each of the outcomes.
abbrev pub begun : (ℕ → Outcome → List (List ℕ)) → ℕ → List Outcome → List (List ℕ)
begun rest k [] = []
begun rest k (o ∷ os) = map (λ ks. k ∷ ks) (rest k o) ++ begun rest (suc k) os

-- All lists of n outcome numbers that a rule can meet.
unfoldable pub lists : Model → Rule → ℕ → Met → ℕ → List (List ℕ)
lists m r zero met s = [] ∷ []
lists m r (suc n) met s = begun (λ k o. lists m r n (further met s k) o.next) 0 (outcomes_of m s (r met s))

-- One outcome's weight times what the rest weighs; nothing where there is no such outcome.
abbrev pub weigh : Option Outcome → (Outcome → ℕ) → ℕ
weigh None rest = 0
weigh (Some o) rest = o.weight * rest o

-- What the rest costs behind an outcome.
abbrev pub cost_behind : Scale → Option Outcome → (Outcome → Row) → Row
cost_behind t None rest = zeros t.places
cost_behind t (Some o) rest = rest o

-- The weight of a list: the product of the weights of its outcomes.
unfoldable pub weight : Model → Rule → Met → ℕ → List ℕ → ℕ
weight m r met s [] = 1
weight m r met s (k ∷ ks) = weigh (outcome_at m r met s k) (λ o. weight m r (further met s k) o.next ks)

-- The cost of a list: the sum of the priced bills of its windows.
unfoldable pub cost : Model → Scale → Rule → Met → ℕ → List ℕ → Row
cost m t r met s [] = zeros t.places
cost m t r met s (k ∷ ks) =
    plus (price t (m.bill s (r met s)))
    (cost_behind t (outcome_at m r met s k) (λ o. cost m t r (further met s k) o.next ks))

-- Each list's amount times its weight, added up.
abbrev pub weighed : Scale → (List ℕ → ℕ) → (List ℕ → Row) → List (List ℕ) → Row
weighed t w c [] = zeros t.places
weighed t w c (ks ∷ kss) = plus (times (w ks) (c ks)) (weighed t w c kss)

-- What a rule costs over n windows from a state, all lists weighed.
abbrev pub costs : Model → Scale → Rule → ℕ → ℕ → Row
costs m t r n s = weighed t (weight m r [] s) (cost m t r [] s) (lists m r n [] s)

-- No list stands twice.
abbrev pub NoneTwice : List (List ℕ) → Type 0
NoneTwice [] = ⊤
NoneTwice (ks ∷ kss) = (Contains kss ks → ⊥) × NoneTwice kss

-- The enumeration holds exactly the lists of n outcomes that the rule can meet, none twice, and their weights add up to
-- 10,000^n.
pub record Enumerates (m : Model) (r : Rule) (n : ℕ) (s : ℕ) : Type 0 where
  pub exact : (ks : List ℕ) → Contains (lists m r n [] s) ks ↔ ((length ks ≡ n) × CanMeet m r [] s ks)
  pub distinct : NoneTwice (lists m r n [] s)
  pub together : sum_by (weight m r [] s) (lists m r n [] s) ≡ whole ^ n
