-- The states of a chain, numbered from 0 by the ages of its parts and the failed part. The failed part runs fastest,
-- and then the age of part 1.
use Rattle.std.specs.Prelude.{◌≡◌, ℕ, ◌+◌, ◌-◌, ◌*◌, ◌/◌, ◌%◌, ◌≤◌, Bool, cond, ◌&&◌, List, map, Some, None, Option, nat_le, nat_lt}
use Rattle.chain.specs.Over.{over_parts, product, every, entry}
use Rattle.chain.specs.Parts.{life}
use Rattle.chain.specs.declared.numbers.ChainNumbers.{ChainNumbers}
use Rattle.chain.specs.declared.states.ChainState.{ChainState}
use Rattle.std.specs.List.{range_with_len}
use Rattle.workorder.specs.Orders.{max_parts}

-- The product of the lives of the parts before part i.
abbrev pub lives_before : ChainNumbers → ℕ → ℕ
lives_before n i = product (life n) (i - 1)

abbrev pub all_states : ChainNumbers → ℕ
all_states n = (n.count + 1) * product (life n) n.count

-- The number of the state in which each part has its age, and part f has failed, or none when f is 0.
abbrev pub state_with : ChainNumbers → (ℕ → ℕ) → ℕ → ℕ
state_with n age f = (n.count + 1) * over_parts (λ i. (age i - 1) * lives_before n i) n.count + f

-- The age of part i in state s.
abbrev pub age_in : ChainNumbers → ℕ → ℕ → ℕ
age_in n s i = (s / (n.count + 1) / lives_before n i) % life n i + 1

-- The failed part in state s, or 0.
abbrev pub failed_in : ChainNumbers → ℕ → ℕ
failed_in n s = s % (n.count + 1)

-- Every part can have its age, from 1 to its life.
abbrev pub Aged : ChainNumbers → ChainState → Type 0
Aged n st = (i : ℕ) → 1 ≤ i → i ≤ n.count → (1 ≤ entry st.ages i) × (entry st.ages i ≤ life n i)

-- Whether every part can have its age, from 1 to its life, and the failed part is one of the chain's.
abbrev pub possible : ChainNumbers → ChainState → Bool
possible n st = nat_le st.failed n.count && every (λ i. nat_le 1 (entry st.ages i) && nat_le (entry st.ages i) (life n i)) n.count

-- The number of a state, absent exactly when the state is not possible.
abbrev pub number_of : ChainNumbers → ChainState → Option ℕ
number_of n st = cond (possible n st) (Some (state_with n (entry st.ages) st.failed)) None

-- A table of the parts' entries, with 0 beyond the parts.
abbrev pub table_of : ChainNumbers → (ℕ → ℕ) → List ℕ
table_of n f = map (λ k. cond (nat_lt k n.count) (f (k + 1)) 0) (range_with_len 0 max_parts)

abbrev pub state_in : ChainNumbers → ℕ → ChainState
state_in n s = record { ages = table_of n (age_in n s); failed = failed_in n s }

-- The state with a number, absent from the number of states on.
abbrev pub state_at : ChainNumbers → ℕ → Option ChainState
state_at n s = cond (nat_lt s (all_states n)) (Some (state_in n s)) None

-- The states have the same failed part, and each part of the chain has the same age in both.
abbrev pub SameState : ChainNumbers → ChainState → ChainState → Type 0
SameState n st other = (st.failed ≡ other.failed) × ((i : ℕ) → 1 ≤ i → i ≤ n.count → entry st.ages i ≡ entry other.ages i)

-- States and their numbers turn into each other without loss.
pub record WithoutLoss (n : ChainNumbers) : Type 0 where
  pub back : (st : ChainState) (s : ℕ) → number_of n st ≡ Some s → (state_at n s ≡ Some (state_in n s)) × SameState n (state_in n s) st
  pub forth : (s : ℕ) (st : ChainState) → state_at n s ≡ Some st → number_of n st ≡ Some s
