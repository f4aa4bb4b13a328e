-- The number of a state, part by part.
use Rattle.std.proofs.Common.{◌≡◌, ℕ, ◌+◌, ◌-◌, ◌*◌, ◌^◌, ◌<◌, ◌≤◌, Some, None, get_or, subst, inl, inr, ap, arith}
use Rattle.chain.specs.LawsLemmas.{lives_in_range}
use Rattle.chain.specs.Numbering.{lives_few, lives_more, number_few, state_inside, states_fit}
use Rattle.chain.specs.Radix.{number, number_step}
use Rattle.chain.specs.RoundTrips.{number_absent, number_found}
use Rattle.chain.specs.Limits.{most_life}
use Rattle.chain.specs.Over.{entry, product}
use Rattle.chain.specs.Parts.{LawfulNumbers, life}
use Rattle.chain.specs.States.{number_of}
use Rattle.chain.specs.declared.numbers.ChainNumbers.{ChainNumbers}
use Rattle.chain.specs.declared.states.ChainState.{ChainState}
use Rattle.std.proofs.lemmas.Bool.{cases_lt}
use Rattle.workorder.specs.Orders.{max_parts}

-- after k parts: the product of their lives, and the number that their ages make; each of them can have its age
pub record Counted (n : ChainNumbers) (st : ChainState) (k total width : ℕ) : Type 0 where
  pub wide : width ≡ product (life n) k
  pub older : total ≡ number (life n) (λ j. entry st.ages j - 1) k
  pub aged : (j : ℕ) → 1 ≤ j → j ≤ k → (1 ≤ entry st.ages j) × (entry st.ages j ≤ life n j)

module _ (n : ChainNumbers) (st : ChainState) where
  entry_at : (k : ℕ) → entry st.ages (k + 1) ≡ get_or st.ages k 0
  entry_at k = let less : k + 1 - 1 ≡ k = omega arith in ap (λ z. get_or st.ages z 0) less

  -- one part more
  pub count_more : (k total width l age : ℕ) → Counted n st k total width → l ≡ life n (k + 1) → age ≡ get_or st.ages k 0 → 1 ≤ age → age ≤ l → Counted n st (k + 1) (total + (age - 1) * width) (width * l)
  count_more k total width l age before long old some most =
      let same = entry_at k in
      record {
        wide = lives_more n k width l before.wide long;
        older = number_step (life n) (λ j. entry st.ages j - 1) k total width (age - 1) before.older before.wide (omega arith);
        aged = λ j one many. elim (cases_lt j (k + 1)) [
          | inl h ↦ before.aged j one (omega arith)
          | inr h ↦ (let here : k + 1 ≡ j = omega arith in subst (λ (z : ℕ). (1 ≤ entry st.ages z) × (entry st.ages z ≤ life n z)) here (omega arith, omega arith))
        ];
      }

  -- a part that cannot have its age
  pub not_counted : (k l age : ℕ) → k < n.count → l ≡ life n (k + 1) → age ≡ get_or st.ages k 0 → (1 ≤ age → age ≤ l → ⊥) → None ≡ number_of n st
  not_counted k l age inside long old none =
      number_absent n st (λ aged. let same = entry_at k in let here = aged (k + 1) (omega arith) (omega arith) in none (omega arith) (omega arith))

  pub all_counted : (total width : ℕ) → Counted n st n.count total width → st.failed ≤ n.count → Some ((n.count + 1) * total + st.failed) ≡ number_of n st
  all_counted total width so inside = number_found n st total inside so.aged so.older

  -- the numbers stay small
  module _ (lawful : LawfulNumbers n) where
    below : (k total width : ℕ) → Counted n st k total width → (i : ℕ) → 1 ≤ i → i ≤ k → entry st.ages i - 1 < life n i
    below k total width so i some most = let age = so.aged i some most in omega arith

    pub width_fits : (k total width : ℕ) → Counted n st k total width → k ≤ n.count → width ≤ most_life ^ max_parts
    width_fits k total width so inside = omega (arith, so.wide, lives_few n k lawful.terms (lives_in_range n lawful) inside)

    pub total_fits : (k total width : ℕ) → Counted n st k total width → k ≤ n.count → total < most_life ^ max_parts
    total_fits k total width so inside = omega (arith, so.older, number_few n (λ j. entry st.ages j - 1) k lawful.terms (lives_in_range n lawful) (below k total width so) inside)

    pub number_fits : (total width : ℕ) → Counted n st n.count total width → st.failed ≤ n.count → (n.count + 1) * total + st.failed < (max_parts + 1) * most_life ^ max_parts
    number_fits total width so inside =
        omega (arith, ap (λ z. (n.count + 1) * z) so.older, state_inside n (λ j. entry st.ages j - 1) st.failed (below n.count total width so) inside, states_fit n lawful.terms (lives_in_range n lawful))
