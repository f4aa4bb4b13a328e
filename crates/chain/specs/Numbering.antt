-- The numbers of states.
use Rattle.std.specs.Prelude.{◌≡◌, ℕ, ◌+◌, ◌-◌, ◌*◌, ◌/◌, ◌%◌, ◌^◌, ◌<◌, ◌≤◌, cond, List, length, nat_lt, slice_index}
use Rattle.chain.specs.Radix.{number, number_below, number_step}
use Rattle.chain.specs.Sums.{product_at_most, product_more}
use Rattle.std.proofs.lemmas.Nat.{mul-le, mul-add-lt}
use Rattle.std.proofs.lemmas.List.FromFn.{fill_by_all, get_or-map-range_with_len}
use Rattle.std.proofs.lemmas.Bool.{cases_lt, cond-true, le-ltb, lt-ltb}
use Rattle.workorder.specs.Orders.{max_parts}
use Rattle.std.proofs.Common.{inl, inr, sym, ap, ◌∙◌, arith}
use Rattle.chain.specs.Limits.{most_life}
use Rattle.chain.specs.Over.{Entries, product, entry}
use Rattle.chain.specs.Parts.{LivesInRange, LawfulTerms, life}
use Rattle.chain.specs.States.{age_in, all_states, table_of}
use Rattle.chain.specs.declared.numbers.ChainNumbers.{ChainNumbers}
use Rattle.std.proofs.Math.Nat.{div-div-eq-div-mul, pow-le-pow_right}

-- the lives of the first k parts, multiplied
pub lives_few : (n : ChainNumbers) (k : ℕ) → LawfulTerms n → LivesInRange n → k ≤ n.count → product (life n) k ≤ most_life ^ max_parts
lives_few n k terms lives inside =
    let few = product_at_most (life n) most_life k (λ i some most. (lives i some (omega arith)).1) in
    let least : 0 < most_life = omega arith in
    let short : k ≤ max_parts = omega arith in
    let more : most_life ^ k ≤ most_life ^ max_parts = pow-le-pow_right least short in
    omega arith

-- one life more, as a loop multiplies it
pub lives_more : (n : ChainNumbers) (k a b : ℕ) → a ≡ product (life n) k → b ≡ life n (k + 1) → a * b ≡ product (life n) (k + 1)
lives_more n k a b p q = let more = product_more (life n) k in cc

-- states are few enough to count
pub states_fit : (n : ChainNumbers) → LawfulTerms n → LivesInRange n → all_states n ≤ (max_parts + 1) * most_life ^ max_parts
states_fit n terms lives =
    let all = lives_few n n.count terms lives (omega arith) in
    omega (arith, mul-le (n.count + 1) (product (life n) n.count) (max_parts + 1) (most_life ^ max_parts) (omega (arith, terms.0.1)) all)

-- each part's digit is below its life
abbrev pub BelowLives : ChainNumbers → (ℕ → ℕ) → Type 0
BelowLives n d = (i : ℕ) → 1 ≤ i → i ≤ n.count → d i < life n i

pub number_few : (n : ChainNumbers) (d : ℕ → ℕ) (k : ℕ) → LawfulTerms n → LivesInRange n → ((i : ℕ) → 1 ≤ i → i ≤ k → d i < life n i) → k ≤ n.count → number (life n) d k < most_life ^ max_parts
number_few n d k terms lives below inside =
    let within = number_below (life n) d k below in
    omega (arith, lives_few n k terms lives inside)

-- the digit of one part more, as a loop adds it
pub number_more : (n : ChainNumbers) (xs : List ℕ) (k t w : ℕ) → w ≡ product (life n) k → t ≡ number (life n) (entry xs) k → t + slice_index xs k * w ≡ number (life n) (entry xs) (k + 1)
number_more n xs k t w wide so_far =
    let less : k + 1 - 1 ≡ k = omega arith in
    number_step (life n) (entry xs) k t w (slice_index xs k) so_far wide (ap (λ z. slice_index xs z) (sym less))

-- a number by the digits of the parts and a failed part is a state
pub state_inside : (n : ChainNumbers) (d : ℕ → ℕ) (f : ℕ) → BelowLives n d → f ≤ n.count → (n.count + 1) * number (life n) d n.count + f < all_states n
state_inside n d f below inside =
    omega (arith, mul-add-lt (number (life n) d n.count) (n.count + 1) f (product (life n) n.count) (number_below (life n) d n.count below) (omega arith))

-- the age of one part, as a loop takes it from the rest
pub age_step : (n : ChainNumbers) (s k r l : ℕ) → r ≡ s / (n.count + 1) / product (life n) k → l ≡ life n (k + 1) → r % l + 1 ≡ age_in n s (k + 1)
age_step n s k r l a b = let less : k + 1 - 1 ≡ k = omega arith in let same : product (life n) (k + 1 - 1) ≡ product (life n) k = ap (product (life n)) less in cc

pub rest_step : (n : ChainNumbers) (s k r l : ℕ) → r ≡ s / (n.count + 1) / product (life n) k → l ≡ life n (k + 1) → r / l ≡ s / (n.count + 1) / product (life n) (k + 1)
rest_step n s k r l a b =
    let more = product_more (life n) k in
    let split = div-div-eq-div-mul (s / (n.count + 1)) (product (life n) k) (life n (k + 1)) in
    cc

-- a table whose entries up to the last part are those of f, and 0 beyond
pub table_filled : (n : ChainNumbers) (f : ℕ → ℕ) (xs : List ℕ) → length xs ≡ max_parts → Entries f n.count xs → ((k : ℕ) → n.count ≤ k → slice_index xs k ≡ 0) → xs ≡ table_of n f
table_filled n f xs long inside beyond = fill_by_all (λ k. cond (nat_lt k n.count) (f (k + 1)) 0) xs max_parts 0 long at
  where
    at : (k : ℕ) → k < max_parts → slice_index xs k ≡ cond (nat_lt k n.count) (f (k + 1)) 0
    at k _ =
        elim (cases_lt k n.count) [
          | inl h ↦ (let less : k + 1 - 1 ≡ k = omega arith in let is = inside (k + 1) (omega arith) (omega arith) in rw (lt-ltb k n.count h) (ap (λ z. slice_index xs z) (sym less) ∙ is))
          | inr h ↦ (rw (le-ltb k n.count h) (beyond k h))
        ]

pub entry_of_table : (n : ChainNumbers) (f : ℕ → ℕ) (i : ℕ) → n.count ≤ max_parts → 1 ≤ i → i ≤ n.count → entry (table_of n f) i ≡ f i
entry_of_table n f i few some most =
    let back : i - 1 + 1 ≡ i = omega arith in
    let inside : i - 1 < n.count = omega arith in
    get_or-map-range_with_len (λ k. cond (nat_lt k n.count) (f (k + 1)) 0) 0 max_parts (i - 1) (i - 1) 0 (omega arith) (omega arith) ∙ cond-true (nat_lt (i - 1) n.count) (f (i - 1 + 1)) 0 (lt-ltb (i - 1) n.count inside) ∙ ap f back

pub read_table : (n : ChainNumbers) (f : ℕ → ℕ) (xs : List ℕ) (k : ℕ) → n.count ≤ max_parts → k < n.count → xs ≡ table_of n f → slice_index xs k ≡ f (k + 1)
read_table n f xs k few inside is =
    let less : k + 1 - 1 ≡ k = omega arith in
    ap (λ z. slice_index z k) is ∙ ap (λ z. slice_index (table_of n f) z) (sym less) ∙ entry_of_table n f (k + 1) few (omega arith) (omega arith)
