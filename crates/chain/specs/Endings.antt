-- The outcomes of a chain, as a list.
use Rattle.std.specs.Prelude.{◌≡◌, ℕ, zero, suc, ◌+◌, ◌-◌, ◌*◌, ◌<◌, ◌≤◌, true, cond, List, [], ◌∷◌, ◌++◌, map, length, Some, None, Option, ◌==◌, nat_lt, refl}
use Rattle.chain.specs.Numbering.{BelowLives, state_inside}
use Rattle.chain.specs.Sums.{over_alike}
use Rattle.chain.specs.Chains.{chain_feasible, chain_model, hazards_at, outcome_after}
use Rattle.chain.specs.Over.{Entries, entry, over_parts, product}
use Rattle.chain.specs.Parts.{hazard, life}
use Rattle.chain.specs.Portfolios.{start_age}
use Rattle.chain.specs.States.{all_states, state_with}
use Rattle.chain.specs.Windows.{ComesTo}
use Rattle.chain.specs.declared.numbers.ChainNumbers.{ChainNumbers}
use Rattle.chain.specs.declared.windows.Window.{Window}
use Rattle.interface.specs.Limits.{whole}
use Rattle.interface.specs.Plants.{Inside, outcomes_of, weights}
use Rattle.interface.specs.declared.plant.Outcome.{Outcome}
use Rattle.std.proofs.lemmas.List.FromFn.{get_or-map-range_with_len, length-map-range_with_len, map-range_with_len_more}
use Rattle.std.proofs.lemmas.Option.{slice_get-get_or, slice_get_past}
use Rattle.std.proofs.lemmas.Bool.{cases_Bool, cases_eq, cases_lt, cond-false, cond-true, eq-eqb, le-ltb, lt-ltb, ne_eqb}
use Rattle.std.specs.List.{slice_get, range_with_len}
use Rattle.std.proofs.Common.{inl, inr, sym, ap, ◌∙◌, zero-add, add-one, arith}

-- element k of a list made from a function of the index
pub nth_counting : {X : Type 0} (f : ℕ → X) (n k : ℕ) → slice_get (map f (range_with_len 0 n)) k ≡ cond (nat_lt k n) (Some (f k)) None
nth_counting f n k =
    elim (cases_lt k n) [
      | inl below ↦ (
          let inside : k < length (map f (range_with_len 0 n)) = rw length-map-range_with_len below in
          rw (lt-ltb k n below) (slice_get-get_or (map f (range_with_len 0 n)) k (f k) inside ∙ ap Some (get_or-map-range_with_len f 0 n k k (f k) below (zero-add k))))
      | inr past ↦ (
          let outside : length (map f (range_with_len 0 n)) ≤ k = rw length-map-range_with_len past in
          rw (le-ltb k n past) (slice_get_past (map f (range_with_len 0 n)) k outside))
    ]

weights_push : (os : List Outcome) (o : Outcome) → weights (os ++ o ∷ []) ≡ weights os + o.weight
weights_push [] o = omega arith
weights_push (p ∷ os) o = omega (arith, weights_push os o)

weights_over : (f : ℕ → Outcome) (k : ℕ) → weights (map f (range_with_len 1 k)) ≡ over_parts (λ i. (f i).weight) k
weights_over f zero = refl
weights_over f (suc k) =
    ap (λ z. weights (map f (range_with_len 1 z))) (sym (add-one k)) ∙ ap weights (map-range_with_len_more f 1 k (k + 1) (omega arith)) ∙ weights_push (map f (range_with_len 1 k)) (f (k + 1)) ∙ ap (λ z. z + (f (k + 1)).weight) (weights_over f k)

inside_counting : (f : ℕ → Outcome) (a k m : ℕ) → ((j : ℕ) → a ≤ j → j < a + k → (f j).next < m) → Inside m (map f (range_with_len a k))
inside_counting f a zero m below = tt
inside_counting f a (suc k) m below = (below a (omega arith) (omega arith), inside_counting f (a + 1) k m (λ j most less. below j (omega arith) (omega arith)))

module _ (n : ChainNumbers) (start : ℕ → ℕ) where
  -- the weights of survival and of every failure
  pub weights_whole : hazards_at n start ≤ whole → weights (map (outcome_after n start) (range_with_len 0 (n.count + 1))) ≡ whole
  weights_whole most =
      let failures : over_parts (λ i. (outcome_after n start i).weight) n.count ≡ hazards_at n start = over_alike (λ i. (outcome_after n start i).weight) (λ i. hazard n i (start i)) n.count (λ i some l. cond-false (i == 0) (whole - hazards_at n start) (hazard n i (start i)) (ne_eqb i 0 (omega arith))) in
      let front : weights (map (outcome_after n start) (range_with_len 0 (n.count + 1))) ≡ (whole - hazards_at n start) + weights (map (outcome_after n start) (range_with_len 1 n.count)) = ap (λ z. weights (map (outcome_after n start) (range_with_len 0 z))) (add-one n.count) in
      omega (arith, front, weights_over (outcome_after n start) n.count, failures)

  older_below : BelowLives n start → BelowLives n (λ i. start i + 1 - 1)
  older_below below i some most = omega (arith, below i some most)

  pub next_inside : (k : ℕ) → BelowLives n start → k ≤ n.count → (outcome_after n start k).next < all_states n
  next_inside k below inside = state_inside n (λ i. start i + 1 - 1) k (older_below below) inside

  pub outcomes_inside : BelowLives n start → Inside (all_states n) (map (outcome_after n start) (range_with_len 0 (n.count + 1)))
  outcomes_inside below = inside_counting (outcome_after n start) 0 (n.count + 1) (all_states n) (λ k _ less. next_inside k below (omega arith))

  -- a table of the start ages gives the same outcomes
  pub outcome_alike : (xs : List ℕ) (k : ℕ) → Entries start n.count xs → k ≤ n.count → outcome_after n (entry xs) k ≡ outcome_after n start k
  outcome_alike xs k entries most = λ i. record { next = next i; weight = weight i }
    where
      next : state_with n (λ i. entry xs i + 1) k ≡ state_with n (λ i. start i + 1) k
      next = ap (λ z. (n.count + 1) * z + k) (over_alike _ _ n.count (λ i some l. ap (λ z. (z + 1 - 1) * product (life n) (i - 1)) (entries i some l)))

      all : hazards_at n (entry xs) ≡ hazards_at n start
      all = over_alike _ _ n.count (λ i some l. ap (hazard n i) (entries i some l))

      weight : cond (k == 0) (whole - hazards_at n (entry xs)) (hazard n k (entry xs k)) ≡ cond (k == 0) (whole - hazards_at n start) (hazard n k (start k))
      weight =
          elim (cases_eq k 0) [
            | inl z ↦ rw (eq-eqb k 0 z) (ap (λ h. whole - h) all)
            | inr z ↦ rw (ne_eqb k 0 z) (ap (hazard n k) (entries k (omega arith) most))
          ]

module _ (n : ChainNumbers) (s x k : ℕ) (w : Window) (is : ComesTo n s x k w) where
  -- what the window comes to is what its outcomes are made of
  pub next_at : w.next + k ≡ (outcome_after n (start_age n s x) k).next
  next_at = omega (arith, is.unfailed)

  pub weight_at : (weight : ℕ) → k ≤ n.count → (k ≡ 0 → weight ≡ whole - w.hazards) → (1 ≤ k → weight ≡ w.hazard) → weight ≡ (outcome_after n (start_age n s x) k).weight
  weight_at weight inside none some =
      elim (cases_eq k 0) [
        | inl z ↦ rw (eq-eqb k 0 z) (none z ∙ ap (λ h. whole - h) is.all)
        | inr z ↦ rw (ne_eqb k 0 z) (some (omega arith) ∙ is.one (omega arith) inside)
      ]

-- what the code answers is in the list
pub outcome_found : (n : ChainNumbers) (table : List (Option ℕ)) (s x k next weight : ℕ) → chain_feasible n table s x ≡ true → k ≤ n.count → next ≡ (outcome_after n (start_age n s x) k).next → weight ≡ (outcome_after n (start_age n s x) k).weight → Some (record { next = next; weight = weight }) ≡ slice_get (outcomes_of (chain_model n table) s x) k
outcome_found n table s x k next weight test inside p q = rw test (ap Some same ∙ sym listed)
  where
    same : record { next = next; weight = weight } ≡ outcome_after n (start_age n s x) k
    same = λ i. record { next = p i; weight = q i }

    listed : slice_get (map (outcome_after n (start_age n s x)) (range_with_len 0 (n.count + 1))) k ≡ Some (outcome_after n (start_age n s x) k)
    listed = nth_counting (outcome_after n (start_age n s x)) (n.count + 1) k ∙ cond-true (nat_lt k (n.count + 1)) (Some (outcome_after n (start_age n s x) k)) None (lt-ltb k (n.count + 1) (omega arith))

-- beyond the last part there is none
pub outcome_past : (n : ChainNumbers) (table : List (Option ℕ)) (s x k : ℕ) → n.count < k → None ≡ slice_get (outcomes_of (chain_model n table) s x) k
outcome_past n table s x k past =
    elim (cases_Bool (chain_feasible n table s x)) [
      | inl e ↦ rw e (sym (nth_counting (outcome_after n (start_age n s x)) (n.count + 1) k ∙ cond-false (nat_lt k (n.count + 1)) (Some (outcome_after n (start_age n s x) k)) None (le-ltb k (n.count + 1) (omega arith))))
      | inr e ↦ rw e
    ]

-- outcome k of a table of the start ages is outcome k of the plant
pub outcome_listed : (n : ChainNumbers) (table : List (Option ℕ)) (s x k : ℕ) (xs : List ℕ) (r : Option Outcome) → chain_feasible n table s x ≡ true → Entries (start_age n s x) n.count xs → r ≡ cond (nat_lt k (n.count + 1)) (Some (outcome_after n (entry xs) k)) None → r ≡ slice_get (outcomes_of (chain_model n table) s x) k
outcome_listed n table s x k xs r test entries is = rw test (is ∙ same ∙ sym (nth_counting (outcome_after n (start_age n s x)) (n.count + 1) k))
  where
    same : cond (nat_lt k (n.count + 1)) (Some (outcome_after n (entry xs) k)) None ≡ cond (nat_lt k (n.count + 1)) (Some (outcome_after n (start_age n s x) k)) None
    same =
        elim (cases_lt k (n.count + 1)) [
          | inl h ↦ rw (lt-ltb k (n.count + 1) h) (ap Some (outcome_alike n (start_age n s x) xs k entries (omega arith)))
          | inr h ↦ rw (le-ltb k (n.count + 1) h)
        ]
