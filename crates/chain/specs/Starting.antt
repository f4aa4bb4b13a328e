-- The ages at which the parts of a feasible portfolio start the window.
use Rattle.std.specs.Prelude.{◌≡◌, ℕ, ◌<◌, ◌≤◌, true, List, is_some, Option}
use Rattle.chain.specs.Numbering.{BelowLives}
use Rattle.chain.specs.Renewals.{renews_decides, worn_decides}
use Rattle.chain.specs.RoundTrips.{age_within}
use Rattle.chain.specs.Sums.{over_alike}
use Rattle.chain.specs.Chains.{chain_feasible, hazard_sum, hazards_at, least_order, survives}
use Rattle.chain.specs.Over.{Entries, entry}
use Rattle.chain.specs.Parts.{LawfulTerms, LivesInRange, hazard, life}
use Rattle.chain.specs.Portfolios.{WornRenewed, all_portfolios, failure_renewed, renews, start_age, worn_renewed}
use Rattle.chain.specs.States.{age_in, all_states}
use Rattle.chain.specs.declared.numbers.ChainNumbers.{ChainNumbers}
use Rattle.std.proofs.lemmas.Bool.{cases_Bool, cases_eq, lt-ltb}
use Rattle.workorder.specs.Orders.{Holds}
use Rattle.std.proofs.Common.{inl, inr, ap, arith}

-- where none of the first k parts is left at its life, each of them starts below it
pub starts_up_to : (n : ChainNumbers) (s x k : ℕ) → LawfulTerms n → LivesInRange n → k ≤ n.count → ((i : ℕ) → 1 ≤ i → i ≤ k → age_in n s i ≡ life n i → Holds x i) → (i : ℕ) → 1 ≤ i → i ≤ k → start_age n s x i < life n i
starts_up_to n s x k terms lives inside worn i some most =
    let within = age_within n terms lives s i some (omega arith) in
    elim (cases_Bool (renews x i)) [
      | inl e ↦ rw e (lives i some (omega arith)).0
      | inr e ↦ rw e (
          elim (cases_eq (age_in n s i) (life n i)) [
            | inl z ↦ absurd (let held = (renews_decides x i).1 (worn i some most z) in let y : ◌≡◌ {A = ℕ} 0 1 = cc in omega arith)
            | inr z ↦ omega arith
          ])
    ]

pub starts_below : (n : ChainNumbers) (s x : ℕ) → LawfulTerms n → LivesInRange n → WornRenewed n s x → BelowLives n (start_age n s x)
starts_below n s x terms lives = starts_up_to n s x n.count terms lives (omega arith)

-- the same of a table of the start ages
pub table_below : (n : ChainNumbers) (s x : ℕ) (xs : List ℕ) → LawfulTerms n → LivesInRange n → worn_renewed n s x ≡ true → Entries (start_age n s x) n.count xs → BelowLives n (entry xs)
table_below n s x xs terms lives worn entries i some most = omega (arith, entries i some most, starts_below n s x terms lives ((worn_decides n s x).0 worn) i some most)

pub table_hazards : (n : ChainNumbers) (s x : ℕ) (xs : List ℕ) → Entries (start_age n s x) n.count xs → hazards_at n (entry xs) ≡ hazard_sum n s x
table_hazards n s x xs entries = over_alike _ _ n.count (λ i some most. ap (hazard n i) (entries i some most))

-- when all else is as it should be, the survival decides
pub survival_decides : (n : ChainNumbers) (table : List (Option ℕ)) (s x : ℕ) → s < all_states n → x < all_portfolios n → failure_renewed n s x ≡ true → worn_renewed n s x ≡ true → is_some (least_order table x) ≡ true → chain_feasible n table s x ≡ survives n (hazard_sum n s x)
survival_decides n table s x inside listed failure worn order = rw (lt-ltb s (all_states n) inside, lt-ltb x (all_portfolios n) listed, failure, worn, order)
