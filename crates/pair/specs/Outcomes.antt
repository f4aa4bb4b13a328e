-- The outcomes of a pair, as a list.
use Rattle.std.specs.Prelude.{◌≡◌, ℕ, zero, suc, ◌+◌, ◌*◌, ◌/◌, ◌%◌, ◌<◌, ◌≤◌, Bool, true, false, cond, ltb, List, [], ◌∷◌, map, length, Some, None, sum_by, Option, nat_lt, refl}
use Rattle.std.proofs.Common.{ap, sym, ◌∙◌, ⊎_elim, add_assoc, add-suc, add-zero, zero-add, zero-mul, mul-zero, mul-suc, mul-add, add-mul, mod-eq_of_lt, add-one, arith}
use Rattle.std.proofs.Math.Nat.{mul-add-mod_self_left, mul-add-div, div-eq_of_lt}
use Rattle.std.specs.List.{slice_get, range_with_len}
use Rattle.std.proofs.lemmas.List.FromFn.{length-map-range_with_len, get_or-map-range_with_len, sum_by-map-range_with_len_more}
use Rattle.std.proofs.lemmas.List.Sums.{sum_by-cons}
use Rattle.std.proofs.lemmas.Option.{slice_get-get_or, slice_get_past}
use Rattle.std.proofs.lemmas.Bool.{cases_lt, lt-ltb, le-ltb}
use Rattle.interface.specs.declared.plant.Outcome.{Outcome}
use Rattle.interface.specs.Plants.{outcomes_of, weights, Inside}
use Rattle.pair.specs.declared.numbers.PairNumbers.{PairNumbers}
use Rattle.pair.specs.declared.states.Grades.{Grades}
use Rattle.pair.specs.Pairs.{moved_by, pair_feasible, rows_of, outcome_by, pair_model}
use Rattle.pair.specs.States.{all_states, grades_in, grades_of}
use Rattle.pair.specs.Units.{over_grades, hundredths}

-- element k of a list made from a function
pub nth_counting : {X : Type 0} (f : ℕ → X) (n k : ℕ) → slice_get (map f (range_with_len 0 n)) k ≡ cond (nat_lt k n) (Some (f k)) None
nth_counting f n k =
    ⊎_elim
    (λ below.
    let test : ltb k n ≡ true = lt-ltb k n below in
    let inside : k < length (map f (range_with_len 0 n)) = rw length-map-range_with_len below in
    rw test (slice_get-get_or (map f (range_with_len 0 n)) k (f k) inside ∙ ap Some (get_or-map-range_with_len f 0 n k k (f k) below (zero-add k))))
    (λ past.
    let test : ltb k n ≡ false = le-ltb k n past in
    let outside : length (map f (range_with_len 0 n)) ≤ k = rw length-map-range_with_len past in
    rw test (slice_get_past (map f (range_with_len 0 n)) k outside))
    (cases_lt k n)

-- f 0 + .. + f (n - 1)
abbrev pub sum_below : (ℕ → ℕ) → ℕ → ℕ
sum_below f zero = 0
sum_below f (suc n) = sum_below f n + f n

pub over_grades_is : (f : ℕ → ℕ) (n : ℕ) → over_grades f n ≡ sum_below (λ i. f (i + 1)) n
over_grades_is f zero = refl
over_grades_is f (suc n) = ap (λ t. t + f (n + 1)) (over_grades_is f n)

pub sum_alike : (f g : ℕ → ℕ) (n : ℕ) → ((i : ℕ) → i < n → f i ≡ g i) → sum_below f n ≡ sum_below g n
sum_alike f g zero same = refl
sum_alike f g (suc n) same =
    let before = sum_alike f g n (λ i below. same i (omega arith)) in
    let last = same n (omega arith) in
    omega arith

sum_scaled : (f : ℕ → ℕ) (c n : ℕ) → sum_below (λ i. f i * c) n ≡ sum_below f n * c
sum_scaled f c zero = sym (zero-mul c)
sum_scaled f c (suc n) = ap (λ t. t + f n * c) (sum_scaled f c n) ∙ sym (add-mul (sum_below f n) (f n) c)

sum_split : (f : ℕ → ℕ) (m n : ℕ) → sum_below f (m + n) ≡ sum_below f m + sum_below (λ i. f (m + i)) n
sum_split f m zero = simp (add-zero)
sum_split f m (suc n) = rw add-suc (ap (λ t. t + f (m + n)) (sum_split f m n) ∙ add_assoc (sum_below f m) (sum_below (λ i. f (m + i)) n) (f (m + n)))

-- A sum over a table of h rows of w places, where each entry is a product of a number for its place and one for its row,
-- is the product of the two sums.
pub sum_of_products : (f g : ℕ → ℕ) (w h : ℕ) → 0 < w → sum_below (λ k. f (k % w) * g (k / w)) (w * h) ≡ sum_below f w * sum_below g h
sum_of_products f g w zero some = simp (mul-zero)
sum_of_products f g w (suc h) some =
    let entry : ℕ → ℕ = λ k. f (k % w) * g (k / w) in
    let in_row : (i : ℕ) → i < w → entry (w * h + i) ≡ f i * g h = λ i below.
    let place : (w * h + i) % w ≡ i = mul-add-mod_self_left w h i ∙ mod-eq_of_lt below in
    let none : i / w ≡ 0 = div-eq_of_lt below in
    let row : (w * h + i) / w ≡ h = omega (arith, mul-add-div some h i) in
    ap (λ p. f p * g ((w * h + i) / w)) place ∙ ap (λ r. f i * g r) row in
    let row_sum : sum_below (λ i. entry (w * h + i)) w ≡ sum_below f w * g h = sum_alike (λ i. entry (w * h + i)) (λ i. f i * g h) w in_row ∙ sum_scaled f (g h) w in
    let before : sum_below entry (w * h) ≡ sum_below f w * sum_below g h = sum_of_products f g w h some in
    let split : sum_below entry (w * h + w) ≡ sum_below entry (w * h) + sum_below (λ i. entry (w * h + i)) w = sum_split entry (w * h) w in
    let more : w * suc h ≡ w * h + w = mul-suc w h in
    let whole : sum_below f w * (sum_below g h + g h) ≡ sum_below f w * sum_below g h + sum_below f w * g h = mul-add (sum_below f w) (sum_below g h) (g h) in
    ap (sum_below entry) more ∙ omega (arith, split, row_sum, before, whole)

pub weights_sum : (os : List Outcome) → weights os ≡ sum_by (λ o. o.weight) os
weights_sum [] = refl
weights_sum (o ∷ os) = ap (λ t. o.weight + t) (weights_sum os) ∙ sym (sum_by-cons (λ o. o.weight) o os)

sum_counting : (f : ℕ → Outcome) (n : ℕ) → sum_by (λ o. o.weight) (map f (range_with_len 0 n)) ≡ sum_below (λ k. (f k).weight) n
sum_counting f zero = refl
sum_counting f (suc n) =
    ap (λ t. sum_by (λ (o : Outcome). o.weight) (map f (range_with_len 0 t))) (sym (add-one n)) ∙ sum_by-map-range_with_len_more (λ o. o.weight) f 0 n n (zero-add n) ∙ ap (λ t. t + (f n).weight) (sum_counting f n)

-- the weights of outcomes made from a function of the index
pub weights_counting : (f : ℕ → Outcome) (n : ℕ) → weights (map f (range_with_len 0 n)) ≡ sum_below (λ k. (f k).weight) n
weights_counting f n = weights_sum (map f (range_with_len 0 n)) ∙ sum_counting f n

pub inside_counting : (f : ℕ → Outcome) (a n m : ℕ) → ((k : ℕ) → (f k).next ≡ k) → a + n ≤ m → Inside m (map f (range_with_len a n))
inside_counting f a zero m leads most = tt
inside_counting f a (suc n) m leads most = (omega (arith, leads a), inside_counting f (a + 1) n m leads (omega arith))

-- outcome k of a portfolio that the state allows is absent where there is no state k
pub no_outcome : (n : PairNumbers) (s x k : ℕ) → pair_feasible n s x ≡ true → None ≡ grades_of n k → None ≡ slice_get (outcomes_of (pair_model n) s x) k
no_outcome n s x k test none = rw test (past (nat_lt k (all_states n)) none ∙ sym (nth_counting (outcome_by n (moved_by n s x)) (all_states n) k))
  where
    past : (b : Bool) → None ≡ cond b (Some (grades_in n k)) None → None ≡ cond b (Some (outcome_by n (moved_by n s x) k)) None
    past true e = absurd (cc)
    past false e = refl

-- and has the weight of the rows by which the units move otherwise
pub some_outcome : (n : PairNumbers) (s x k w : ℕ) (g : Grades) → pair_feasible n s x ≡ true → Some g ≡ grades_of n k → w ≡ hundredths n.one (moved_by n s x).one g.one * hundredths n.two (moved_by n s x).two g.two → Some (record { next = k; weight = w }) ≡ slice_get (outcomes_of (pair_model n) s x) k
some_outcome n s x k w g test some weighs = rw test (inside (nat_lt k (all_states n)) some ∙ sym (nth_counting (outcome_by n (moved_by n s x)) (all_states n) k))
  where
    inside : (b : Bool) → Some g ≡ cond b (Some (grades_in n k)) None → Some (record { next = k; weight = w }) ≡ cond b (Some (outcome_by n (moved_by n s x) k)) None
    inside true e =
        let same : g ≡ grades_in n k = cc in
        ap (λ v. Some (record { next = k; weight = v })) (weighs ∙ ap (λ h. hundredths n.one (moved_by n s x).one h.one * hundredths n.two (moved_by n s x).two h.two) same)
    inside false e = absurd (cc)

some_only : {X : Type 0} (b : Bool) (x y : X) → Some x ≡ cond b (Some y) None → (b ≡ true) × (x ≡ y)
some_only true x y e = (refl, cc)
some_only false x y e = absurd (cc)

-- the same by the rows that the state allows
pub outcome_listed : (n : PairNumbers) (s x k : ℕ) (g : Grades) (r : Option Outcome) → Some g ≡ rows_of n s x → r ≡ cond (nat_lt k (all_states n)) (Some (outcome_by n g k)) None → r ≡ slice_get (outcomes_of (pair_model n) s x) k
outcome_listed n s x k g r moved is =
    let only = some_only (pair_feasible n s x) g (moved_by n s x) moved in
    let test : pair_feasible n s x ≡ true = only.0 in
    rw test (is ∙ ap (λ h. cond (nat_lt k (all_states n)) (Some (outcome_by n h k)) None) only.1 ∙ sym (nth_counting (outcome_by n (moved_by n s x)) (all_states n) k))
