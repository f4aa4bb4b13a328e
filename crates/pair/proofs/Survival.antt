-- The survival of a pair is what those outcomes weigh in which no unit is failed, and no outcome that can happen makes a unit better.
use Rattle.std.proofs.Common.{◌≡◌, ℕ, zero, suc, ◌+◌, ◌-◌, ◌*◌, ◌/◌, ◌%◌, ◌<◌, ◌≤◌, Bool, true, false, cond, not, ◌&&◌, eqb, [], ◌∷◌, map, sum_by, filter, sym, refl, ap, ◌∙◌, ⊎_elim, mul-zero, zero-add, zero-mul, add-one, arith}
use Rattle.std.specs.List.{range_with_len}
use Rattle.std.proofs.lemmas.List.FromFn.{filter_of_map_range_with_len_more}
use Rattle.std.proofs.lemmas.List.Sums.{sum_by-append}
use Rattle.std.proofs.lemmas.Bool.{ne_eqb, eq-eqb, cases_lt}
use Rattle.interface.specs.declared.plant.Outcome.{Outcome}
use Rattle.interface.specs.Plants.{weights}
use Rattle.pair.specs.declared.numbers.PairNumbers.{PairNumbers}
use Rattle.pair.specs.declared.numbers.UnitNumbers.{UnitNumbers}
use Rattle.pair.specs.Laws.{none_failed, PairLaws}
use Rattle.pair.specs.Pairs.{LawfulNumbers, moved_by, survival, outcome_by, pair_feasible, pair_outcomes}
use Rattle.pair.specs.States.{all_states, grades_in}
use Rattle.pair.specs.Units.{LawfulUnit, Working, hundredths, staying, failed, over_grades}
use Rattle.pair.specs.LawsLemmas.{both_work}
use Rattle.pair.specs.Outcomes.{sum_below, sum_alike, over_grades_is, sum_of_products, weights_sum}

-- the weights of those outcomes that pass a test
kept_weights : (p : Outcome → Bool) (f : ℕ → Outcome) (n : ℕ) → sum_by (λ o. o.weight) (filter p (map f (range_with_len 0 n))) ≡ sum_below (λ k. cond (p (f k)) (f k).weight 0) n
kept_weights p f zero = refl
kept_weights p f (suc n) =
    let w : Outcome → ℕ = λ o. o.weight in
    let more = filter_of_map_range_with_len_more p f 0 n n (zero-add n) in
    let last : (b : Bool) → sum_by w (cond b (f n ∷ []) []) ≡ cond b (f n).weight 0 = λ b. elim b as (λ v. sum_by w (cond v (f n ∷ []) []) ≡ cond v (f n).weight 0) [ true ↦ zero-add (f n).weight | false ↦ refl ] in
    ap (λ t. sum_by w (filter p (map f (range_with_len 0 t)))) (sym (add-one n)) ∙ ap (sum_by w) more ∙ sum_by-append w (filter p (map f (range_with_len 0 n))) (cond (p (f n)) (f n ∷ []) []) ∙ ap (λ t. t + sum_by w (cond (p (f n)) (f n ∷ []) [])) (kept_weights p f n) ∙ ap (λ t. sum_below (λ k. cond (p (f k)) (f k).weight 0) n + t) (last (p (f n)))

both_tests : (a b : Bool) (x y : ℕ) → cond (a && b) (x * y) 0 ≡ cond a x 0 * cond b y 0
both_tests true true x y = refl
both_tests true false x y = sym (mul-zero x)
both_tests false b x y = sym (zero-mul (cond b y 0))

-- the sum over all grades but the last
but_last : (h : ℕ → ℕ) (g : ℕ) → 1 ≤ g → sum_below (λ i. cond (not (eqb (i + 1) g)) (h (i + 1)) 0) g ≡ over_grades h (g - 1)
but_last h zero some = absurd (omega arith)
but_last h (suc m) some =
    let kept : ℕ → ℕ = λ i. cond (not (eqb (i + 1) (suc m))) (h (i + 1)) 0 in
    let before : (i : ℕ) → i < m → kept i ≡ h (i + 1) = λ i below. let other : eqb (i + 1) (suc m) ≡ false = ne_eqb (i + 1) (suc m) (omega arith) in rw other in
    let here : eqb (m + 1) (suc m) ≡ true = eq-eqb (m + 1) (suc m) (omega arith) in
    let last : kept m ≡ 0 = rw here in
    let less : suc m - 1 ≡ m = omega arith in
    let all = sum_alike kept (λ i. h (i + 1)) m before in
    let same = over_grades_is h m in
    rw less (omega (arith, all, same, last))

pub survives : (n : PairNumbers) (s x : ℕ) → LawfulNumbers n → weights (filter (λ o. none_failed n o.next) (pair_outcomes n s x)) ≡ survival n s x
survives n s x l =
    let g = moved_by n s x in
    let one = hundredths n.one g.one in
    let two = hundredths n.two g.two in
    let w = n.one.grades in
    let f : ℕ → ℕ = λ i. cond (not (eqb (i + 1) w)) (one (i + 1)) 0 in
    let h : ℕ → ℕ = λ i. cond (not (eqb (i + 1) n.two.grades)) (two (i + 1)) 0 in
    let listed = kept_weights (λ o. none_failed n o.next) (outcome_by n g) (all_states n) in
    let entry : ℕ → ℕ = λ k. cond (none_failed n k) (outcome_by n g k).weight 0 in
    let apart = sum_alike entry (λ k. f (k % w) * h (k / w)) (all_states n) (λ k _. both_tests (not (failed n.one (grades_in n k).one)) (not (failed n.two (grades_in n k).two)) (one (k % w + 1)) (two (k / w + 1))) in
    let product = sum_of_products f h w n.two.grades (omega (arith, l.1.0.0)) in
    let stay-one : sum_below f w ≡ staying n.one g.one = but_last one w (omega (arith, l.1.0.0)) in
    let stay-two : sum_below h n.two.grades ≡ staying n.two g.two = but_last two n.two.grades (omega (arith, l.2.0.0)) in
    weights_sum (filter (λ o. none_failed n o.next) (pair_outcomes n s x)) ∙ listed ∙ apart ∙ product ∙ ap (λ t. t * sum_below h n.two.grades) stay-one ∙ ap (λ t. staying n.one g.one * t) stay-two

-- a next grade that can come is not better
not_better : (u : UnitNumbers) (g h : ℕ) → LawfulUnit u → Working u g → 1 ≤ h → 0 < hundredths u g h → g ≤ h
not_better u g h l works some can =
    ⊎_elim
    (λ (better : h < g). let never = l.1 g h (works, some, better) in absurd (omega arith))
    (λ fine. fine)
    (cases_lt h g)

factors : (a b : ℕ) → 0 < a * b → (0 < a) × (0 < b)
factors zero b can = absurd (omega arith)
factors (suc a) zero can = absurd (omega arith)
factors (suc a) (suc b) can = omega arith

pub wears : (n : PairNumbers) (s x k : ℕ) → LawfulNumbers n → pair_feasible n s x ≡ true → 0 < (outcome_by n (moved_by n s x) k).weight → ((moved_by n s x).one ≤ (grades_in n k).one) × ((moved_by n s x).two ≤ (grades_in n k).two)
wears n s x k l test can =
    let g = moved_by n s x in
    let work = both_work n s x l test in
    let both = factors (hundredths n.one g.one (grades_in n k).one) (hundredths n.two g.two (grades_in n k).two) can in (
      not_better n.one g.one (grades_in n k).one l.1 work.0 (omega arith) both.0,
      not_better n.two g.two (grades_in n k).two l.2 work.1 (omega arith) both.1,
    )

pub pair_laws : (n : PairNumbers) → LawfulNumbers n → PairLaws n
pair_laws n l = record { survives = λ s x. survives n s x l; wears = λ s x k test can. wears n s x k l test can }
