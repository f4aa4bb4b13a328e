-- A pair keeps the laws of a plant.
use Rattle.std.specs.Prelude.{◌≡◌, ℕ, ◌+◌, ◌*◌, ◌<◌, ◌≤◌, Bool, true, false, cond, ◌&&◌, ◌==◌, nat_le, nat_lt, refl}
use Rattle.std.proofs.Common.{ap, sym, ◌∙◌, arith, lit≤}
use Rattle.std.proofs.lemmas.Nat.{mul-le}
use Rattle.std.proofs.lemmas.List.FromFn.{length-map-range_with_len}
use Rattle.std.proofs.lemmas.Bool.{and_parts, ltb-true}
use Rattle.std.proofs.lemmas.Bool.Decides.{nat_tests}
use Rattle.interface.specs.Limits.{whole}
use Rattle.interface.specs.Plants.{Lawful, LawfulBill, LawfulOutcomes, weights}
use Rattle.pair.specs.declared.numbers.PairNumbers.{PairNumbers}
use Rattle.pair.specs.declared.numbers.UnitNumbers.{UnitNumbers}
use Rattle.pair.specs.Limits.{most_charge, most_dark, hundred}
use Rattle.pair.specs.Pairs.{LawfulNumbers, Renewable, BothWorking, moved_by, all_attended, pair_feasible, pair_bill, pair_outcomes, outcome_by, pair_model, survival}
use Rattle.pair.specs.Portfolios.{nothing, both_units, all_portfolios, renews_one, renews_two}
use Rattle.pair.specs.States.{all_states, grades_in}
use Rattle.pair.specs.Units.{Working, LawfulUnit, attended, failed, row_grade, renewal_cents, dark_seconds, hundredths}
use Rattle.pair.specs.Outcomes.{sum_below, over_grades_is, sum_of_products, weights_counting, inside_counting}
use Rattle.pair.specs.RoundTrips.{grades_within}

some_states : (n : PairNumbers) → LawfulNumbers n → 1 ≤ all_states n
some_states n l = mul-le 1 1 n.one.grades n.two.grades (omega (arith, l.1.0.0)) (omega (arith, l.2.0.0))

few_states : (n : PairNumbers) → LawfulNumbers n → all_states n ≤ 64
few_states n l = mul-le n.one.grades n.two.grades 8 8 l.1.0.1 l.2.0.1

-- the two halves of the test: the ranges, and the renewals with the survival
halves : (n : PairNumbers) (s x : ℕ) → pair_feasible n s x ≡ true → ((nat_lt s (all_states n) && nat_lt x all_portfolios) ≡ true) × ((all_attended n s x && nat_le n.threshold (survival n s x)) ≡ true)
halves n s x test = and_parts (nat_lt s (all_states n) && nat_lt x all_portfolios) (all_attended n s x && nat_le n.threshold (survival n s x)) test

in_range : (n : PairNumbers) (s x : ℕ) → pair_feasible n s x ≡ true → (s < all_states n) × (x < all_portfolios)
in_range n s x test = let range = and_parts _ _ (halves n s x test).0 in (ltb-true _ _ range.0, ltb-true _ _ range.1)

-- a unit that is renewed or not failed moves by a row that it has
row_works : (u : UnitNumbers) (renewed : Bool) (g : ℕ) → 2 ≤ u.grades → 1 ≤ g → g ≤ u.grades → attended u renewed g ≡ true → Working u (row_grade renewed g)
row_works u true g least some most test = omega arith
row_works u false g least some most test = grind (arith, nat_tests)

pub both_work : (n : PairNumbers) (s x : ℕ) → LawfulNumbers n → pair_feasible n s x ≡ true → BothWorking n (moved_by n s x)
both_work n s x l test =
    let range = in_range n s x test in
    let within = grades_within n s range.0 in
    let both = and_parts _ _ (and_parts _ _ (halves n s x test).1).0 in (
      row_works n.one (renews_one x) (grades_in n s).one l.1.0.0 within.0.0 within.0.1 both.0,
      row_works n.two (renews_two x) (grades_in n s).two l.2.0.0 within.1.0 within.1.1 both.1,
    )

one_of : (b : Bool) (x y m : ℕ) → x ≤ m → y ≤ m → cond b x y ≤ m
one_of true x y m p q = p
one_of false x y m p q = q

dark_few : (u : UnitNumbers) (g : ℕ) → LawfulUnit u → dark_seconds u g ≤ most_dark
dark_few u g l = one_of (failed u g) u.dark 0 most_dark l.2.2 (omega arith)

renewal_few : (u : UnitNumbers) (renewed : Bool) (g : ℕ) → LawfulUnit u → renewal_cents u renewed g ≤ most_charge
renewal_few u renewed g l =
    one_of renewed (cond (failed u g) u.forced u.planned) 0 most_charge
    (one_of (failed u g) u.forced u.planned most_charge l.2.1 l.2.0)
    (omega arith)

lawful_bill : (n : PairNumbers) (s x : ℕ) → LawfulNumbers n → LawfulBill (pair_bill n s x)
lawful_bill n s x l =
    let g = grades_in n s in
    let setup = one_of (x == nothing) 0 n.setup most_charge (omega arith) l.0.1 in
    record {
      dark = omega (arith, dark_few n.one g.one l.1, dark_few n.two g.two l.2);
      paid = omega (arith, l.0.2, setup, renewal_few n.one (renews_one x) g.one l.1, renewal_few n.two (renews_two x) g.two l.2);
    }

-- The weights of the outcomes: a product of two sums of 100.
pub weights_whole : (n : PairNumbers) (s x : ℕ) → LawfulNumbers n → pair_feasible n s x ≡ true → weights (pair_outcomes n s x) ≡ whole
weights_whole n s x l test =
    let g = moved_by n s x in
    let work = both_work n s x l test in
    let one = hundredths n.one g.one in
    let two = hundredths n.two g.two in
    let row_one : sum_below (λ i. one (i + 1)) n.one.grades ≡ hundred = sym (over_grades_is one n.one.grades) ∙ l.1.0.2 g.one work.0 in
    let row-two : sum_below (λ i. two (i + 1)) n.two.grades ≡ hundred = sym (over_grades_is two n.two.grades) ∙ l.2.0.2 g.two work.1 in
    weights_counting (outcome_by n g) (all_states n) ∙ sum_of_products (λ i. one (i + 1)) (λ i. two (i + 1)) n.one.grades n.two.grades (omega (arith, l.1.0.0)) ∙ ap (λ t. t * sum_below (λ i. two (i + 1)) n.two.grades) row_one ∙ ap (λ t. 100 * t) row-two

lawful_outcomes : (n : PairNumbers) (s x : ℕ) → LawfulNumbers n → pair_feasible n s x ≡ true → LawfulOutcomes (all_states n) (pair_outcomes n s x)
lawful_outcomes n s x l test =
    let long = length-map-range_with_len (outcome_by n (moved_by n s x)) 0 (all_states n) in
    record {
      some = omega (arith, long, some_states n l);
      few = omega (arith, long, few_states n l);
      inside = inside_counting (outcome_by n (moved_by n s x)) 0 (all_states n) (all_states n) (λ k. refl) (omega arith);
      shared = weights_whole n s x l test;
    }

pub pair_lawful : (n : PairNumbers) → LawfulNumbers n → Renewable n → Lawful (pair_model n)
pair_lawful n l renewable = record {
  some_states = some_states n l;
  few_states = omega (arith, few_states n l);
  some_portfolios = lit≤ tt;
  few_portfolios = lit≤ tt;
  in_range = in_range n;
  way_out = λ s inside. (both_units, renewable s inside);
  billed = λ s x _. lawful_bill n s x l;
  spread = λ s x test. lawful_outcomes n s x l test;
}
