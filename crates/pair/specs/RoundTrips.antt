-- States and their numbers turn into each other without loss.
use Rattle.std.specs.Prelude.{◌≡◌, ℕ, zero, suc, ◌+◌, ◌-◌, ◌*◌, ◌/◌, ◌%◌, ◌<◌, ◌≤◌, true, ◌&&◌, Some, nat_lt}
use Rattle.std.proofs.Common.{ap, ◌∙◌, arith, mod-eq_of_lt}
use Rattle.std.proofs.Math.Nat.{add-mul-div_left, add-mul-mod_self_left, div-eq_of_lt}
use Rattle.std.proofs.lemmas.Nat.{mul-add-lt, div_below, mod_below, div-add-mod'}
use Rattle.std.proofs.lemmas.Bool.{ltb-true, lt-ltb}
use Rattle.std.proofs.lemmas.Bool.Decides.{nat_tests}
use Rattle.pair.specs.declared.numbers.PairNumbers.{PairNumbers}
use Rattle.pair.specs.declared.states.Grades.{Grades}
use Rattle.pair.specs.States.{all_states, grades_in, has_grade, state_of, grades_of, WithoutLoss}

same_grades : (g h : Grades) → g.one ≡ h.one → g.two ≡ h.two → g ≡ h
same_grades g h p q = λ i. record { one = p i; two = q i }

-- the place b of row a, where a row has w places
row_of : (b w a : ℕ) → b < w → (b + w * a) / w ≡ a
row_of b w a h =
    let some : 0 < w = omega arith in
    let none : b / w ≡ 0 = div-eq_of_lt h in
    omega (arith, add-mul-div_left b a some, none)

place_of : (b w a : ℕ) → b < w → (b + w * a) % w ≡ b
place_of b w a h = add-mul-mod_self_left b w a ∙ mod-eq_of_lt h

pub both_graded : (n : PairNumbers) (g : Grades) (s : ℕ) → state_of n g ≡ Some s → (has_grade n.one g.one && has_grade n.two g.two) ≡ true
both_graded n g s e = grind arith

back : (n : PairNumbers) (g : Grades) (s : ℕ) → state_of n g ≡ Some s → grades_of n s ≡ Some g
back n g s e =
    let w = n.one.grades in
    let b = g.one - 1 in
    let a = g.two - 1 in
    let t = both_graded n g s e in
    let is : s ≡ b + w * a = grind arith in
    let one : (1 ≤ g.one) × (g.one ≤ w) = grind (arith, nat_tests) in
    let two : (1 ≤ g.two) × (g.two ≤ n.two.grades) = grind (arith, nat_tests) in
    let below : b < w = omega arith in
    let inside : s < all_states n = omega (arith, mul-add-lt a w b n.two.grades (omega arith) below) in
    let place : s % w ≡ b = ap (λ k. k % w) is ∙ place_of b w a below in
    let row : s / w ≡ a = ap (λ k. k / w) is ∙ row_of b w a below in
    let same : grades_in n s ≡ g = same_grades (grades_in n s) g (omega arith) (omega arith) in
    let test : nat_lt s (all_states n) ≡ true = lt-ltb s (all_states n) inside in
    rw test (ap Some same)

positive : (w h s : ℕ) → s < w * h → 0 < w
positive zero h s below = absurd (omega arith)
positive (suc w) h s below = omega arith

forth : (n : PairNumbers) (s : ℕ) (g : Grades) → grades_of n s ≡ Some g → state_of n g ≡ Some s
forth n s g e =
    let w = n.one.grades in
    let test : nat_lt s (all_states n) ≡ true = grind arith in
    let inside : s < all_states n = ltb-true s (all_states n) test in
    let one : g.one ≡ s % w + 1 = grind arith in
    let two : g.two ≡ s / w + 1 = grind arith in
    let some : 0 < w = positive w n.two.grades s inside in
    let place : s % w < w = mod_below s w some in
    let row : s / w < n.two.grades = div_below s w n.two.grades some (omega arith) in
    let graded : (has_grade n.one g.one && has_grade n.two g.two) ≡ true = grind (arith, nat_tests) in
    let split : s / w * w + s % w ≡ s = div-add-mod' s w in
    let less : g.two - 1 ≡ s / w = omega arith in
    let same : (g.one - 1) + w * (g.two - 1) ≡ s = rw less (omega arith) in
    rw graded (ap Some same)

pub without_loss : (n : PairNumbers) → WithoutLoss n
without_loss n = record { back = back n; forth = forth n }

-- the grades of a state are grades of the units
pub grades_within : (n : PairNumbers) (s : ℕ) → s < all_states n → ((1 ≤ (grades_in n s).one) × ((grades_in n s).one ≤ n.one.grades)) × ((1 ≤ (grades_in n s).two) × ((grades_in n s).two ≤ n.two.grades))
grades_within n s inside =
    let w = n.one.grades in
    let some : 0 < w = positive w n.two.grades s inside in
    let place : s % w < w = mod_below s w some in
    let row : s / w < n.two.grades = div_below s w n.two.grades some (omega arith) in
    omega arith
