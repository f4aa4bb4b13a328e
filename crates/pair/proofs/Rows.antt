-- What the tests of rows say.
use Rattle.std.proofs.Common.{◌≡◌, ℕ, zero, suc, ◌+◌, ◌-◌, ◌<◌, ◌≤◌, Bool, true, List, [], ◌∷◌, length, get_or, take, sum, refl, sym, ap, ◌∙◌, subst, ⊎_elim, arith, Decides}
use Rattle.std.specs.List.{list_all, range_with_len}
use Rattle.std.proofs.lemmas.List.{take_all, get_or_past, get_or-take, length-take}
use Rattle.std.proofs.lemmas.List.Sums.{sum_by_more}
use Rattle.std.proofs.lemmas.Bool.{cases_lt, eqb-true, eq-eqb, and_parts, and_from}
use Rattle.pair.specs.declared.numbers.UnitNumbers.{UnitNumbers}
use Rattle.pair.specs.Limits.{hundred}
use Rattle.pair.specs.Units.{over_grades, row_at, all_zero, row_test, rows_test, LawfulRow, WholeRows, NoReturn, Working}

-- the first grades of a row, added up
pub over_take : (hs : List ℕ) (n : ℕ) → over_grades (λ h. get_or hs (h - 1) 0) n ≡ sum (take n hs)
over_take hs zero = refl
over_take hs (suc n) =
    let back : (n + 1) - 1 ≡ n = omega arith in
    let one : suc n ≡ n + 1 = omega arith in
    let here : get_or hs ((n + 1) - 1) 0 ≡ get_or hs n 0 = ap (λ k. get_or hs k 0) back in
    let next : take (suc n) hs ≡ take (n + 1) hs = ap (λ k. take k hs) one in
    ⊎_elim
    (λ (l : n < length hs). omega (arith, over_take hs n, here, ap sum next, sum_by_more (λ x. x) hs n 0 l))
    (λ (l : length hs ≤ n). omega (arith, over_take hs n, here, get_or_past hs n 0 l, ap sum (take_all n hs l), ap sum (take_all (suc n) hs (omega arith))))
    (cases_lt n (length hs))

pub zero_at : (hs : List ℕ) (k : ℕ) → all_zero hs ≡ true → get_or hs k 0 ≡ 0
zero_at [] k e = refl
zero_at (h ∷ hs) zero e = eqb-true h 0 (and_parts _ _ e).0
zero_at (h ∷ hs) (suc k) e = zero_at hs k (and_parts _ _ e).1

pub zero_from : (hs : List ℕ) → ((i : ℕ) → i < length hs → get_or hs i 0 ≡ 0) → all_zero hs ≡ true
zero_from [] h = refl
zero_from (x ∷ hs) h = and_from _ _ (eq-eqb x 0 (h 0 (omega arith))) (zero_from hs (λ i l. h (suc i) (omega arith)))

-- a test of each number of a range
range_passes : (p : ℕ → Bool) (a n : ℕ) → list_all p (range_with_len a n) ≡ true → (g : ℕ) → a ≤ g → g < a + n → p g ≡ true
range_passes p a zero e g low high = absurd (omega arith)
range_passes p a (suc n) e g low high =
    ⊎_elim
    (λ (l : a < g). range_passes p (a + 1) n (and_parts _ _ e).1 g (omega arith) (omega arith))
    (λ (l : g ≤ a). let same : a ≡ g = omega arith in subst (λ k. p k ≡ true) same (and_parts _ _ e).0)
    (cases_lt a g)

range_from : (p : ℕ → Bool) (a n : ℕ) → ((g : ℕ) → a ≤ g → g < a + n → p g ≡ true) → list_all p (range_with_len a n) ≡ true
range_from p a zero h = refl
range_from p a (suc n) h = and_from _ _ (h a (omega arith) (omega arith)) (range_from p (a + 1) n (λ g low high. h g (omega arith) (omega arith)))

row_says : (u : UnitNumbers) (g : ℕ) → 1 ≤ g → row_test u g ≡ true → LawfulRow u g
row_says u g some e =
    let parts = and_parts _ _ e in (
      over_take (row_at u g) u.grades ∙ eqb-true _ hundred parts.0,
      (λ h low high. sym (get_or-take (g - 1) (row_at u g) (h - 1) 0 (omega arith)) ∙ zero_at (take (g - 1) (row_at u g)) (h - 1) parts.1),
    )

row_passes : (u : UnitNumbers) (g : ℕ) → 1 ≤ g → LawfulRow u g → row_test u g ≡ true
row_passes u g some l = and_from _ _ (eq-eqb _ hundred (sym (over_take (row_at u g) u.grades) ∙ l.0)) (zero_from (take (g - 1) (row_at u g)) before)
  where
    before : (i : ℕ) → i < length (take (g - 1) (row_at u g)) → get_or (take (g - 1) (row_at u g)) i 0 ≡ 0
    before i inside =
        let below : i < g - 1 = omega (arith, length-take (g - 1) (row_at u g)) in
        let back : (i + 1) - 1 ≡ i = omega arith in
        get_or-take (g - 1) (row_at u g) i 0 below ∙ ap (λ k. get_or (row_at u g) k 0) (sym back) ∙ l.1 (i + 1) (omega arith) (omega arith)

-- the tests of all rows decide that they are lawful
pub rows_decided : (u : UnitNumbers) → Decides (rows_test u) (WholeRows u × NoReturn u)
rows_decided u = (
  (λ e. let each : (g : ℕ) → Working u g → LawfulRow u g = λ g w. row_says u g w.0 (range_passes (row_test u) 1 (u.grades - 1) e g w.0 (omega (arith, w.1))) in
      ((λ g w. (each g w).0), (λ g h w. (each g w.0).1 h w.1 w.2))),
  (λ l. range_from (row_test u) 1 (u.grades - 1) (λ g low high.
      let works : Working u g = (low, omega arith) in
      row_passes u g low (l.0 g works, (λ h some below. l.1 g h (works, some, below))))),
)
