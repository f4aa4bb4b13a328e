-- Sums over grades.
use Rattle.std.proofs.Common.{◌≡◌, ℕ, zero, suc, ◌+◌, ◌-◌, ◌≤◌, ap, ⊎_elim, arith}
use Rattle.std.proofs.lemmas.Bool.{cases_lt}
use Rattle.pair.specs.Units.{over_grades}

pub last_grade : (f : ℕ → ℕ) (n : ℕ) → 1 ≤ n → over_grades f n ≡ over_grades f (n - 1) + f n
last_grade f zero h = absurd (omega arith)
last_grade f (suc n) h =
    let before : suc n - 1 ≡ n = omega arith in
    let same : n + 1 ≡ suc n = omega arith in
    simp (before, same)

pub part_of_whole : (f : ℕ → ℕ) (n h : ℕ) → 1 ≤ h → h ≤ n → f h ≤ over_grades f n
part_of_whole f zero h some most = absurd (omega arith)
part_of_whole f (suc n) h some most =
    ⊎_elim
    (λ below. omega (arith, part_of_whole f n h some (omega arith)))
    (λ (last : suc n ≤ h).
    let here : h ≡ n + 1 = omega arith in
    let so : f h ≡ f (n + 1) = ap f here in
    omega arith)
    (cases_lt h (suc n))
