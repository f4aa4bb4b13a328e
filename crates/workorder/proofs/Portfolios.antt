-- The parts of a portfolio, by the binary digits of its number. Assumes nothing.
use Rattle.std.proofs.Common.{◌≡◌, ℕ, zero, suc, ◌-◌, ◌*◌, ◌/◌, ◌%◌, ◌^◌, ◌<◌, ◌≤◌, sym, refl, ap, ◌∙◌, inl, inr, mod-eq_of_lt, arith, pow_pos, pow_mono}
use Rattle.std.proofs.lemmas.Bool.{cases_lt}
use Rattle.workorder.specs.Orders.{Holds}
use Rattle.workorder.specs.Steps.{without}
use lib.Count.{ones, ones_step}
use native.Mathlib.Nat.{div-div-eq-div-mul, div-eq_of_lt, pow-succ'}

abbrev digit : ℕ → ℕ → ℕ
digit x k = (x / 2 ^ k) % 2

-- the next digit of x is a digit of its half
digit_half : (x k : ℕ) → digit x (suc k) ≡ digit (x / 2) k
digit_half x k = rw (pow-succ' 2 k, ← (div-div-eq-div-mul x 2 (2 ^ k)))

pub power_within : (x k : ℕ) → digit x k ≡ 1 → 2 ^ k ≤ x
power_within x k h = elim (cases_lt x (2 ^ k)) [ inl l ↦ absurd (let z : x / 2 ^ k ≡ 0 = div-eq_of_lt l in omega arith) | inr l ↦ l ]

half_less : (x k : ℕ) → (x - 2 ^ suc k) / 2 ≡ x / 2 - 2 ^ k
half_less x k = let p : 2 ^ suc k ≡ 2 * 2 ^ k = pow-succ' 2 k in omega arith

cleared : (k x : ℕ) → digit x k ≡ 1 → digit (x - 2 ^ k) k ≡ 0
cleared zero x h = omega arith
cleared (suc k) x h = rw (digit_half, half_less) (cleared k (x / 2) (rw digit_half at h))

kept : (k j x : ℕ) → digit x k ≡ 1 → (j ≡ k → ⊥) → digit (x - 2 ^ k) j ≡ digit x j
kept zero zero x h d = absurd (d refl)
kept zero (suc j) x h d = let e : (x - 1) / 2 ≡ x / 2 = omega arith in rw (digit_half (x - 1) j, digit_half x j, e)
kept (suc k) zero x h d = let p : 2 ^ suc k ≡ 2 * 2 ^ k = pow-succ' 2 k in let q : 2 ^ suc k ≤ x = power_within x (suc k) h in omega arith
kept (suc k) (suc j) x h d = rw (digit_half (x - 2 ^ suc k) j, half_less, digit_half x j) (kept k j (x / 2) (rw digit_half at h) (λ e. d (ap suc e)))

-- a number that is not 0 has a digit 1
some_digit : (n x : ℕ) → x < 2 ^ n → 0 < x → (k : ℕ) × (digit x k ≡ 1)
some_digit zero x l p = absurd (omega arith)
some_digit (suc n) x l p =
    elim (cases_lt (x % 2) 1) [
      | inl e ↦ let q : 2 ^ suc n ≡ 2 * 2 ^ n = pow-succ' 2 n in let r = some_digit n (x / 2) (omega arith) (omega arith) in (suc r.0, digit_half x r.0 ∙ r.1)
      | inr e ↦ (0, omega arith)
    ]

-- a portfolio below 2 ^ n holds only parts up to n
pub part_within : (n x i : ℕ) → x < 2 ^ n → Holds x i → i ≤ n
part_within n x i l h =
    elim (cases_lt n i) [
      | inl g ↦ absurd (let p : n ≤ i - 1 = omega arith in let q : 2 ^ n ≤ 2 ^ (i - 1) = pow_mono p in let r : 2 ^ (i - 1) ≤ x = power_within x (i - 1) h.1 in omega arith)
      | inr g ↦ g
    ]

-- a part and its portfolio, with another part's number
pub without_less : (x i : ℕ) → Holds x i → without x i < x
without_less x i h = let p : 2 ^ (i - 1) ≤ x = power_within x (i - 1) h.1 in omega (arith, pow_pos (i - 1))

pub holds_without : (x i j : ℕ) → Holds x i → Holds (without x i) j → (j ≡ i → ⊥) × Holds x j
holds_without x i j h g = (apart, (g.0, sym (kept (i - 1) (j - 1) x h.1 lower) ∙ g.1))
  where
    apart : j ≡ i → ⊥
    apart e = let same = ap (λ (k : ℕ). digit (without x i) (k - 1)) e in omega (arith, cleared (i - 1) x h.1)

    lower : j - 1 ≡ i - 1 → ⊥
    lower e = apart (let p : 1 ≤ j = g.0 in let q : 1 ≤ i = h.0 in omega arith)

pub holds_others : (x i j : ℕ) → Holds x i → Holds x j → (j ≡ i → ⊥) → Holds (without x i) j
holds_others x i j h g d = (g.0, kept (i - 1) (j - 1) x h.1 lower ∙ g.1)
  where
    lower : j - 1 ≡ i - 1 → ⊥
    lower e = d (let p : 1 ≤ j = g.0 in let q : 1 ≤ i = h.0 in omega arith)

-- portfolio 0, and no other, holds no part
pub none_in_zero : (i : ℕ) → Holds 0 i → ⊥
none_in_zero i h = let p : 2 ^ (i - 1) ≤ 0 = power_within 0 (i - 1) h.1 in omega (arith, pow_pos (i - 1))

below_power : (x : ℕ) → x < 2 ^ x
below_power zero = omega arith
below_power (suc x) = omega (arith, below_power x, pow-succ' 2 x)

pub zero_from_none : (x : ℕ) → ((i : ℕ) → Holds x i → ⊥) → x ≡ 0
zero_from_none x h =
    elim (cases_lt 0 x) [
      | inl p ↦ absurd (let d = some_digit x x (below_power x) p in h (suc d.0) (omega arith, holds_at d.0 d.1))
      | inr p ↦ omega arith
    ]
  where
    holds_at : (k : ℕ) → digit x k ≡ 1 → digit x (suc k - 1) ≡ 1
    holds_at k e = let q : suc k - 1 ≡ k = omega arith in rw q e

-- a portfolio has one part more than it has without a part
pub ones_without : (x i : ℕ) → Holds x i → ones x ≡ suc (ones (without x i))
ones_without x i h = fewer (i - 1) x h.1
  where
    fewer : (k y : ℕ) → digit y k ≡ 1 → ones y ≡ suc (ones (y - 2 ^ k))
    fewer zero y e = let h : (y - 1) / 2 ≡ y / 2 = omega arith in let f = ap ones h in omega (arith, ones_step y, ones_step (y - 1))
    fewer (suc k) y e =
        let f = fewer k (y / 2) (rw digit_half at e) in
        let p : 2 ^ suc k ≡ 2 * 2 ^ k = pow-succ' 2 k in
        let q : 2 ^ suc k ≤ y = power_within y (suc k) e in
        let g : ones ((y - 2 ^ suc k) / 2) ≡ ones (y / 2 - 2 ^ k) = ap ones (half_less y k) in
        omega (arith, ones_step y, ones_step (y - 2 ^ suc k))

-- the number that a part counts, as w bits hold it
pub part_counts : (w x i : ℕ) → x < 2 ^ w → Holds x i → (i - 1 < w) × ((1 * 2 ^ (i - 1)) % 2 ^ w ≡ 2 ^ (i - 1)) × (2 ^ (i - 1) ≤ x)
part_counts w x i l h =
    let p : 2 ^ (i - 1) ≤ x = power_within x (i - 1) h.1 in
    let q : i ≤ w = part_within w x i l h in
    let r : 1 ≤ i = h.0 in
    let one : 1 * 2 ^ (i - 1) ≡ 2 ^ (i - 1) = omega arith in
    let less : 2 ^ (i - 1) < 2 ^ w = omega arith in
    (omega arith, ap (λ (n : ℕ). n % 2 ^ w) one ∙ mod-eq_of_lt less, p)
