-- Which parts a portfolio renews, and at what age they start the window.
use Rattle.std.specs.Prelude.{◌≡◌, ℕ, zero, suc, ◌-◌, ◌*◌, ◌/◌, ◌%◌, ◌^◌, ◌<◌, ◌≤◌, Bool, true, false, cond, not, ◌||◌, Some, None, Decides, ◌==◌, nat_le, refl}
use Rattle.chain.specs.Sums.{every_decides}
use Rattle.chain.specs.Over.{every}
use Rattle.chain.specs.Parts.{life}
use Rattle.chain.specs.Portfolios.{FailureRenewed, WornRenewed, attended, everything, failure_renewed, renews, start_age, worn_renewed}
use Rattle.chain.specs.States.{age_in, failed_in}
use Rattle.chain.specs.declared.numbers.ChainNumbers.{ChainNumbers}
use Rattle.std.proofs.lemmas.Nat.{pow_pos}
use Rattle.std.proofs.lemmas.Bool.{cases_eq, eq-eqb, eqb-false, eqb-true, le-leb, leb-true, ne_eqb, not_from_false, not-true, or_cases, or_left, or_right}
use Rattle.std.proofs.lemmas.Bool.Decides.{Decides-and}
use Rattle.workorder.specs.Orders.{Holds}
use Rattle.std.proofs.Common.{inl, inr, ap, ◌∙◌, arith}
use Rattle.std.proofs.Math.Nat.{div-div-eq-div-mul, pow-succ'}

pub renews_decides : (x i : ℕ) → Decides (renews x i) (Holds x i)
renews_decides x i = Decides-and (nat_le 1 i) ((x / 2 ^ (i - 1)) % 2 == 1) (leb-true 1 i, le-leb 1 i) (eqb-true _ _, eq-eqb _ _)

-- the age at which one part starts, from whether it is renewed and whether it is worn
pub starts_some : (renewed worn : Bool) (age a : ℕ) → Some a ≡ cond renewed (Some 0) (cond worn None (Some age)) → (a ≡ cond renewed 0 age) × ((not worn || renewed) ≡ true)
starts_some true true age a e = (cc, refl)
starts_some true false age a e = (cc, refl)
starts_some false true age a e = let z : ◌≡◌ {A = ℕ} 0 1 = cc in absurd (omega arith)
starts_some false false age a e = (cc, refl)

pub starts_none : (renewed worn : Bool) (age : ℕ) → None ≡ cond renewed (Some 0) (cond worn None (Some age)) → (not worn || renewed) ≡ false
starts_none true worn age e = let z : ◌≡◌ {A = ℕ} 0 1 = cc in absurd (omega arith)
starts_none false true age e = refl
starts_none false false age e = let z : ◌≡◌ {A = ℕ} 0 1 = cc in absurd (omega arith)

-- the same of one part of a chain
pub part_starts : (n : ChainNumbers) (s x i age a : ℕ) (renewed : Bool) → age ≡ age_in n s i → renewed ≡ renews x i → Some a ≡ cond renewed (Some 0) (cond (age == life n i) None (Some age)) → (a ≡ start_age n s x i) × (attended n s x i ≡ true)
part_starts n s x i age a renewed p q e = starts_some (renews x i) (age_in n s i == life n i) (age_in n s i) a (e ∙ cc)

pub part_stuck : (n : ChainNumbers) (s x i age : ℕ) (renewed : Bool) → age ≡ age_in n s i → renewed ≡ renews x i → None ≡ cond renewed (Some 0) (cond (age == life n i) None (Some age)) → attended n s x i ≡ false
part_stuck n s x i age renewed p q e = starts_none (renews x i) (age_in n s i == life n i) (age_in n s i) (e ∙ cc)

digit_half : (x k : ℕ) → (x / 2 ^ suc k) % 2 ≡ (x / 2 / 2 ^ k) % 2
digit_half x k = rw (pow-succ' 2 k, ← (div-div-eq-div-mul x 2 (2 ^ k)))

-- the portfolio of all parts holds each of them
all_ones : (n k : ℕ) → k < n → ((2 ^ n - 1) / 2 ^ k) % 2 ≡ 1
all_ones zero k below = absurd (omega arith)
all_ones (suc n) zero below = let p : 2 ^ suc n ≡ 2 * 2 ^ n = pow-succ' 2 n in let q = pow_pos n in omega arith
all_ones (suc n) (suc k) below =
    let p : 2 ^ suc n ≡ 2 * 2 ^ n = pow-succ' 2 n in
    let q = pow_pos n in
    let half : (2 ^ suc n - 1) / 2 ≡ 2 ^ n - 1 = omega arith in
    digit_half (2 ^ suc n - 1) k ∙ ap (λ z. (z / 2 ^ k) % 2) half ∙ all_ones n k (omega arith)

pub everything_holds : (n : ChainNumbers) (i : ℕ) → 1 ≤ i → i ≤ n.count → Holds (everything n) i
everything_holds n i some most = (some, all_ones n.count (i - 1) (omega arith))

pub everything_renews : (n : ChainNumbers) (i : ℕ) → 1 ≤ i → i ≤ n.count → renews (everything n) i ≡ true
everything_renews n i some most = (renews_decides (everything n) i).1 (everything_holds n i some most)

-- what the test of the failed part says
pub failure_decides : (n : ChainNumbers) (s x : ℕ) → Decides (failure_renewed n s x) (FailureRenewed n s x)
failure_decides n s x = (there, back)
  where
    there : failure_renewed n s x ≡ true → FailureRenewed n s x
    there t some =
        elim (or_cases (failed_in n s == 0) (renews x (failed_in n s)) t) [
          | inl e ↦ absurd (let z = eqb-true (failed_in n s) 0 e in omega arith)
          | inr e ↦ (renews_decides x (failed_in n s)).0 e
        ]

    back : FailureRenewed n s x → failure_renewed n s x ≡ true
    back h =
        elim (cases_eq (failed_in n s) 0) [
          | inl z ↦ or_left (failed_in n s == 0) (renews x (failed_in n s)) (eq-eqb (failed_in n s) 0 z)
          | inr z ↦ or_right (failed_in n s == 0) (renews x (failed_in n s)) ((renews_decides x (failed_in n s)).1 (h (omega arith)))
        ]

-- what the test of the first k parts says, of those at their lives
pub worn_up_to : (n : ChainNumbers) (s x k : ℕ) → Decides (every (attended n s x) k) ((i : ℕ) → 1 ≤ i → i ≤ k → age_in n s i ≡ life n i → Holds x i)
worn_up_to n s x k = every_decides (attended n s x) (λ i. age_in n s i ≡ life n i → Holds x i) k (λ i _ _. (there i, back i))
  where
    there : (i : ℕ) → attended n s x i ≡ true → age_in n s i ≡ life n i → Holds x i
    there i t worn =
        elim (or_cases (not (age_in n s i == life n i)) (renews x i) t) [
          | inl e ↦ absurd (eqb-false (age_in n s i) (life n i) (not-true _ e) worn)
          | inr e ↦ (renews_decides x i).0 e
        ]

    back : (i : ℕ) → (age_in n s i ≡ life n i → Holds x i) → attended n s x i ≡ true
    back i h =
        elim (cases_eq (age_in n s i) (life n i)) [
          | inl z ↦ or_right (not (age_in n s i == life n i)) (renews x i) ((renews_decides x i).1 (h z))
          | inr z ↦ or_left (not (age_in n s i == life n i)) (renews x i) (not_from_false _ (ne_eqb (age_in n s i) (life n i) z))
        ]

pub worn_decides : (n : ChainNumbers) (s x : ℕ) → Decides (worn_renewed n s x) (WornRenewed n s x)
worn_decides n s x = worn_up_to n s x n.count
