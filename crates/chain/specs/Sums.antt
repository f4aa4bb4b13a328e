-- Sums, products and tests over parts.
use Rattle.std.specs.Prelude.{◌≡◌, ℕ, zero, suc, ◌+◌, ◌-◌, ◌*◌, ◌^◌, ◌<◌, ◌≤◌, Bool, true, false, ◌≢◌, List, length, Decides, slice_set, refl}
use Rattle.std.proofs.lemmas.Nat.{mul-le}
use Rattle.chain.specs.Over.{Entries, over_parts, product, every}
use Rattle.std.proofs.lemmas.Bool.{and_from, and_parts, both_ways, cases_Bool, cases_lt}
use Rattle.std.proofs.Common.{get_or-set_same, get_or-set_other, inl, inr, ap, ◌∙◌, pow-suc, add-one, arith}
use Rattle.std.proofs.Math.Nat.{pow-zero}

-- one part more
pub over_more : (f : ℕ → ℕ) (k : ℕ) → over_parts f (k + 1) ≡ over_parts f k + f (k + 1)
over_more f k = ap (over_parts f) (add-one k)

pub product_more : (f : ℕ → ℕ) (k : ℕ) → product f (k + 1) ≡ product f k * f (k + 1)
product_more f k = ap (product f) (add-one k)

-- alike functions have one sum
pub over_alike : (f g : ℕ → ℕ) (k : ℕ) → ((i : ℕ) → 1 ≤ i → i ≤ k → f i ≡ g i) → over_parts f k ≡ over_parts g k
over_alike f g zero same = refl
over_alike f g (suc k) same =
    let before = over_alike f g k (λ i some most. same i some (omega arith)) in
    let last = same (k + 1) (omega arith) (omega arith) in
    omega arith

pub product_positive : (f : ℕ → ℕ) (k : ℕ) → ((i : ℕ) → 1 ≤ i → i ≤ k → 1 ≤ f i) → 1 ≤ product f k
product_positive f zero some = omega arith
product_positive f (suc k) some = one_each (product f k) (f (k + 1)) (product_positive f k (λ i l m. some i l (omega arith))) (some (k + 1) (omega arith) (omega arith))
  where
    one_each : (a b : ℕ) → 1 ≤ a → 1 ≤ b → 1 ≤ a * b
    one_each zero b h g = absurd (omega arith)
    one_each (suc a) zero h g = absurd (omega arith)
    one_each (suc a) (suc b) h g = omega arith

-- what a test of every part says
pub every_decides : (p : ℕ → Bool) (P : ℕ → Type 0) (k : ℕ) → ((i : ℕ) → 1 ≤ i → i ≤ k → Decides (p i) (P i)) → Decides (every p k) ((i : ℕ) → 1 ≤ i → i ≤ k → P i)
every_decides p P zero each = (λ _ i some most. absurd (omega arith), λ _. refl)
every_decides p P (suc k) each =
    let before = every_decides p P k (λ i some most. each i some (omega arith)) in (
      λ t i some most. let both = and_parts (every p k) (p (k + 1)) t in
          elim (cases_lt i (suc k)) [
            | inl below ↦ before.0 both.0 i some (omega arith)
            | inr last ↦ (let here : i ≡ k + 1 = omega arith in (each i some most).0 (ap p here ∙ both.1))
          ],
      λ h. and_from (every p k) (p (k + 1)) (before.1 (λ i some most. h i some (omega arith))) ((each (k + 1) (omega arith) (omega arith)).1 (h (k + 1) (omega arith) (omega arith))),
    )

-- one entry more of a table
pub entries_more : (f : ℕ → ℕ) (k v : ℕ) (xs : List ℕ) → k < length xs → v ≡ f (k + 1) → Entries f k xs → Entries f (k + 1) (slice_set xs k v)
entries_more f k v xs room is before i some most =
    elim (cases_lt i (k + 1)) [
      | inl h ↦ (let other : i - 1 ≢ k = omega arith in rw get_or-set_other (before i some (omega arith)))
      | inr h ↦ (let here : i ≡ k + 1 = omega arith in let less : k + 1 - 1 ≡ k = omega arith in rw (here, less, get_or-set_same xs k v 0 room) is)
    ]

-- a product of k factors, each at most b
pub product_at_most : (f : ℕ → ℕ) (b k : ℕ) → ((i : ℕ) → 1 ≤ i → i ≤ k → f i ≤ b) → product f k ≤ b ^ k
product_at_most f b zero most = omega (arith, pow-zero b)
product_at_most f b (suc k) most =
    omega (arith, pow-suc b k, mul-le (product f k) (f (k + 1)) (b ^ k) b (product_at_most f b k (λ i some l. most i some (omega arith))) (most (k + 1) (omega arith) (omega arith)))

pub every_more : (p : ℕ → Bool) (k : ℕ) → every p k ≡ true → p (k + 1) ≡ true → every p (k + 1) ≡ true
every_more p k before here = ap (every p) (add-one k) ∙ and_from (every p k) (p (k + 1)) before here

pub every_not : (p : ℕ → Bool) (k i : ℕ) → 1 ≤ i → i ≤ k → p i ≡ false → every p k ≡ false
every_not p k i some most fails =
    elim (cases_Bool (every p k)) [
      | inl all ↦ absurd (both_ways (p i) fails ((every_decides p (λ j. p j ≡ true) k (λ j _ _. (λ e. e, λ e. e))).0 all i some most))
      | inr e ↦ e
    ]
