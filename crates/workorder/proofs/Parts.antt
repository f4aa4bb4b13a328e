-- The numbers that `a..=b` gives. Assumes nothing.
use Rattle.std.proofs.Common.{◌≡◌, ℕ, zero, suc, ◌+◌, ◌-◌, ◌<◌, ◌≤◌, List, ◌∷◌, Some, Bool, true, false, refl, sym, ap, ◌∙◌, subst, inl, inr, arith}
use Rattle.std.proofs.iter.runs.Sources.{nat_range_inclusive_steps}
use Rattle.std.proofs.lemmas.Bool.{cases_eq}
use Rattle.std.proofs.lemmas.Iterator.{YieldsList}
use Rattle.std.proofs.lemmas.Iterator.Consumers.{YieldsList-from_shown}
use Rattle.std.proofs.lemmas.List.FromFn.{length-range_with_len}
use Rattle.std.specs.List.{range_with_len}
use Rattle.std.specs.Range.{range_inclusive_end, range_inclusive_exhausted, range_inclusive_left, range_inclusive_len, range_inclusive_start}
use Rattle.std.specs.declared.ops.RangeInclusive.{RangeInclusive}
use mathlib.Core.List.{Memᴰ as In}

-- how many numbers are left, and which
abbrev left : RangeInclusive ℕ → ℕ
left s = range_inclusive_left (λ x y. y - x) s

abbrev listed : RangeInclusive ℕ → List ℕ
listed s = range_with_len (range_inclusive_start s) (left s)

-- one number more
next : (s t : RangeInclusive ℕ) (x : ℕ) → nat_range_inclusive_steps s (Some x) t → listed s ≡ x ∷ listed t
next s t x e = by (left t) refl (range_inclusive_exhausted t) refl
  where
    here : (n : ℕ) → left t ≡ n → listed s ≡ x ∷ range_with_len (range_inclusive_start s + 1) n
    here n z = let a : left s ≡ suc n = omega (arith, e.1.1) in ap (λ k. range_with_len (range_inclusive_start s) k) a ∙ ap (λ k. k ∷ range_with_len (range_inclusive_start s + 1) n) (sym e.1.0)

    by : (n : ℕ) → left t ≡ n → (b : Bool) → range_inclusive_exhausted t ≡ b → listed s ≡ x ∷ listed t
    by zero z b q = here 0 z ∙ ap (λ k. x ∷ range_with_len (range_inclusive_start t) k) (sym z)
    by (suc n) z true q = absurd (let none : left t ≡ 0 = ap (range_inclusive_len (λ x y. y - x) (range_inclusive_start t) (range_inclusive_end t)) q in omega arith)
    by (suc n) z false q = here (left t) refl ∙ ap (λ k. x ∷ range_with_len k (left t)) (sym (e.1.2 q))

yields : (s : RangeInclusive ℕ) → YieldsList nat_range_inclusive_steps (λ x. x) s (listed s)
yields = YieldsList-from_shown nat_range_inclusive_steps (λ x. x) listed (λ s t e. omega (arith, length-range_with_len (range_inclusive_start s) (left s), e.1.0)) (λ s x t e. next s t x e)

abbrev pub from_to : ℕ → ℕ → List ℕ
from_to a b = range_with_len a (b + 1 - a)

pub given : {s : RangeInclusive ℕ} (a b : ℕ) → range_inclusive_start s ≡ a → range_inclusive_end s ≡ b → range_inclusive_exhausted s ≡ false → YieldsList nat_range_inclusive_steps (λ x. x) s (from_to a b)
given {s} a b p q fresh =
    let many : left s ≡ b + 1 - a = omega (arith, p, q, ap (range_inclusive_len (λ x y. y - x) (range_inclusive_start s) (range_inclusive_end s)) fresh) in
    subst (λ (xs : List ℕ). YieldsList nat_range_inclusive_steps (λ x. x) s xs) (ap (λ k. range_with_len k (left s)) p ∙ ap (range_with_len a) many) (yields s)

pub in_from_to : (a b i : ℕ) → a ≤ i → i ≤ b → In i (from_to a b)
in_from_to a b i l h = among a (b + 1 - a) l (omega arith)
  where
    among : (a n : ℕ) → a ≤ i → i < a + n → In i (range_with_len a n)
    among a zero l h = absurd (omega arith)
    among a (suc n) l h = elim (cases_eq i a) [ inl e ↦ In.head e | inr d ↦ In.tail (among (a + 1) n (omega arith) (omega arith)) ]
