-- A loop over `(1..).zip(..)` of a slice: which number and which element a turn has, and how many turns there were. Assumes nothing.
use Rattle.std.proofs.Common.{◌≡◌, ℕ, suc, ◌+◌, ◌-◌, ◌^◌, ◌<◌, ◌≤◌, ◌⊎◌, List, [], ◌∷◌, length, get_or, drop, Option, Some, None, MatchOption, Bor, Iter, sym, ap, subst, ◌∙◌, inl, inr, arith, length-drop, get_or-drop}
use Rattle.std.proofs.iter.Yields.{fronts}
use Rattle.std.proofs.lemmas.Iterator.{zips}
use Rattle.std.specs.Iterator.{Yields}
use Rattle.std.specs.Iterator.Adapters.{zip_first, zip_second}
use Rattle.std.specs.Slice.Iter.{iter_rest}
use Rattle.std.specs.declared.iter.Zip.{Zip}
use Rattle.std.specs.declared.ops.RangeFrom.{RangeFrom}

-- the greatest number, where `a..` ends
abbrev pub greatest : ℕ
greatest = 2 ^ 64 - 1

-- a step of `a..`
abbrev pub upward : RangeFrom ℕ → Option ℕ → RangeFrom ℕ → Type 0
upward s r t = MatchOption r ((greatest - s.start ≡ 0) × (t ≡ s)) (λ x. (x ≡ s.start) × (t.start ≡ x + 1))

module _ {A : Type 0} where
  -- the number and the elements that are left
  abbrev number : Zip (RangeFrom ℕ) (Iter A) → ℕ
  number s = (zip_first s).start

  abbrev left : Zip (RangeFrom ℕ) (Iter A) → List A
  left s = iter_rest (zip_second s)

  so_far : (xs : List (ℕ × Bor A)) (s t : Zip (RangeFrom ℕ) (Iter A)) → Yields (zips upward fronts) s xs t
      → (number t ≡ number s + length xs) × (left t ≡ drop (length xs) (left s)) × (length xs ≤ length (left s))
  so_far [] s t y = (omega (arith, ap number y), ap left (sym y), omega arith)
  so_far (x ∷ xs) s t y =
      let k = so_far xs y.0 t y.2 in (
        omega (arith, k.0, y.1.0.0, y.1.0.1),
        k.1 ∙ sym (ap (drop (suc (length xs))) y.1.1),
        omega (arith, k.2, ap length y.1.1),
      )

  module _ (vs : List A) (xs : List (ℕ × Bor A)) (s t u : Zip (RangeFrom ℕ) (Iter A)) (r : Option (ℕ × Bor A)) (first : number s ≡ 1) (second : left s ≡ vs) (y : Yields (zips upward fronts) s xs t) where
    rest : left t ≡ drop (length xs) vs
    rest = (so_far xs s t y).1 ∙ ap (drop (length xs)) second

    -- the number and the element of a turn
    pub numbered_turn : (p : ℕ × Bor A) → r ≡ Some p → zips upward fronts t r u → (p.0 ≡ length xs + 1) × (length xs < length vs) × ((d : A) → p.1.now ≡ get_or vs (length xs) d)
    numbered_turn p e h =
        let k : zips upward fronts t (Some p) u = subst (λ o. zips upward fronts t o u) e h in
        let none : length xs + 0 ≡ length xs = omega arith in
        let here : p.1.now ∷ left u ≡ drop (length xs) vs = sym k.1 ∙ rest in (
          omega (arith, k.0.0, (so_far xs s t y).0, first),
          omega (arith, ap length here, length-drop (length xs) vs),
          λ d. ap (λ l. get_or l 0 d) here ∙ get_or-drop (length xs) vs 0 d ∙ ap (λ n. get_or vs n d) none,
        )

    -- the numbers do not end before the slice
    pub numbered_end : r ≡ None → zips upward fronts t r u → length vs + 1 < greatest → length xs ≡ length vs
    numbered_end e h few = by (subst (λ o. zips upward fronts t o u) e h)
      where
        by : ((v : RangeFrom ℕ) × upward (zip_first t) None v) ⊎ ((v : Iter A) × fronts (zip_second t) None v) → length xs ≡ length vs
        by (inl a) = absurd (omega (arith, a.1.0, (so_far xs s t y).0, (so_far xs s t y).2, first, few, ap length second))
        by (inr b) = omega (arith, b.1.0, (so_far xs s t y).2, ap length second, ap length rest, length-drop (length xs) vs)
