-- Sums and products over the parts of a chain, as `map` and what ends it make them. Assumes nothing.
use Rattle.std.proofs.Common.{◌≡◌, ℕ, zero, suc, ◌+◌, ◌*◌, ◌<◌, ◌≤◌, List, [], ◌∷◌, Bor, length, get_or, fold, map, take, sym, ap, ◌∙◌, arith}
use Rattle.chain.proofs.Places.{part_at}
use Rattle.chain.specs.Over.{over_parts}
use Rattle.chain.specs.Parts.{blank, part_of}
use Rattle.chain.specs.declared.numbers.ChainNumbers.{ChainNumbers}
use Rattle.chain.specs.declared.numbers.Part.{Part}
use Rattle.std.proofs.iter.Yields.{fronts}
use Rattle.std.proofs.iter.runs.Made.{runs_from_along}
use Rattle.std.proofs.lemmas.Iterator.{YieldsList, YieldsList-from_map, YieldsList-from_slice, maps}
use Rattle.std.proofs.lemmas.Iterator.Adapters.{total_from_yields_List}
use Rattle.std.proofs.lemmas.Iterator.Consumers.{YieldsList-so_far}
use Rattle.std.proofs.lemmas.List.{get_or-map, get_or-take, length-map, length-take}
use Rattle.std.specs.Bool.{⊤}
use Rattle.std.specs.Fn.{Called}
use Rattle.std.specs.Iterator.{Drains, Yields}
use Rattle.std.specs.Iterator.Adapters.{map_callee, map_source}
use Rattle.std.specs.Iterator.Runs.{EachRunFrom}
use Rattle.std.specs.Slice.Iter.{iter_rest}
use Rattle.std.specs.declared.iter.Map.{Map}
use Rattle.std.proofs.Common.{Iter}
use denote.Param.Members.{Mut}
use mathlib.Core.List.{map-id}

-- made k is what the first k parts give, where `read` is taken of each
module _ (n : ChainNumbers) (read : Part → ℕ) (step : ℕ → ℕ → ℕ) (made : ℕ → ℕ) (more : (k : ℕ) → made (k + 1) ≡ step (made k) (read (part_of n (k + 1)))) where
  -- a list has what is read of the parts after the first k
  abbrev After : ℕ → List ℕ → Type 0
  After k xs = (i : ℕ) → i < length xs → get_or xs i 0 ≡ read (part_of n (k + i + 1))

  folded : (xs : List ℕ) (k : ℕ) → After k xs → fold step (made k) xs ≡ made (k + length xs)
  folded [] k is = let e : k ≡ k + 0 = omega arith in ap made e
  folded (x ∷ xs) k is =
      let first : k + 0 + 1 ≡ k + 1 = omega arith in
      let here : step (made k) x ≡ made (k + 1) = ap (step (made k)) (is 0 (omega arith) ∙ ap (λ j. read (part_of n j)) first) ∙ sym (more k) in
      let later : After (k + 1) xs = λ i l. (let e : k + suc i + 1 ≡ k + 1 + i + 1 = omega arith in is (suc i) (omega arith) ∙ ap (λ j. read (part_of n j)) e) in
      let end : k + 1 + length xs ≡ k + suc (length xs) = omega arith in
      ap (λ a. fold step a xs) here ∙ folded xs (k + 1) later ∙ ap made end

  from_first : (xs : List ℕ) → After 0 xs → fold step (made 0) xs ≡ made (length xs)
  from_first xs is = let e : 0 + length xs ≡ length xs = omega arith in folded xs 0 is ∙ ap made e

  module _ (ps : List Part) (is : ps ≡ take n.count n.parts) (long : length ps ≡ n.count) where
    each : After 0 (map read ps)
    each i l =
        let inside : i < length ps = omega (arith, length-map ps read) in
        let e : i + 1 ≡ 0 + i + 1 = omega arith in
        get_or-map read ps i blank 0 inside ∙ ap read (part_at n ps i is long inside) ∙ ap (λ j. read (part_of n j)) e

    -- what `map` gives of a slice of the parts
    module _ {F : Type 0} {s : Map (Iter Part) F} (from : iter_rest (map_source s) ≡ ps) (g : Mut F (Bor Part × Unit {0}) ℕ) {f : F} (closure : map_callee s ≡ f) (reads : (x : Bor Part) (r : ℕ) (q : F) → Called g f (x, tt) r q → (q ≡ f) × (r ≡ read x.now)) where
      road : YieldsList (maps fronts g) (λ r. r) s (map read ps)
      road = YieldsList-from_map g read (YieldsList-from_slice ps from) closure reads

      pub total : (r : ℕ) → ((xs : List ℕ) × (⊤ → Drains (maps fronts g) s xs) × (r ≡ fold step (made 0) xs)) → r ≡ made n.count
      total r ran = total_from_yields_List step (made 0) r ran road ∙ from_first (map read ps) each ∙ ap made (length-map ps read ∙ long)

      pub fits : (top : ℕ) → ((k : ℕ) → k ≤ n.count → made k < top) → EachRunFrom (maps fronts g) s (λ p. fold step (made 0) p.items < top)
      fits top small = runs_from_along (maps fronts g) s (λ xs. fold step (made 0) xs < top) along
        where
          along : (xs : List ℕ) (t : Map (Iter Part) F) → Yields (maps fronts g) s xs t → fold step (made 0) xs < top
          along xs t y =
              let front : xs ≡ take (length xs) (map read ps) = sym (map-id xs) ∙ YieldsList-so_far road xs t y in
              let few : length xs ≤ n.count = omega (arith, ap length front, length-take (length xs) (map read ps), length-map ps read) in
              let these : After 0 xs = λ i l. ap (λ (zs : List ℕ). get_or zs i 0) front ∙ get_or-take (length xs) (map read ps) i 0 l ∙ each i (omega (arith, length-map ps read)) in
              omega (arith, from_first xs these, small (length xs) few)

-- a sum over k parts, each at most b
pub over_at_most : (f : ℕ → ℕ) (b k : ℕ) → ((i : ℕ) → 1 ≤ i → i ≤ k → f i ≤ b) → over_parts f k ≤ b * k
over_at_most f b zero most = omega arith
over_at_most f b (suc k) most = omega (arith, over_at_most f b k (λ i some l. most i some (omega arith)), most (k + 1) (omega arith) (omega arith))
