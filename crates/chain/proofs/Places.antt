-- The parts of a chain by their places in a slice of them.
use Rattle.std.proofs.Common.{◌≡◌, ℕ, ◌+◌, ◌-◌, ◌<◌, List, length, get_or, take, sym, ap, ◌∙◌, arith}
use Rattle.std.proofs.lemmas.List.{get_or-take}
use Rattle.chain.specs.Parts.{blank, hazard, life, part_of}
use Rattle.chain.specs.declared.numbers.ChainNumbers.{ChainNumbers}
use Rattle.chain.specs.declared.numbers.Part.{Part}

module _ (n : ChainNumbers) (ps : List Part) (i : ℕ) (is : ps ≡ take n.count n.parts) (long : length ps ≡ n.count) (inside : i < length ps) where
  pub part_at : get_or ps i blank ≡ part_of n (i + 1)
  part_at =
      let less : i + 1 - 1 ≡ i = omega arith in
      let below : i < n.count = omega arith in
      ap (λ (xs : List Part). get_or xs i blank) is ∙ get_or-take n.count n.parts i blank below ∙ ap (λ k. get_or n.parts k blank) (sym less)

  pub life_at : (get_or ps i blank).life ≡ life n (i + 1)
  life_at = ap (λ (p : Part). p.life) part_at

  pub hazard_at : (age : ℕ) → get_or (get_or ps i blank).hazards age 0 ≡ hazard n (i + 1) age
  hazard_at age = ap (λ (p : Part). get_or p.hazards age 0) part_at
