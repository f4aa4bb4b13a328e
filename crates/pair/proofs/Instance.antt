-- One pair whose renewal just meets its threshold.
use Rattle.std.proofs.Common.{◌≡◌, ℕ, ◌+◌, ◌<◌, ◌≤◌, ◌∷◌, replicate, refl, arith}
use Rattle.std.proofs.lemmas.Bool.Decides.{nat_tests}
use Rattle.pair.specs.declared.numbers.PairNumbers.{PairNumbers}
use Rattle.pair.specs.declared.numbers.UnitNumbers.{UnitNumbers}
use Rattle.pair.specs.Laws.{SomePair}
use Rattle.pair.specs.Pairs.{Renewable}
use Rattle.pair.specs.Units.{LawfulUnit}

-- a unit of two grades, as good as new or failed
abbrev two_grades : ℕ → ℕ → UnitNumbers
two_grades stay fail = record { grades = 2; rows = (stay ∷ fail ∷ replicate 6 0) ∷ replicate 7 (replicate 8 0); planned = 0; forced = 0; dark = 0 }

only_new : (g : ℕ) → 1 ≤ g → g < 2 → g ≡ 1
only_new g some most = omega arith

lawful_unit : (stay fail : ℕ) → stay + fail ≡ 100 → LawfulUnit (two_grades stay fail)
lawful_unit stay fail whole = (
  (omega arith, omega arith, λ g works. let first : g ≡ 1 = only_new g works.0 works.1 in rw first (omega (arith, whole))),
  λ g h better. absurd (omega (arith, better.0.1, better.1, better.2)),
  (omega arith, omega arith, omega arith),
)

abbrev example : PairNumbers
example = record { threshold = 7200; setup = 0; inspect = 0; one = two_grades 90 10; two = two_grades 80 20 }

always : Renewable example
always s inside = grind (arith, nat_tests)

pub some_pair : SomePair
some_pair = record {
  numbers = example;
  lawful = ((omega arith, omega arith, omega arith), lawful_unit 90 10 refl, lawful_unit 80 20 refl);
  renewable = always;
  threshold = refl;
  one = refl;
  two = refl;
}
