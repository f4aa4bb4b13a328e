-- A chain of two parts, each with two ages and no hazard.
use Rattle.std.proofs.Common.{◌≡◌, ℕ, ◌<◌, ◌≤◌, ◌∷◌, ◌++◌, get_or, replicate, refl, subst, inl, inr, arith, lit≤}
use Rattle.chain.specs.Renewals.{everything_holds}
use Rattle.chain.specs.Chains.{Renewable}
use Rattle.chain.specs.Laws.{SomeChain}
use Rattle.chain.specs.Limits.{most_charge}
use Rattle.chain.specs.Parts.{LawfulPart, blank, part_of}
use Rattle.chain.specs.States.{failed_in}
use Rattle.chain.specs.declared.numbers.ChainNumbers.{ChainNumbers}
use Rattle.chain.specs.declared.numbers.Part.{Part}
use Rattle.std.proofs.lemmas.Nat.{mod_below}
use Rattle.std.proofs.lemmas.Bool.{cases_lt}
use Rattle.workorder.proofs.Worked.{figures}
use Rattle.workorder.specs.Figures.{arc, row}
use Rattle.workorder.specs.Orders.{NoneDearer}
use mathlib.Core.List.Memᴰ
use mathlib.Core.Logic.{∥∥₁_map}

abbrev steady : ℕ → Part
steady surplus = record { life = 2; hazards = replicate 20 0; surplus = surplus; dark = 0 }

abbrev example : ChainNumbers
example = record { count = 2; threshold = 0; setup = 1000; alarm = 0; parts = steady 1092 ∷ steady 0 ∷ replicate 4 blank; arc_count = 3; arcs = row ++ replicate 39 (arc 0 0 0) }

no_hazard : (age : ℕ) → age < 2 → get_or (replicate 20 0) age 0 ≤ 10000
no_hazard age below = elim (cases_lt age 1) [ inl h ↦ (let z : 0 ≡ age = omega arith in subst (λ (k : ℕ). get_or (replicate 20 0) k 0 ≤ 10000) z (omega arith)) | inr h ↦ (let z : 1 ≡ age = omega arith in subst (λ (k : ℕ). get_or (replicate 20 0) k 0 ≤ 10000) z (omega arith)) ]

lawful_part : (surplus : ℕ) → surplus ≤ most_charge → LawfulPart (steady surplus)
lawful_part surplus most = ((omega arith, omega arith), (most, omega arith), no_hazard)

each_part : (i : ℕ) → 1 ≤ i → i ≤ 2 → LawfulPart (part_of example i)
each_part i some most =
    elim (cases_lt i 2) [
      | inl h ↦ (let one : 1 ≡ i = omega arith in subst (λ (k : ℕ). LawfulPart (part_of example k)) one (lawful_part 1092 (omega arith)))
      | inr h ↦ (let two : 2 ≡ i = omega arith in subst (λ (k : ℕ). LawfulPart (part_of example k)) two (lawful_part 0 (omega arith)))
    ]

cheap : NoneDearer most_charge row
cheap a m =
    elim (Memᴰ.cases_cons m) [
      | inl e ↦ rw e (omega arith)
      | inr m ↦ elim (Memᴰ.cases_cons m) [
        | inl e ↦ rw e (omega arith)
        | inr m ↦ elim (Memᴰ.cases_cons m) [ inl e ↦ rw e (omega arith) | inr m ↦ absurd (Memᴰ.not-nil m) ]
      ]
    ]

always : Renewable example
always s inside = record {
  state = inside;
  portfolio = omega arith;
  failure = λ some. everything_holds example (failed_in example s) some (omega (arith, mod_below s 3 (omega arith)));
  worn = λ i some most _. everything_holds example i some most;
  order = ∥∥₁_map figures.row_both.0 (λ o. (891, o));
  survives = (lit≤ tt, lit≤ tt);
}

pub some_chain : SomeChain
some_chain = record {
  numbers = example;
  lawful = record { terms = ((omega arith, omega arith), omega arith, (omega arith, omega arith), lit≤ tt); parts = each_part; arcs = cheap };
  few = lit≤ tt;
  renewable = always;
  arcs = refl;
  setup = refl;
  alarm = refl;
  surplus = refl;
  failed = refl;
}
