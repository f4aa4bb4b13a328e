-- Numbers and lists are read exactly from their texts.
use Rattle.std.proofs.Common.{◌≡◌, ℕ, zero, suc, ◌^◌, ◌<◌, ◌≤◌, Bool, true, false, cond, eqb, leb, List, [], ◌∷◌, map, length, Some, None, decimal, Option, sym, refl, ap, ◌∙◌, subst, arith}
use Rattle.std.specs.List.{AllByRecursion}
use Rattle.std.proofs.lemmas.Bool.{leb-true, le-leb, cond-true}
use Rattle.lines.specs.Cuts.{Free}
use Rattle.lines.specs.Fields.{comma, fields, widened, joined}
use Rattle.lines.specs.Numeral.{numeral}
use Rattle.lines.proofs.DigitLaws.{decimal_free}
use Rattle.lines.proofs.FieldLaws.{fields_joined, joined_fields}
use Rattle.lines.proofs.NumeralLaws.{numeral_law, numeral_decimal}
use Rattle.reading.specs.Values.{at_least, number_between, in_front, numbers_of, list_of, ReadsBetween, ReadsList}

at_least_some : (least n : ℕ) (o : Option ℕ) → at_least least o ≡ Some n → (o ≡ Some n) × (least ≤ n)
at_least_some least n None e = let z : ◌≡◌ {A = ℕ} 0 1 = cc in absurd (omega arith)
at_least_some least n (Some m) e = tested (leb least m) refl e
  where
    tested : (t : Bool) → leb least m ≡ t → cond t (Some m) None ≡ Some n → (Some m ≡ Some n) × (least ≤ n)
    tested true q e = let same : m ≡ n = cc in (e, omega (arith, leb-true least m q))
    tested false q e = let z : ◌≡◌ {A = ℕ} 0 1 = cc in absurd (omega arith)

pub between_law : (s : List ℕ) (least most : ℕ) → most < 2 ^ 64 → ReadsBetween s least most (number_between s least most)
between_law s least most small n = (
  (λ e. let o = at_least_some least n (numeral s most) e in let r = (numeral_law s most small n).0 o.0 in (r.0, o.1, r.1)),
  (λ h. ap (at_least least) (ap (λ t. numeral t most) h.0 ∙ numeral_decimal n most small h.2) ∙ cond-true _ _ _ (le-leb least n h.1)),
)

record Fronted (o : Option ℕ) (p : Option (List ℕ)) (ns : List ℕ) : Type 0 where
  n : ℕ
  ms : List ℕ
  first : o ≡ Some n
  rest : p ≡ Some ms
  is : ns ≡ n ∷ ms

fronted : (o : Option ℕ) (p : Option (List ℕ)) (ns : List ℕ) → in_front o p ≡ Some ns → Fronted o p ns
fronted None p ns e = let z : ◌≡◌ {A = ℕ} 0 1 = cc in absurd (omega arith)
fronted (Some n) None ns e = let z : ◌≡◌ {A = ℕ} 0 1 = cc in absurd (omega arith)
fronted (Some n) (Some ms) ns e = record { n = n; ms = ms; first = refl; rest = refl; is = cc }

module _ (most : ℕ) (small : most < 2 ^ 64) where
  numbers_from : (fs : List (List ℕ)) (count : ℕ) (ns : List ℕ) → numbers_of fs most count ≡ Some ns → (fs ≡ map decimal ns) × (length ns ≡ count) × AllByRecursion (λ n. n ≤ most) ns
  numbers_from [] zero [] e = (refl, refl, tt)
  numbers_from [] zero (n ∷ ns) e = let z : ◌≡◌ {A = ℕ} 0 1 = cc in absurd (omega arith)
  numbers_from [] (suc count) ns e = let z : ◌≡◌ {A = ℕ} 0 1 = cc in absurd (omega arith)
  numbers_from (f ∷ fs) zero ns e = let z : ◌≡◌ {A = ℕ} 0 1 = cc in absurd (omega arith)
  numbers_from (f ∷ fs) (suc count) ns e =
      let h = fronted (numeral f most) (numbers_of fs most count) ns e in
      let one = (numeral_law f most small h.n).0 h.first in
      let more = numbers_from fs count h.ms h.rest in
      subst
      (λ l. ((f ∷ fs) ≡ map decimal l) × (length l ≡ suc count) × AllByRecursion (λ n. n ≤ most) l)
      (sym h.is)
      ((λ i. one.0 i ∷ more.0 i), ap suc more.1, (one.1, more.2))

  numbers_back : (ns : List ℕ) → AllByRecursion (λ n. n ≤ most) ns → numbers_of (map decimal ns) most (length ns) ≡ Some ns
  numbers_back [] h = refl
  numbers_back (n ∷ ns) h = (λ i. in_front (numeral_decimal n most small h.0 i) (numbers_back ns h.1 i))

  decimals_free : (ns : List ℕ) → AllByRecursion (λ n. n ≤ most) ns → AllByRecursion (Free comma) (map decimal ns)
  decimals_free [] h = tt
  decimals_free (n ∷ ns) h = (decimal_free comma (omega arith) n (omega (arith, h.0)), decimals_free ns h.1)

  length_decimals : (ns : List ℕ) → length (map decimal ns) ≡ length ns
  length_decimals [] = refl
  length_decimals (n ∷ ns) = ap suc (length_decimals ns)

some_widened : (x : ℕ) (fs : List (List ℕ)) → 0 < length (widened x fs)
some_widened x [] = omega arith
some_widened x (f ∷ fs) = omega arith

some_field : (s : List ℕ) → 0 < length (fields s)
some_field [] = omega arith
some_field (x ∷ xs) = either (eqb x comma)
  where
    either : (t : Bool) → 0 < length (cond t ([] ∷ fields xs) (widened x (fields xs)))
    either true = omega arith
    either false = some_widened x (fields xs)

pub list_law : (s : List ℕ) (most count : ℕ) → most < 2 ^ 64 → ReadsList s most count (list_of s most count)
list_law s most count small ns = (
  (λ e.
      let h = numbers_from most small (fields s) count ns e in
      let some : 0 < count = omega (arith, some_field s, ap length h.0, length_decimals most small ns, h.1) in
      (sym (joined_fields s) ∙ ap joined h.0, some, h.1, h.2)),
  (λ h.
      let some : 0 < length (map decimal ns) = omega (arith, length_decimals most small ns, h.1, h.2) in
      let cut : fields s ≡ map decimal ns = ap fields h.0 ∙ fields_joined (map decimal ns) some (decimals_free most small ns h.3) in
      ap (λ fs. numbers_of fs most count) cut ∙ ap (numbers_of (map decimal ns) most) (sym h.2) ∙ numbers_back most small ns h.3),
)
