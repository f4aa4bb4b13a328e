-- Amounts written place by place, and how long their numbers are.
use Rattle.std.proofs.Common.{◌≡◌, ℕ, zero, suc, ◌+◌, ◌^◌, ◌<◌, ◌≤◌, List, [], ◌∷◌, ◌++◌, map, length, take, ℤ, Some, decimal, sym, ap, ◌∙◌, add-one, arith}
use Rattle.std.proofs.lemmas.List.{append_assoc, take-map}
use lib.Signed.{mag}
use Rattle.std.specs.List.{slice_get}
use Rattle.std.specs.Option.{option_map}
use Rattle.std.specs.Fmt.{signed_decimal}
use Rattle.std.proofs.lemmas.Option.{slice_get-map}
use Rattle.std.proofs.lemmas.Fmt.{length-decimal-le, length_signed_le}
use Rattle.lines.specs.Fields.{comma, joined}
use Rattle.interface.specs.Rows.{Row}
use Rattle.plantext.specs.Lines.{amount}
use Rattle.plantext.specs.Spaces.{separated}

pub number_short : (n : ℕ) → n < 2 ^ 64 → length (decimal n) ≤ 20
number_short n small = length-decimal-le 20 n (omega arith) (omega arith) small

pub signed_short : (z : ℤ) → mag z < 2 ^ 63 → length (signed_decimal z) ≤ 20
signed_short z small = length_signed_le 19 z (omega arith) small

-- one field more of a list
joined_more : (fs : List (List ℕ)) (i : ℕ) (f : List ℕ) → slice_get fs i ≡ Some f → joined (take (suc i) fs) ≡ joined (take i fs) ++ separated i f
joined_more [] i f e = let z : ◌≡◌ {A = ℕ} 0 1 = cc in absurd (omega arith)
joined_more (g ∷ gs) zero f e = cc
joined_more (g ∷ []) (suc i) f e = let z : ◌≡◌ {A = ℕ} 0 1 = cc in absurd (omega arith)
joined_more (g ∷ (h ∷ hs)) (suc zero) f e = let same : h ≡ f = cc in ap (λ t. g ++ (comma ∷ t)) same
joined_more (g ∷ (h ∷ hs)) (suc (suc i)) f e = ap (λ t. g ++ (comma ∷ t)) (joined_more (h ∷ hs) (suc i) f e) ∙ sym (append_assoc g (comma ∷ joined (h ∷ take i hs)) (comma ∷ f))

-- one place more of an amount
pub amount_more : (u : Row) (i : ℕ) (z : ℤ) → slice_get u i ≡ Some z → amount (take i u) ++ separated i (signed_decimal z) ≡ amount (take (i + 1) u)
amount_more u i z e =
    ap (λ fs. joined fs ++ separated i (signed_decimal z)) (sym (take-map signed_decimal i u)) ∙ sym (joined_more (map signed_decimal u) i (signed_decimal z) (slice_get-map signed_decimal u i ∙ ap (option_map signed_decimal) e)) ∙ ap joined (take-map signed_decimal (suc i) u) ∙ ap (λ n. amount (take n u)) (sym (add-one i))
