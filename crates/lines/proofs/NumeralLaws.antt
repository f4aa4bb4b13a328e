-- The laws of numbers in base ten.
use Rattle.std.proofs.Common.{◌≡◌, ℕ, zero, suc, ◌+◌, ◌-◌, ◌*◌, ◌^◌, ◌<◌, ◌≤◌, Bool, true, false, cond, ◌&&◌, eqb, leb, List, [], ◌∷◌, length, get_or, take, drop, ℤ, pos, negsuc, Some, None, decimal, Option, sym, refl, ap, ◌∙◌, subst, ⊎_elim, arith, lit<, rules}
use lib.Signed.{mag}
use Rattle.std.specs.Option.{option_map, option_and_then}
use Rattle.std.specs.Fmt.{signed_decimal}
use Rattle.std.specs.Str.{all_ascii_digits}
use Rattle.std.specs.Char.{is_ascii_digit}
use Rattle.std.proofs.lemmas.Fmt.{decimal_digit, decimal_nonempty, first_decimal, digits_decimal, digits_value-decimal, decimal-digits_value}
use Rattle.std.proofs.lemmas.List.{take_rest}
use Rattle.std.proofs.lemmas.Str.Parse.{IsNumeralModel, numerals_by_fold, not_in_digits}
use Rattle.std.proofs.lemmas.Bool.{leb-true, leb-false, le-leb, lt-leb, lt-ltb, ltb-true, eq-eqb, ne_eqb, eqb-true, and_from, and_parts, and_right, cond-true, cond-false, not-true, not_from_false, cases_lt}
use Rattle.lines.proofs.FoldLaws.{tried}
use Rattle.lines.specs.Numeral.{zero_digit, minus_sign, value_after, needless_zero, well_formed, numeral, pushed, negated, signed_numeral, ReadsNumber, ReadsSigned}

pub own : IsNumeralModel (λ ds. all_ascii_digits ds ≡ true) (value_after 0)
own = numerals_by_fold _ (search rules) value_after (search rules)

some_parts : (t : Bool) (v n : ℕ) → cond t (Some v) None ≡ Some n → (t ≡ true) × (v ≡ n)
some_parts true v n e = (refl, cc)
some_parts false v n e = let z : ◌≡◌ {A = ℕ} 0 1 = cc in absurd (omega arith)

-- a text in the form of a number is the decimal text of its value
decimal_back : (s : List ℕ) → well_formed s ≡ true → value_after 0 s < 2 ^ 64 → s ≡ decimal (value_after 0 s)
decimal_back s h small =
    let parts = and_parts _ _ h in
    let front = and_parts _ _ parts.0 in
    let some : 0 < length s = ltb-true _ _ front.0 in
    let zeros : needless_zero s ≡ false = not-true _ front.1 in
    let one : (get_or s 0 0 ≡ zero_digit → length s ≡ 1) = λ e. ⊎_elim (λ (l : 1 < length s). let two : needless_zero s ≡ true = and_from _ _ (lt-ltb _ _ l) (eq-eqb _ _ e) in let z : true ≡ false = cc in absurd (search rules)) (λ l. omega arith) (cases_lt 1 (length s)) in
    sym (decimal-digits_value own s parts.1 some one small)

not_zero : (n : ℕ) → n < 2 ^ 64 → needless_zero (decimal n) ≡ false
not_zero zero small = ap needless_zero (decimal_digit 0 (omega arith))
not_zero (suc n) small = and_right _ _ (ne_eqb _ _ (λ (e : get_or (decimal (suc n)) 0 0 ≡ zero_digit). omega (arith, first_decimal (suc n) (omega arith) small)))

decimal_formed : (n : ℕ) → n < 2 ^ 64 → well_formed (decimal n) ≡ true
decimal_formed n small = and_from _ _ (and_from _ _ (lt-ltb _ _ (decimal_nonempty n small)) (not_from_false _ (not_zero n small))) (digits_decimal own n small)

pub numeral_law : (s : List ℕ) (most : ℕ) → most < 2 ^ 64 → ReadsNumber s most (numeral s most)
numeral_law s most fits n = (to, from)
  where
    to : numeral s most ≡ Some n → (s ≡ decimal n) × (n ≤ most)
    to e =
        let q = some_parts (well_formed s && leb (value_after 0 s) most) (value_after 0 s) n e in
        let tests = and_parts (well_formed s) (leb (value_after 0 s) most) q.0 in
        let low : value_after 0 s ≤ most = leb-true (value_after 0 s) most tests.1 in
        (decimal_back s tests.0 (omega arith) ∙ ap decimal q.1, omega (arith, q.1))

    from : (s ≡ decimal n) × (n ≤ most) → numeral s most ≡ Some n
    from h =
        let small : n < 2 ^ 64 = omega (arith, h.1) in
        let v : value_after 0 (decimal n) ≡ n = digits_value-decimal own n small in
        let low : value_after 0 (decimal n) ≤ most = omega (arith, h.1) in
        ap (λ t. numeral t most) h.0 ∙ cond-true _ _ _ (and_from _ _ (decimal_formed n small) (le-leb _ _ low)) ∙ ap Some v

-- a number's text does not begin with a minus
no_minus : (n : ℕ) → n < 2 ^ 64 → get_or (decimal n) 0 0 ≡ minus_sign → ⊥
no_minus n small = not_in_digits own (decimal n) minus_sign (digits_decimal own n small) (λ h. omega arith) 0 (decimal_nonempty n small)

negated_back : (o : Option ℕ) (z : ℤ) → negated o ≡ Some z → (n : ℕ) × ((o ≡ Some (suc n)) × (z ≡ negsuc n))
negated_back None z e = let q : ◌≡◌ {A = ℕ} 0 1 = cc in absurd (omega arith)
negated_back (Some zero) z e = let q : ◌≡◌ {A = ℕ} 0 1 = cc in absurd (omega arith)
negated_back (Some (suc n)) z e = (n, (refl, cc))

mapped_back : (o : Option ℕ) (z : ℤ) → option_map pos o ≡ Some z → (n : ℕ) × ((o ≡ Some n) × (z ≡ pos n))
mapped_back None z e = let q : ◌≡◌ {A = ℕ} 0 1 = cc in absurd (omega arith)
mapped_back (Some n) z e = (n, (refl, cc))

led : (s : List ℕ) (b : ℕ) → 0 < b → get_or s 0 0 ≡ b → s ≡ b ∷ drop 1 s
led [] b h e = absurd (omega arith)
led (x ∷ s) b h e = ap (λ y. y ∷ s) e

signed_to : (s : List ℕ) (z : ℤ) (t : Bool) → eqb (get_or s 0 0) minus_sign ≡ t → cond t (negated (numeral (drop 1 s) (2 ^ 63))) (option_map pos (numeral s (2 ^ 63 - 1))) ≡ Some z → (s ≡ signed_decimal z) × (mag z < 2 ^ 63)
signed_to s z true q e =
    let n = negated_back (numeral (drop 1 s) (2 ^ 63)) z e in
    let h = (numeral_law (drop 1 s) (2 ^ 63) (lit< tt) (suc n.0)).0 n.1.0 in
    subst (λ y. (s ≡ signed_decimal y) × (mag y < 2 ^ 63)) (sym n.1.1) (led s minus_sign (lit< tt) (eqb-true _ _ q) ∙ ap (λ l. minus_sign ∷ l) h.0, omega (arith, h.1))
signed_to s z false q e =
    let n = mapped_back (numeral s (2 ^ 63 - 1)) z e in
    let h = (numeral_law s (2 ^ 63 - 1) (lit< tt) n.0).0 n.1.0 in
    subst (λ y. (s ≡ signed_decimal y) × (mag y < 2 ^ 63)) (sym n.1.1) (h.0, omega (arith, h.1))

pub numeral_signed : (z : ℤ) → mag z < 2 ^ 63 → signed_numeral (signed_decimal z) ≡ Some z
numeral_signed (pos n) small =
    let fits : n < 2 ^ 64 = omega arith in
    let low : n ≤ 2 ^ 63 - 1 = omega arith in
    cond-false _ _ _ (ne_eqb _ _ (no_minus n fits)) ∙ ap (option_map pos) ((numeral_law (decimal n) (2 ^ 63 - 1) (omega arith) n).1 (refl, low))
numeral_signed (negsuc n) small =
    let low : suc n ≤ 2 ^ 63 = omega arith in
    ap negated ((numeral_law (decimal (suc n)) (2 ^ 63) (omega arith) (suc n)).1 (refl, low))

pub signed_law : (s : List ℕ) → ReadsSigned s (signed_numeral s)
signed_law s z = (signed_to s z (eqb (get_or s 0 0) minus_sign) refl, λ h. ap signed_numeral h.0 ∙ numeral_signed z h.1)

-- what is read digit by digit, after those that wrote v
abbrev pub read_on : ℕ → ℕ → List ℕ → Option ℕ
read_on most = tried (λ v c. pushed v c most)

value_ge : (n : ℕ) (cs : List ℕ) → n ≤ value_after n cs
value_ge n [] = omega arith
value_ge n (c ∷ cs) = omega (arith, value_ge (10 * n + (c - zero_digit)) cs)

read_on_here : (most v : ℕ) (cs : List ℕ) → v ≤ most → cond (all_ascii_digits cs && leb (value_after v cs) most) (Some (value_after v cs)) None ≡ read_on most v cs
read_on_here most v [] low = cond-true _ _ _ (le-leb v most low)
read_on_here most v (c ∷ cs) low = grows (is_ascii_digit c) (leb (10 * v + (c - zero_digit)) most) refl (read_on_here most (10 * v + (c - zero_digit)) cs)
  where
    grows : {w : ℕ} (t u : Bool) → leb w most ≡ u → (w ≤ most → cond (all_ascii_digits cs && leb (value_after w cs) most) (Some (value_after w cs)) None ≡ read_on most w cs) → cond ((t && all_ascii_digits cs) && leb (value_after w cs) most) (Some (value_after w cs)) None ≡ option_and_then (λ k. read_on most k cs) (cond (t && u) (Some w) None)
    grows false u q rest = refl
    grows {w} true true q rest = rest (leb-true w most q)
    grows {w} true false q rest =
        let far : most < value_after w cs = omega (arith, leb-false w most q, value_ge w cs) in
        cond-false _ _ _ (and_right (all_ascii_digits cs) _ (lt-leb _ _ far))

pub numeral_read : (s : List ℕ) (most : ℕ) → 0 < length s → needless_zero s ≡ false → numeral s most ≡ read_on most 0 s
numeral_read s most some zeros =
    let formed : well_formed s ≡ all_ascii_digits s = ap (λ t. t && all_ascii_digits s) (and_from _ _ (lt-ltb 0 (length s) some) (not_from_false _ zeros)) in
    ap (λ t. cond (t && leb (value_after 0 s) most) (Some (value_after 0 s)) None) formed ∙ read_on_here most 0 s (omega arith)

pub number_at : (s : List ℕ) (most : ℕ) (r : Option ℕ) → most < 2 ^ 64 → r ≡ numeral s most → ReadsNumber s most r
number_at s most r fits e = subst (ReadsNumber s most) (sym e) (numeral_law s most fits)

pub signed_at : (s : List ℕ) (r : Option ℤ) → r ≡ signed_numeral s → ReadsSigned s r
signed_at s r e = subst (ReadsSigned s) (sym e) (signed_law s)

-- a text with a minus in front, of which the rest was read
pub signed_minus : (s : List ℕ) (o : Option ℕ) → get_or s 0 0 ≡ minus_sign → o ≡ numeral (take (length s - 1) (drop 1 s)) (2 ^ 63) → negated o ≡ signed_numeral s
signed_minus s o e h = ap negated (h ∙ ap (λ t. numeral t (2 ^ 63)) (take_rest s 1)) ∙ sym (cond-true _ _ _ (eq-eqb _ _ e))

-- a number's text is read back
pub numeral_decimal : (n most : ℕ) → most < 2 ^ 64 → n ≤ most → numeral (decimal n) most ≡ Some n
numeral_decimal n most fits low = (numeral_law (decimal n) most fits n).1 (refl, low)

pub numeral_of_signed : (s : List ℕ) (z : ℤ) → signed_numeral s ≡ Some z → s ≡ signed_decimal z
numeral_of_signed s z e = ((signed_law s z).0 e).0
