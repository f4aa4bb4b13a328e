-- The values of a plan's lines: amounts read place by place, and back to their texts.
use Rattle.std.proofs.Common.{◌≡◌, ℕ, zero, suc, ◌+◌, ◌^◌, ◌<◌, ◌≤◌, Bool, true, false, cond, List, [], ◌∷◌, ◌++◌, map, length, take, set, ℤ, Some, None, decimal, Option, sym, refl, ap, ◌∙◌, subst, arith, lit<, rules}
use lib.Signed.{mag}
use Rattle.std.specs.Option.{option_map}
use Rattle.std.specs.Fmt.{signed_decimal}
use Rattle.std.specs.List.{AllByRecursion}
use Rattle.std.proofs.lemmas.List.{append_assoc, length-map, take_more_set}
use Rattle.std.proofs.lemmas.Bool.{eqb-true, eq-eqb, cond-true}
use Rattle.interface.specs.Limits.{most_states}
use Rattle.interface.specs.Rows.{Row}
use Rattle.lines.specs.Cuts.{Free}
use Rattle.lines.specs.Fields.{comma, fields, joined}
use Rattle.lines.specs.Numeral.{numeral, signed_numeral}
use Rattle.lines.proofs.DigitLaws.{signed_free, decimal_free}
use Rattle.lines.proofs.FieldLaws.{fields_joined, joined_fields}
use Rattle.lines.proofs.NumeralLaws.{numeral_law, signed_law, numeral_signed, numeral_decimal}
use Rattle.plantext.specs.declared.values.StateEntry.{StateEntry}
use Rattle.plantext.specs.Lines.{most_portfolio, amount, Held}
use Rattle.plantext.specs.Values.{positive, count_of, onto, amount_of, entered, is, entry_of}

-- an amount of which the places p were read, and k are to come from the fields
abbrev pub reads_on : Row → ℕ → List (List ℕ) → Option Row
reads_on p k fs = option_map (λ u. p ++ u) (amount_of k fs)

pub no_field : (p : Row) (k : ℕ) (fs : List (List ℕ)) → 0 < k → fs ≡ [] → reads_on p k fs ≡ None
no_field p zero fs h e = absurd (omega arith)
no_field p (suc k) fs h e = ap (reads_on p (suc k)) e

pub no_place : (p : Row) (k : ℕ) (fs gs : List (List ℕ)) (f : List ℕ) → 0 < k → fs ≡ f ∷ gs → signed_numeral f ≡ None → reads_on p k fs ≡ None
no_place p zero fs gs f h e n = absurd (omega arith)
no_place p (suc k) fs gs f h e n = ap (reads_on p (suc k)) e ∙ ap (λ o. option_map (λ u. p ++ u) (onto o (amount_of k gs))) n

one_more : (p : Row) (z : ℤ) (o : Option Row) → option_map (λ u. p ++ u) (onto (Some z) o) ≡ option_map (λ u. (p ++ (z ∷ [])) ++ u) o
one_more p z None = refl
one_more p z (Some u) = ap Some (sym (append_assoc p (z ∷ []) u))

pub place_more : (p : Row) (z : ℤ) (k m : ℕ) (fs gs : List (List ℕ)) (f : List ℕ) → k ≡ suc m → fs ≡ f ∷ gs → signed_numeral f ≡ Some z → reads_on (p ++ (z ∷ [])) m gs ≡ reads_on p k fs
place_more p z k m fs gs f h e n = sym (ap (λ j. reads_on p j fs) h ∙ ap (reads_on p (suc m)) e ∙ ap (λ o. option_map (λ u. p ++ u) (onto o (amount_of m gs))) n ∙ one_more p z (amount_of m gs))

-- a place is written behind those before it
pub taken_more : (u v : Row) (i : ℕ) (z : ℤ) → v ≡ set u i z → i < length u → take (i + 1) v ≡ take i u ++ (z ∷ [])
taken_more u v i z e l = ap (take (i + 1)) e ∙ take_more_set u i z l

-- one place more, back
onto_back : (o : Option ℤ) (q : Option Row) (u : Row) → onto o q ≡ Some u → (z : ℤ) × ((w : Row) × ((o ≡ Some z) × ((q ≡ Some w) × (z ∷ w ≡ u))))
onto_back None q u e = let x : ◌≡◌ {A = ℕ} 0 1 = cc in absurd (omega arith)
onto_back (Some z) None u e = let x : ◌≡◌ {A = ℕ} 0 1 = cc in absurd (omega arith)
onto_back (Some z) (Some w) u e = (z, (w, (refl, (refl, cc))))

-- the fields from which an amount is read are its places' texts
pub amount_back : (n : ℕ) (fs : List (List ℕ)) (u : Row) → amount_of n fs ≡ Some u → (fs ≡ map signed_decimal u) × Held n u
amount_back zero [] u e = let same : [] ≡ u = cc in subst (λ w. ([] ≡ map signed_decimal w) × Held 0 w) same (refl, record { long = refl; each = tt })
amount_back zero (f ∷ fs) u e = let x : ◌≡◌ {A = ℕ} 0 1 = cc in absurd (omega arith)
amount_back (suc n) [] u e = let x : ◌≡◌ {A = ℕ} 0 1 = cc in absurd (omega arith)
amount_back (suc n) (f ∷ fs) u e =
    let b = onto_back (signed_numeral f) (amount_of n fs) u e in
    let first = (signed_law f b.0).0 b.1.1.0 in
    let rest = amount_back n fs b.1.0 b.1.1.1.0 in
    subst (λ w. (f ∷ fs ≡ map signed_decimal w) × Held (suc n) w) b.1.1.1.1 ((λ i. first.0 i ∷ rest.0 i), record { long = ap suc rest.1.long; each = (first.1, rest.1.each) })

-- and from them it is read
pub amount_forth : (n : ℕ) (u : Row) → Held n u → amount_of n (map signed_decimal u) ≡ Some u
amount_forth zero [] h = refl
amount_forth zero (z ∷ u) h = absurd (omega (arith, h.long))
amount_forth (suc n) [] h = absurd (omega (arith, h.long))
amount_forth (suc n) (z ∷ u) h =
    ap (λ o. onto o (amount_of n (map signed_decimal u))) (numeral_signed z h.each.0) ∙ ap (onto (Some z)) (amount_forth n u (record { long = omega (arith, h.long); each = h.each.1 }))

free_places : (u : Row) → AllByRecursion (λ z. mag z < 2 ^ 63) u → AllByRecursion (Free comma) (map signed_decimal u)
free_places [] h = tt
free_places (z ∷ u) h = (signed_free comma (lit< tt) z h.0, free_places u h.1)

-- an amount's text and its fields
pub amount_fields : (n : ℕ) (u : Row) → 0 < n → Held n u → fields (amount u) ≡ map signed_decimal u
amount_fields n u some h = fields_joined (map signed_decimal u) (omega (arith, length-map u signed_decimal, h.long)) (free_places u h.each)

pub amount_text : (v : List ℕ) (u : Row) → fields v ≡ map signed_decimal u → v ≡ amount u
amount_text v u e = sym (joined_fields v) ∙ ap joined e

pub amount_read : (n : ℕ) (u : Row) → 0 < n → Held n u → amount_of n (fields (amount u)) ≡ Some u
amount_read n u some h = ap (amount_of n) (amount_fields n u some h) ∙ amount_forth n u h

-- a number of states
positive_back : (o : Option ℕ) (n : ℕ) → positive o ≡ Some n → (o ≡ Some n) × (1 ≤ n)
positive_back None n e = let x : ◌≡◌ {A = ℕ} 0 1 = cc in absurd (omega arith)
positive_back (Some zero) n e = let x : ◌≡◌ {A = ℕ} 0 1 = cc in absurd (omega arith)
positive_back (Some (suc m)) n e = let same : suc m ≡ n = cc in (e, omega arith)

pub count_back : (v : List ℕ) (n : ℕ) → count_of v ≡ Some n → (v ≡ decimal n) × ((1 ≤ n) × (n ≤ most_states))
count_back v n e =
    let p = positive_back (numeral v most_states) n e in
    let q = (numeral_law v most_states (lit< tt) n).0 p.0 in
    (q.0, (p.1, q.1))

positive_forth : (n : ℕ) → 1 ≤ n → positive (Some n) ≡ Some n
positive_forth zero h = absurd (omega arith)
positive_forth (suc n) h = refl

pub count_forth : (n : ℕ) → 1 ≤ n → n ≤ most_states → count_of (decimal n) ≡ Some n
count_forth n some few = ap positive (numeral_decimal n most_states (lit< tt) few) ∙ positive_forth n some

-- an entry of state s
is_back : (s : ℕ) (o : Option ℕ) → is s o ≡ true → o ≡ Some s
is_back s None e = let x : false ≡ true = cc in absurd (search rules)
is_back s (Some n) e = ap Some (eqb-true n s e)

entered_back : (o : Option ℕ) (q : Option Row) (e : StateEntry Row) → entered o q ≡ Some e → (o ≡ Some e.portfolio) × (q ≡ Some e.value)
entered_back None q e h = let x : ◌≡◌ {A = ℕ} 0 1 = cc in absurd (omega arith)
entered_back (Some x) None e h = let y : ◌≡◌ {A = ℕ} 0 1 = cc in absurd (omega arith)
entered_back (Some x) (Some u) e h = let same : record { portfolio = x; value = u } ≡ e = cc in (ap (λ (z : StateEntry Row). Some z.portfolio) same, ap (λ (z : StateEntry Row). Some z.value) same)

pub record Entered (places s : ℕ) (fs : List (List ℕ)) (e : StateEntry Row) : Type 0 where
  pub fields_are : fs ≡ decimal s ∷ (decimal e.portfolio ∷ map signed_decimal e.value)
  pub held : Held places e.value
  pub low : e.portfolio ≤ most_portfolio

pub entry_back : (places s : ℕ) (fs : List (List ℕ)) (e : StateEntry Row) → entry_of places s fs ≡ Some e → Entered places s fs e
entry_back places s [] e h = let y : ◌≡◌ {A = ℕ} 0 1 = cc in absurd (omega arith)
entry_back places s (f ∷ []) e h = let y : ◌≡◌ {A = ℕ} 0 1 = cc in absurd (omega arith)
entry_back places s (f ∷ (g ∷ fs)) e h = by (is s (numeral f most_states)) refl h
  where
    by : (t : Bool) → is s (numeral f most_states) ≡ t → cond t (entered (numeral g most_portfolio) (amount_of places fs)) None ≡ Some e → Entered places s (f ∷ (g ∷ fs)) e
    by false q k = let y : ◌≡◌ {A = ℕ} 0 1 = cc in absurd (omega arith)
    by true q k =
        let first = (numeral_law f most_states (lit< tt) s).0 (is_back s (numeral f most_states) q) in
        let both = entered_back (numeral g most_portfolio) (amount_of places fs) e k in
        let second = (numeral_law g most_portfolio (lit< tt) e.portfolio).0 both.0 in
        let rest = amount_back places fs e.value both.1 in
        record { fields_are = λ i. first.0 i ∷ (second.0 i ∷ rest.0 i); held = rest.1; low = second.1 }

pub entry_forth : (places s x : ℕ) (u : Row) → s ≤ most_states → x ≤ most_portfolio → Held places u → entry_of places s (decimal s ∷ (decimal x ∷ map signed_decimal u)) ≡ Some (record { portfolio = x; value = u })
entry_forth places s x u low few h =
    cond-true _ _ _ (ap (is s) (numeral_decimal s most_states (lit< tt) low) ∙ eq-eqb s s refl)
    ∙ ap (λ o. entered o (amount_of places (map signed_decimal u))) (numeral_decimal x most_portfolio (lit< tt) few) ∙ ap (entered (Some x)) (amount_forth places u h)

-- the text of an entry and its fields
pub entry_fields : (places s x : ℕ) (u : Row) → s ≤ most_states → x ≤ most_portfolio → Held places u → fields (joined (decimal s ∷ (decimal x ∷ map signed_decimal u))) ≡ decimal s ∷ (decimal x ∷ map signed_decimal u)
entry_fields places s x u low few h =
    fields_joined (decimal s ∷ (decimal x ∷ map signed_decimal u)) (omega arith) (decimal_free comma (lit< tt) s (omega arith), (decimal_free comma (lit< tt) x (omega arith), free_places u h.each))
