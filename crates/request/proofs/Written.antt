-- The lines of a request are read exactly as they are written.
use Rattle.std.proofs.Common.{◌≡◌, ℕ, ◌+◌, ◌^◌, ◌<◌, ◌≤◌, Bool, true, false, cond, not, ◌&&◌, eqb, List, [], ◌∷◌, ◌++◌, length, Some, None, Ok, Err, codes, decimal, Option, Result, sym, refl, ap, ◌∙◌, subst, arith, lit<}
use Rattle.std.specs.List.{AllByRecursion}
use Rattle.std.specs.Str.{bytes_eq}
use Rattle.std.proofs.lemmas.Fmt.{length-decimal-le}
use Rattle.std.proofs.ByRecursion.{All-append}
use Rattle.std.proofs.lemmas.Slice.Eq.{bytes_eq-Decides}
use Rattle.std.proofs.lemmas.List.{length-append}
use Rattle.std.proofs.lemmas.Bool.{and_parts, eqb-false, eqb-true, not-true}
use Rattle.lines.specs.Cuts.{Free}
use Rattle.lines.specs.Fields.{comma, fields, joined}
use Rattle.lines.specs.Line.{Said, pair, fault, line_at, rest_at, Printable}
use Rattle.lines.specs.Numeral.{numeral}
use Rattle.lines.proofs.DigitLaws.{decimal_free, decimal_printable}
use Rattle.lines.proofs.FieldLaws.{fields_joined, joined_fields}
use Rattle.lines.proofs.NumeralLaws.{numeral_law, numeral_decimal}
use Rattle.planner.specs.Sweeps.{most_sweeps}
use Rattle.reading.specs.Keys.{name_of}
use Rattle.reading.specs.Written.{line_of, number_line}
use Rattle.reading.specs.declared.keys.Key.{Key}
use Rattle.reading.specs.declared.keys.Key.TheVariants.{Kind as KindKey, Tariff, Sweeps, Other}
use Rattle.reading.specs.declared.rules.ReadRefusal.{ReadRefusal}
use Rattle.reading.specs.declared.rules.Rule.{Rule}
use Rattle.reading.specs.declared.rules.Rule.TheVariants.{Unexpected}
use Rattle.reading.proofs.WrittenLaws.{plain_bytes, widest_value, written_line, written_rest, read_line, number_short}
use Rattle.tariffs.specs.Priced.{most_rate}
use Rattle.request.specs.declared.kind.Kind.{Kind}
use Rattle.request.specs.declared.kind.Kind.TheVariants.{Chain, Pair}
use Rattle.request.specs.declared.sweeps.SweepsLine.{SweepsLine}
use Rattle.request.specs.declared.tariff.TariffChoice.{TariffChoice}
use Rattle.request.specs.declared.tariff.TariffChoice.TheVariants.{Priced, AirFirst}
use Rattle.request.specs.Requests.{value_due, rate_of, priced_by, air_first_by, tariff_by, tariff_of, sweeps_by, sweeps_of, after, at_line, on_line, kind_named, read_kind, read_tariff, read_sweeps, goes_on, read_end}
use Rattle.request.specs.Writing.{kind_word, ReadsKind, tariff_words, tariff_line, RateInRange, ReadsTariff, counted, ReadsSweeps, ReadsEnd}

small : {n : ℕ} → n ≤ 1000 → n < 2 ^ 64
small h = omega arith

-- a line whose value was put to use has the key that is due
record Used {A : Type 0} (k : Key) (text : List ℕ) (f : List ℕ → Result A Rule) (a : A) : Type 0 where
  value : List ℕ
  whole : text ≡ line_of k value ++ rest_at text
  made : f value ≡ Ok a

module _ {A : Type 0} (k : Key) (text : List ℕ) (f : List ℕ → Result A Rule) (a : A) where
  used_pair : (name v : List ℕ) → line_at text ≡ pair name v → (t : Bool) → bytes_eq name (name_of k) ≡ t → after (cond t (Ok v) (Err Unexpected)) f ≡ Ok a → Used k text f a
  used_pair name v line true same e = record { value = v; whole = read_line text name v k line ((bytes_eq-Decides name (name_of k)).0 same); made = e }
  used_pair name v line false same e = let z : ◌≡◌ {A = ℕ} 0 1 = cc in absurd (omega arith)

  used_line : (s : Said) → line_at text ≡ s → after (value_due (name_of k) s) f ≡ Ok a → Used k text f a
  used_line (fault n) line e = let z : ◌≡◌ {A = ℕ} 0 1 = cc in absurd (omega arith)
  used_line (pair name v) line e = used_pair name v line (bytes_eq name (name_of k)) refl e

unplaced : {A : Type 0} (n : ℕ) (r : Result A Rule) (a : A) → at_line n r ≡ Ok a → r ≡ Ok a
unplaced n (Ok b) a e = cc
unplaced n (Err x) a e = let z : ◌≡◌ {A = ℕ} 0 1 = cc in absurd (omega arith)

-- the kind of a word that was read
kind_by : (word : List ℕ) (k : Kind) (c p : Bool) → bytes_eq word (codes "chain") ≡ c → bytes_eq word (codes "pair") ≡ p → cond c (Ok Chain) (cond p (Ok Pair) (Err Unexpected)) ≡ Ok k → word ≡ kind_word k
kind_by word k true p c q e = let is : Chain ≡ k = cc in (bytes_eq-Decides word (codes "chain")).0 c ∙ ap kind_word is
kind_by word k false true c q e = let is : Pair ≡ k = cc in (bytes_eq-Decides word (codes "pair")).0 q ∙ ap kind_word is
kind_by word k false false c q e = let z : ◌≡◌ {A = ℕ} 0 1 = cc in absurd (omega arith)

made_kind : (k : Kind) → kind_named (kind_word k) ≡ Ok k
made_kind Chain = refl
made_kind Pair = refl

kind_bytes : (k : Kind) → AllByRecursion Printable (kind_word k) × (length (kind_word k) ≤ widest_value)
kind_bytes Chain = ((plain_bytes (codes "chain") refl).1, omega arith)
kind_bytes Pair = ((plain_bytes (codes "pair") refl).1, omega arith)

kind_law : (text : List ℕ) → ReadsKind text (read_kind text)
kind_law text k = (
  (λ e.
      let u = used_line KindKey text kind_named k (line_at text) refl (unplaced 1 (after (value_due (codes "kind") (line_at text)) kind_named) k e) in
      (rest_at text, u.whole ∙ ap (λ v. line_of KindKey v ++ rest_at text) (kind_by u.value k (bytes_eq u.value (codes "chain")) (bytes_eq u.value (codes "pair")) refl refl u.made))),
  (λ h.
      let b = kind_bytes k in
      let line : line_at text ≡ pair (codes "kind") (kind_word k) = ap line_at h.1 ∙ written_line KindKey named (kind_word k) h.0 b.0 b.1 in
      ap (λ s. at_line 1 (after (value_due (codes "kind") s) kind_named)) line ∙ ap (at_line 1) (made_kind k)),
)
  where
    named : KindKey ≡ Other → ⊥
    named e = let z : ◌≡◌ {A = ℕ} 0 1 = cc in omega arith

pub kind_read : (text : List ℕ) (r : Result Kind ReadRefusal) → r ≡ read_kind text → ReadsKind text r
kind_read text r e = subst (ReadsKind text) (sym e) (kind_law text)

-- the words of a tariff that was read
abbrev Words : List (List ℕ) → TariffChoice → Type 0
Words fs c = (fs ≡ tariff_words c) × RateInRange c

rate_words : (r : List ℕ) (c : TariffChoice) (o : Option ℕ) → numeral r most_rate ≡ o → rate_of o ≡ Ok c → Words (codes "priced" ∷ (r ∷ [])) c
rate_words r c None q e = let z : ◌≡◌ {A = ℕ} 0 1 = cc in absurd (omega arith)
rate_words r c (Some n) q e =
    let h = (numeral_law r most_rate (lit< tt) n).0 q in
    let is : Priced n ≡ c = cc in
    subst (Words (codes "priced" ∷ (r ∷ []))) is (ap (λ d. codes "priced" ∷ (d ∷ [])) h.0, h.1)

priced_words : (fs : List (List ℕ)) (c : TariffChoice) → priced_by fs ≡ Ok c → Words (codes "priced" ∷ fs) c
priced_words [] c e = let z : ◌≡◌ {A = ℕ} 0 1 = cc in absurd (omega arith)
priced_words (r ∷ []) c e = rate_words r c (numeral r most_rate) refl e
priced_words (r ∷ (s ∷ fs)) c e = let z : ◌≡◌ {A = ℕ} 0 1 = cc in absurd (omega arith)

air_first_words : (fs : List (List ℕ)) (c : TariffChoice) → air_first_by fs ≡ Ok c → Words (codes "airfirst" ∷ fs) c
air_first_words [] c e = let is : AirFirst ≡ c = cc in subst (Words (codes "airfirst" ∷ [])) is (refl, tt)
air_first_words (f ∷ fs) c e = let z : ◌≡◌ {A = ℕ} 0 1 = cc in absurd (omega arith)

named_words : (word : List ℕ) (fs : List (List ℕ)) (c : TariffChoice) (p a : Bool) → bytes_eq word (codes "priced") ≡ p → bytes_eq word (codes "airfirst") ≡ a → cond p (priced_by fs) (cond a (air_first_by fs) (Err Unexpected)) ≡ Ok c → Words (word ∷ fs) c
named_words word fs c true a p q e = subst (λ w. Words (w ∷ fs) c) (sym ((bytes_eq-Decides word (codes "priced")).0 p)) (priced_words fs c e)
named_words word fs c false true p q e = subst (λ w. Words (w ∷ fs) c) (sym ((bytes_eq-Decides word (codes "airfirst")).0 q)) (air_first_words fs c e)
named_words word fs c false false p q e = let z : ◌≡◌ {A = ℕ} 0 1 = cc in absurd (omega arith)

read_words : (fs : List (List ℕ)) (c : TariffChoice) → tariff_by fs ≡ Ok c → Words fs c
read_words [] c e = let z : ◌≡◌ {A = ℕ} 0 1 = cc in absurd (omega arith)
read_words (word ∷ fs) c e = named_words word fs c (bytes_eq word (codes "priced")) (bytes_eq word (codes "airfirst")) refl refl e

-- none of some bytes is this one
abbrev others : ℕ → List ℕ → Bool
others b [] = true
others b (x ∷ xs) = not (eqb x b) && others b xs

free_of : (b : ℕ) (xs : List ℕ) → others b xs ≡ true → Free b xs
free_of b [] e = tt
free_of b (x ∷ xs) e =
    let parts = and_parts (not (eqb x b)) (others b xs) e in
    (eqb-false x b (not-true _ parts.0), free_of b xs parts.1)

-- a tariff as it is written
word_free : (c : TariffChoice) → RateInRange c → AllByRecursion (Free comma) (tariff_words c)
word_free (Priced n) h = (free_of comma (codes "priced") refl, (decimal_free comma (omega arith) n (small h), tt))
word_free AirFirst h = (free_of comma (codes "airfirst") refl, tt)

some_words : (c : TariffChoice) → 0 < length (tariff_words c)
some_words (Priced n) = omega arith
some_words AirFirst = omega arith

made_tariff : (c : TariffChoice) → RateInRange c → tariff_by (tariff_words c) ≡ Ok c
made_tariff (Priced n) h = ap rate_of (numeral_decimal n most_rate (lit< tt) h)
made_tariff AirFirst h = refl

word_bytes : (c : TariffChoice) → RateInRange c → AllByRecursion Printable (joined (tariff_words c)) × (length (joined (tariff_words c)) ≤ widest_value)
word_bytes (Priced n) h = (
  All-append Printable (codes "priced") (comma ∷ decimal n) (plain_bytes (codes "priced") refl).1 ((omega arith, omega arith), decimal_printable n (small h)),
  omega (arith, length-append (codes "priced") (comma ∷ decimal n), length-decimal-le 20 n (omega arith) (omega arith) (small h)),
)
word_bytes AirFirst h = ((plain_bytes (codes "airfirst") refl).1, omega arith)

tariff_law : (text : List ℕ) (place : ℕ) → ReadsTariff text (read_tariff text place) (rest_at text)
tariff_law text place c more = (
  (λ h.
      let u = used_line Tariff text tariff_of c (line_at text) refl (unplaced (place + 1) (after (value_due (codes "tariff") (line_at text)) tariff_of) c h.0) in
      let w = read_words (fields u.value) c u.made in
      (u.whole ∙ ap (λ v. line_of Tariff v ++ rest_at text) (sym (joined_fields u.value) ∙ ap joined w.0) ∙ ap (λ r. tariff_line c ++ r) h.1, w.1)),
  (λ h.
      let v = joined (tariff_words c) in
      let b = word_bytes c h.1 in
      let line : line_at text ≡ pair (codes "tariff") v = ap line_at h.0 ∙ written_line Tariff named v more b.0 b.1 in
      let made : tariff_of v ≡ Ok c = ap tariff_by (fields_joined (tariff_words c) (some_words c) (word_free c h.1)) ∙ made_tariff c h.1 in
      (ap (λ s. at_line (place + 1) (after (value_due (codes "tariff") s) tariff_of)) line ∙ ap (at_line (place + 1)) made, ap rest_at h.0 ∙ written_rest Tariff named v more b.0 b.1)),
)
  where
    named : Tariff ≡ Other → ⊥
    named e = let z : ◌≡◌ {A = ℕ} 0 1 = cc in omega arith

-- the number of sweeps
count_of : (n : ℕ) (r : Result ℕ ReadRefusal) (k : ℕ) → counted (on_line n r) ≡ Ok k → r ≡ Ok k
count_of n (Ok m) k e = cc
count_of n (Err x) k e = let z : ◌≡◌ {A = ℕ} 0 1 = cc in absurd (omega arith)

swept : (v : List ℕ) (n : ℕ) (o : Option ℕ) → numeral v most_sweeps ≡ o → sweeps_by o ≡ Ok n → (v ≡ decimal n) × (n ≤ most_sweeps)
swept v n None q e = let z : ◌≡◌ {A = ℕ} 0 1 = cc in absurd (omega arith)
swept v n (Some m) q e = let same : Some m ≡ Some n = cc in (numeral_law v most_sweeps (lit< tt) n).0 (q ∙ same)

sweeps_law : (text : List ℕ) (place : ℕ) → ReadsSweeps text (counted (read_sweeps text place)) (rest_at text)
sweeps_law text place n more = (
  (λ h.
      let r = at_line (place + 1) (after (value_due (codes "sweeps") (line_at text)) sweeps_of) in
      let u = used_line Sweeps text sweeps_of n (line_at text) refl (unplaced (place + 1) (after (value_due (codes "sweeps") (line_at text)) sweeps_of) n (count_of (place + 1) r n h.0)) in
      let w = swept u.value n (numeral u.value most_sweeps) refl u.made in
      (u.whole ∙ ap (λ v. line_of Sweeps v ++ rest_at text) w.0 ∙ ap (λ r. number_line Sweeps n ++ r) h.1, w.1)),
  (λ h.
      let v = decimal n in
      let bytes = decimal_printable n (small h.1) in
      let short = number_short n (small h.1) in
      let line : line_at text ≡ pair (codes "sweeps") v = ap line_at h.0 ∙ written_line Sweeps named v more bytes short in
      let made : sweeps_of v ≡ Ok n = ap sweeps_by (numeral_decimal n most_sweeps (lit< tt) h.1) in
      (ap (λ s. counted (on_line (place + 1) (at_line (place + 1) (after (value_due (codes "sweeps") s) sweeps_of)))) line ∙ ap (λ r. counted (on_line (place + 1) (at_line (place + 1) r))) made, ap rest_at h.0 ∙ written_rest Sweeps named v more bytes short)),
)
  where
    named : Sweeps ≡ Other → ⊥
    named e = let z : ◌≡◌ {A = ℕ} 0 1 = cc in omega arith

end_law : (text : List ℕ) (place : ℕ) → ReadsEnd text (read_end text place)
end_law [] place = ((λ e. refl), (λ e. refl))
end_law (b ∷ bs) place = (
  (λ e. absurd (goes (eqb (length (b ∷ bs)) 0) (record { rule = goes_on (line_at (b ∷ bs)); line = place + 1 }) refl e)),
  (λ e. absurd (omega (arith, ap length e))),
)
  where
    goes : (t : Bool) (x : ReadRefusal) → eqb (length (b ∷ bs)) 0 ≡ t → cond t (Ok (tt {0})) (Err x) ≡ Ok tt → ⊥
    goes true x q e = omega (arith, eqb-true (length (b ∷ bs)) 0 q)
    goes false x q e = let z : ◌≡◌ {A = ℕ} 0 1 = cc in omega arith

-- the same of what was found to be read
pub tariff_read : (text rest : List ℕ) (place : ℕ) (r : Result TariffChoice ReadRefusal) → r ≡ read_tariff text place → rest ≡ rest_at text → ReadsTariff text r rest
tariff_read text rest place r e q = subst (λ a. ReadsTariff text a rest) (sym e) (subst (ReadsTariff text (read_tariff text place)) (sym q) (tariff_law text place))

pub sweeps_read : (text rest : List ℕ) (place : ℕ) (r : Result SweepsLine ReadRefusal) → r ≡ read_sweeps text place → rest ≡ rest_at text → ReadsSweeps text (counted r) rest
sweeps_read text rest place r e q = subst (λ a. ReadsSweeps text (counted a) rest) (sym e) (subst (ReadsSweeps text (counted (read_sweeps text place))) (sym q) (sweeps_law text place))

pub end_read : (text : List ℕ) (place : ℕ) (r : Result (Unit {0}) ReadRefusal) → r ≡ read_end text place → ReadsEnd text r
end_read text place r e = subst (ReadsEnd text) (sym e) (end_law text place)
