-- A line that was written is read back, and a line that was read was written so.
use Rattle.std.proofs.Common.{◌≡◌, ℕ, zero, suc, ◌*◌, ◌^◌, ◌<◌, ◌≤◌, Bool, true, not, ◌&&◌, eqb, ltb, leb, List, [], ◌∷◌, ◌++◌, map, length, decimal, sym, refl, ap, ◌∙◌, subst, suc-mul, arith}
use Rattle.std.specs.List.{AllByRecursion}
use Rattle.std.proofs.lemmas.Fmt.{length-decimal-le}
use Rattle.std.proofs.ByRecursion.{All-append}
use Rattle.std.proofs.lemmas.List.{append_assoc, length-append}
use Rattle.std.proofs.lemmas.Bool.{and_parts, leb-true, ltb-true, eqb-false, not-true}
use Rattle.lines.specs.Cuts.{Free}
use Rattle.lines.specs.Fields.{joined, comma}
use Rattle.lines.specs.Line.{line_end, equals_sign, pair, printable, line_at, rest_at, Printable, Begins}
use Rattle.lines.proofs.DigitLaws.{decimal_printable}
use Rattle.lines.proofs.LineLaws.{begins_line, begins_rest, line_begins}
use Rattle.reading.specs.Keys.{name_of}
use Rattle.reading.specs.Written.{line_of}
use Rattle.reading.specs.declared.keys.Key.{Key}
use Rattle.reading.specs.declared.keys.Key.TheVariants.{Kind, Parts, Threshold, Setup, Alarm, Part, Life, Hazard, Surplus, Dark, Arc, Inspect, Unit, Grades, Row, Planned, Forced, End, Tariff, Sweeps, Other}

-- a name may stand before an equals sign
abbrev pub all_plain : List ℕ → Bool
all_plain [] = true
all_plain (b ∷ bs) = (printable b && not (eqb b equals_sign)) && all_plain bs

abbrev plain : List ℕ → Bool
plain name = (ltb 0 (length name) && leb (length name) 9) && all_plain name

pub plain_bytes : (bs : List ℕ) → all_plain bs ≡ true → Free equals_sign bs × AllByRecursion Printable bs
plain_bytes [] e = (tt, tt)
plain_bytes (b ∷ bs) e =
    let parts = and_parts (printable b && not (eqb b equals_sign)) (all_plain bs) e in
    let here = and_parts (printable b) (not (eqb b equals_sign)) parts.0 in
    let bounds = and_parts (leb 32 b) (leb b 126) here.0 in
    let more = plain_bytes bs parts.1 in
    ((eqb-false b equals_sign (not-true _ here.1), more.0), ((leb-true 32 b bounds.0, leb-true b 126 bounds.1), more.1))

names_plain : (k : Key) → (k ≡ Other → ⊥) → plain (name_of k) ≡ true
names_plain Kind h = refl
names_plain Parts h = refl
names_plain Threshold h = refl
names_plain Setup h = refl
names_plain Alarm h = refl
names_plain Part h = refl
names_plain Life h = refl
names_plain Hazard h = refl
names_plain Surplus h = refl
names_plain Dark h = refl
names_plain Arc h = refl
names_plain Inspect h = refl
names_plain Unit h = refl
names_plain Grades h = refl
names_plain Row h = refl
names_plain Planned h = refl
names_plain Forced h = refl
names_plain End h = refl
names_plain Tariff h = refl
names_plain Sweeps h = refl
names_plain Other h = absurd (h refl)

-- how long a value may be, whatever the key
abbrev pub widest_value : ℕ
widest_value = 190

module _ (k : Key) (named : k ≡ Other → ⊥) (v more : List ℕ) (bytes : AllByRecursion Printable v) (short : length v ≤ widest_value) where
  pub line_parts : Begins (line_of k v ++ more) (name_of k) v more
  line_parts =
      let parts = and_parts (ltb 0 (length (name_of k)) && leb (length (name_of k)) 9) (all_plain (name_of k)) (names_plain k named) in
      let size = and_parts (ltb 0 (length (name_of k))) (leb (length (name_of k)) 9) parts.0 in
      let name = plain_bytes (name_of k) parts.1 in
      record {
        whole = append_assoc (name_of k) (equals_sign ∷ (v ++ (line_end ∷ []))) more ∙ ap (λ l. name_of k ++ (equals_sign ∷ l)) (append_assoc v (line_end ∷ []) more);
        named = ltb-true 0 (length (name_of k)) size.0;
        first = name.0;
        key = name.1;
        value = bytes;
        short = omega (arith, leb-true (length (name_of k)) 9 size.1, short);
      }

  pub written_line : line_at (line_of k v ++ more) ≡ pair (name_of k) v
  written_line = begins_line (line_of k v ++ more) (name_of k) v more line_parts

  pub written_rest : rest_at (line_of k v ++ more) ≡ more
  written_rest = begins_rest (line_of k v ++ more) (name_of k) v more line_parts

-- a line that was read
pub read_line : (text name v : List ℕ) (k : Key) → line_at text ≡ pair name v → name ≡ name_of k → text ≡ line_of k v ++ rest_at text
read_line text name v k e n =
    (line_begins text name v e).whole ∙ ap (λ l. l ++ (equals_sign ∷ (v ++ (line_end ∷ rest_at text)))) n ∙ sym (append_assoc (name_of k) (equals_sign ∷ (v ++ (line_end ∷ []))) (rest_at text) ∙ ap (λ l. name_of k ++ (equals_sign ∷ l)) (append_assoc v (line_end ∷ []) (rest_at text)))

-- a number may stand in a line
pub number_short : (n : ℕ) → n < 2 ^ 64 → length (decimal n) ≤ widest_value
number_short n small = omega (arith, length-decimal-le 20 n (omega arith) (omega arith) small)

-- so may a list of numbers
joined_printable : (fs : List (List ℕ)) → AllByRecursion (AllByRecursion Printable) fs → AllByRecursion Printable (joined fs)
joined_printable [] h = tt
joined_printable (f ∷ []) h = h.0
joined_printable (f ∷ (g ∷ fs)) h = All-append Printable f (comma ∷ joined (g ∷ fs)) h.0 ((omega arith, omega arith), joined_printable (g ∷ fs) h.1)

joined_short : (w : ℕ) (fs : List (List ℕ)) → AllByRecursion (λ f. length f < w) fs → length (joined fs) ≤ length fs * w
joined_short w [] h = omega arith
joined_short w (f ∷ []) h = omega (arith, suc-mul zero w, h.0)
joined_short w (f ∷ (g ∷ fs)) h =
    omega (arith, suc-mul (length (g ∷ fs)) w, length-append f (comma ∷ joined (g ∷ fs)), joined_short w (g ∷ fs) h.1, h.0)

module _ (most : ℕ) (digits : ℕ) (some : 0 < digits) (small : most < 2 ^ 64) (few : most < 10 ^ digits) where
  pub list_printable : (ns : List ℕ) → AllByRecursion (λ n. n ≤ most) ns → AllByRecursion Printable (joined (map decimal ns))
  list_printable ns h = joined_printable (map decimal ns) (each ns h)
    where
      each : (ns : List ℕ) → AllByRecursion (λ n. n ≤ most) ns → AllByRecursion (AllByRecursion Printable) (map decimal ns)
      each [] h = tt
      each (n ∷ ns) h = (decimal_printable n (omega (arith, h.0)), each ns h.1)

  widths : (ns : List ℕ) → AllByRecursion (λ n. n ≤ most) ns → AllByRecursion (λ f. length f < suc digits) (map decimal ns)
  widths [] h = tt
  widths (n ∷ ns) h = (omega (arith, length-decimal-le digits n some (omega (arith, h.0)) (omega (arith, h.0))), widths ns h.1)

  length_decimals : (ns : List ℕ) → length (map decimal ns) ≡ length ns
  length_decimals [] = refl
  length_decimals (n ∷ ns) = ap suc (length_decimals ns)

  pub list_short : (ns : List ℕ) → AllByRecursion (λ n. n ≤ most) ns → length (joined (map decimal ns)) ≤ length ns * suc digits
  list_short ns h = subst (λ m. length (joined (map decimal ns)) ≤ m * suc digits) (length_decimals ns) (joined_short (suc digits) (map decimal ns) (widths ns h))
