-- A row that was read is lawful.
use Rattle.std.proofs.Common.{◌≡◌, ℕ, ◌+◌, ◌-◌, ◌<◌, ◌≤◌, Bool, true, false, cond, eqb, List, [], ◌∷◌, ◌++◌, map, length, get_or, take, drop, set, replicate, Some, None, decimal, sum, Option, sym, refl, ap, ◌∙◌, subst, arith}
use Rattle.std.specs.List.{AllByRecursion}
use Rattle.std.proofs.ByRecursion.{All-from_get_or}
use Rattle.std.proofs.lemmas.List.{append_assoc, take_at, take_more, take_more_set, drop_more, get_or-take, get_or-replicate, length-replicate, set_at, length-map, length-append, length-take, length-take-le, map_push}
use Rattle.std.proofs.lemmas.List.Folds.{sum_by-replicate}
use Rattle.std.proofs.lemmas.List.Sums.{sum_by-append, get_or-le-sum_by}
use Rattle.std.proofs.lemmas.Bool.{eqb-true, eq-eqb, and_parts, and_from, cond-true}
use Rattle.lines.specs.Fields.{joined}
use Rattle.lines.specs.Line.{Printable}
use Rattle.reading.specs.Values.{list_of}
use Rattle.reading.proofs.ValueLaws.{list_law}
use Rattle.reading.proofs.WrittenLaws.{widest_value, list_printable, list_short}
use Rattle.pair.specs.Limits.{hundred, most_grades}
use Rattle.pair.specs.Units.{over_grades, all_zero}
use Rattle.pair.proofs.Rows.{over_take, zero_at, zero_from}
use Rattle.pairtext.specs.Readers.{blank_row, blank_rows}
use Rattle.pairtext.specs.Rows.{adds_up, padded, tested, row_of}
use Rattle.pairtext.specs.Sound.{laid}

-- the law of a row of grade g in a unit of so many grades, over its numbers alone
abbrev pub RowLaw : List ℕ → ℕ → ℕ → Type 0
RowLaw hs g grades = (over_grades (λ h. get_or hs (h - 1) 0) grades ≡ hundred) × ((h : ℕ) → 1 ≤ h → h < g → get_or hs (h - 1) 0 ≡ 0)

-- what a test of a row says
pub row_law : (own : ℕ) (ns : List ℕ) → adds_up own (padded ns) ≡ true → RowLaw (padded ns) (own + 1) (length ns)
row_law own ns e =
    let parts : (eqb (sum (padded ns)) hundred ≡ true) × (all_zero (take own (padded ns)) ≡ true) = and_parts _ _ e in
    let whole : sum (padded ns) ≡ sum ns + sum (replicate (most_grades - length ns) 0) = sum_by-append (λ x. x) ns (replicate (most_grades - length ns) 0) in
    let front : sum (take (length ns) (padded ns)) ≡ sum ns = ap sum (take_at ns (replicate (most_grades - length ns) 0) (length ns) refl) in (
      omega (arith, over_take (padded ns) (length ns), front, whole, sum_by-replicate (λ x. x) (most_grades - length ns) 0, eqb-true _ hundred parts.0),
      (λ h low high. let below : h - 1 < own = omega arith in sym (get_or-take own (padded ns) (h - 1) 0 below) ∙ zero_at (take own (padded ns)) (h - 1) parts.1),
    )

-- the numbers of a row that was read
pub record RowRead (value : List ℕ) (grades own : ℕ) (hs : List ℕ) : Type 0 where
  pub ns : List ℕ
  pub listed : list_of value hundred grades ≡ Some ns
  pub long : length ns ≡ grades
  pub test : adds_up own (padded ns) ≡ true
  pub is : hs ≡ padded ns

pub row_read : (value : List ℕ) (grades own : ℕ) (hs : List ℕ) → row_of value grades own ≡ Some hs → RowRead value grades own hs
row_read value grades own hs e = found (list_of value hundred grades) refl e
  where
    passed : (ns : List ℕ) → list_of value hundred grades ≡ Some ns → (t : Bool) → adds_up own (padded ns) ≡ t → cond t (Some (padded ns)) None ≡ Some hs → RowRead value grades own hs
    passed ns q false p e = absurd (cc)
    passed ns q true p e = record { ns = ns; listed = q; long = ((list_law value hundred grades (omega arith) ns).0 q).2; test = p; is = cc }

    found : (o : Option (List ℕ)) → list_of value hundred grades ≡ o → tested own o ≡ Some hs → RowRead value grades own hs
    found None q e = absurd (cc)
    found (Some ns) q e = passed ns q (adds_up own (padded ns)) refl e

pub read_row_law : (value : List ℕ) (grades own : ℕ) (hs : List ℕ) → row_of value grades own ≡ Some hs → RowLaw hs (own + 1) grades
read_row_law value grades own hs e =
    let r = row_read value grades own hs e in
    subst (λ l. RowLaw l (own + 1) grades) (sym r.is) (subst (RowLaw (padded r.ns) (own + 1)) r.long (row_law own r.ns r.test))

-- a row that was read has zeros behind its grades
pub read_row_form : (value : List ℕ) (grades own : ℕ) (hs : List ℕ) → row_of value grades own ≡ Some hs → hs ≡ padded (take grades hs)
read_row_form value grades own hs e =
    let r = row_read value grades own hs e in
    r.is ∙ ap padded (sym (take_at r.ns (replicate (most_grades - length r.ns) 0) grades r.long) ∙ ap (take grades) (sym r.is))

-- one row more in a table with zeros everywhere else
module _ (k grades : ℕ) (room : k < most_grades) where
  abbrev form : List ℕ → List ℕ
  form row = padded (take grades row)

  blank_next : drop k blank_rows ≡ blank_row ∷ drop (k + 1) blank_rows
  blank_next = drop_more blank_rows k blank_row room ∙ ap (λ l. l ∷ drop (k + 1) blank_rows) (get_or-replicate most_grades k blank_row blank_row room)

  -- p is what stands before the row
  put_next : (p : List (List ℕ)) (hs : List ℕ) → length p ≡ k → set (p ++ drop k blank_rows) k hs ≡ p ++ (hs ∷ drop (k + 1) blank_rows)
  put_next p hs long = ap (λ l. set (p ++ l) k hs) blank_next ∙ set_at p blank_row (drop (k + 1) blank_rows) hs k long

  length_front : (rows : List (List ℕ)) → k ≤ length rows → length (map form (take k rows)) ≡ k
  length_front rows l = length-map (take k rows) form ∙ length-take-le k rows l

  grown : (front : List (List ℕ)) (hs : List ℕ) → map form (front ++ (hs ∷ [])) ++ drop (k + 1) blank_rows ≡ map form front ++ (form hs ∷ drop (k + 1) blank_rows)
  grown front hs = ap (λ l. l ++ drop (k + 1) blank_rows) (map_push form front hs) ∙ append_assoc (map form front) (form hs ∷ []) (drop (k + 1) blank_rows)

pub laid_more : (rows : List (List ℕ)) (k grades : ℕ) (hs : List ℕ) → k < most_grades → length rows ≡ most_grades → rows ≡ laid k grades rows → hs ≡ padded (take grades hs) → set rows k hs ≡ laid (k + 1) grades (set rows k hs)
laid_more rows k grades hs room long is form_of =
    let inside : k < length rows = omega (arith, long) in
    let low : k ≤ length rows = omega (arith, long) in
    ap (λ l. set l k hs) is ∙ put_next k grades room (map (form k grades room) (take k rows)) hs (length_front k grades room rows low) ∙ ap (λ l. map (form k grades room) (take k rows) ++ (l ∷ drop (k + 1) blank_rows)) form_of ∙ sym (grown k grades room (take k rows) hs) ∙ sym (ap (λ l. map (form k grades room) l ++ drop (k + 1) blank_rows) (take_more_set rows k hs inside))

-- the next row of a table, put in where the rows before it are
pub laid_next : (rows : List (List ℕ)) (k grades : ℕ) → k < most_grades → k < length rows → set (laid k grades rows) k (padded (take grades (get_or rows k []))) ≡ laid (k + 1) grades rows
laid_next rows k grades room inside =
    let low : k ≤ length rows = omega arith in
    put_next k grades room (map (form k grades room) (take k rows)) (padded (take grades (get_or rows k []))) (length_front k grades room rows low) ∙ sym (grown k grades room (take k rows) (get_or rows k [])) ∙ sym (ap (λ l. map (form k grades room) l ++ drop (k + 1) blank_rows) (take_more rows k [] inside))

-- a row with zeros behind its grades that is lawful is read back from its text
module _ (row : List ℕ) (grades own : ℕ) (some : 0 < grades) (most : grades ≤ most_grades) (law : RowLaw row (own + 1) grades) (form_of : row ≡ padded (take grades row)) where
  padded_long : (hs : List ℕ) → length hs ≤ most_grades → length (padded hs) ≡ most_grades
  padded_long hs l = length-append hs (replicate (most_grades - length hs) 0) ∙ omega (arith, length-replicate {A = ℕ} (most_grades - length hs) 0)

  row_long : length (take grades row) ≡ grades
  row_long =
      let short : length (take grades row) ≤ grades = omega (arith, length-take grades row) in
      let whole : length row ≡ most_grades = ap length form_of ∙ padded_long (take grades row) (omega arith) in
      length-take-le grades row (omega arith)

  row_sum : sum (take grades row) ≡ hundred
  row_sum = sym (over_take row grades) ∙ law.0

  row_within : AllByRecursion (λ n. n ≤ hundred) (take grades row)
  row_within = All-from_get_or (λ n. n ≤ hundred) (take grades row) 0 (λ i l. omega (arith, get_or-le-sum_by (λ x. x) (take grades row) i 0 l, row_sum))

  row_adds_up : adds_up own (padded (take grades row)) ≡ true
  row_adds_up =
      let hs : List ℕ = take grades row in
      let whole : sum (padded hs) ≡ sum hs + sum (replicate (most_grades - length hs) 0) = sum_by-append (λ x. x) hs (replicate (most_grades - length hs) 0) in
      let total : sum (padded hs) ≡ hundred = omega (arith, whole, sum_by-replicate (λ x. x) (most_grades - length hs) 0, row_sum) in
      let front : all_zero (take own row) ≡ true = zero_from (take own row) before_own in
      and_from _ _ (eq-eqb _ hundred total) (ap (λ l. all_zero (take own l)) (sym form_of) ∙ front)
    where
      before_own : (i : ℕ) → i < length (take own row) → get_or (take own row) i 0 ≡ 0
      before_own i l =
          let below : i < own = omega (arith, length-take own row) in
          let back : (i + 1) - 1 ≡ i = omega arith in
          get_or-take own row i 0 below ∙ ap (λ k. get_or row k 0) (sym back) ∙ law.1 (i + 1) (omega arith) (omega arith)

  pub row_back : row_of (joined (map decimal (take grades row))) grades own ≡ Some (padded (take grades row))
  row_back =
      let listed : list_of (joined (map decimal (take grades row))) hundred grades ≡ Some (take grades row) = (list_law (joined (map decimal (take grades row))) hundred grades (omega arith) (take grades row)).1 (refl, some, row_long, row_within) in
      ap (tested own) listed ∙ cond-true _ _ _ row_adds_up

  -- and its text fits a line
  pub row_printable : AllByRecursion Printable (joined (map decimal (take grades row)))
  row_printable = list_printable hundred 3 (omega arith) (omega arith) (omega arith) (take grades row) row_within

  pub row_short : length (joined (map decimal (take grades row))) ≤ widest_value
  row_short = omega (arith, list_short hundred 3 (omega arith) (omega arith) (omega arith) (take grades row) row_within, row_long)
