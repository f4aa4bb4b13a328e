-- What was read so far is what was written: the lines behind a reader, by its stage.
use Rattle.std.proofs.Common.{◌≡◌, ℕ, ◌+◌, ◌-◌, ◌^◌, ◌<◌, Bool, true, false, cond, eqb, List, [], ◌∷◌, ◌++◌, map, length, get_or, take, set, replicate, Some, Ok, codes, decimal, sym, refl, ap, ◌∙◌, subst, arith}
use Rattle.std.proofs.lemmas.Slice.Eq.{bytes_eq-Decides}
use Rattle.std.proofs.lemmas.List.{append_assoc, append-nil, take_at as FrontAt, take_more_set, get_or-set_other}
use Rattle.std.proofs.lemmas.Bool.{eqb-true}
use Rattle.lines.specs.Fields.{joined}
use Rattle.reading.specs.Values.{number_between}
use Rattle.reading.specs.Written.{line_of, number_line, list_line}
use Rattle.reading.specs.declared.keys.Key.{Key}
use Rattle.reading.specs.declared.keys.Key.TheVariants.{Kind, Threshold, Setup, Inspect, Unit as UnitKey, Grades, Row, Planned, Forced, Dark, End}
use Rattle.reading.proofs.ValueLaws.{between_law, list_law}
use Rattle.pair.specs.Limits.{hundred, least_grades, most_grades, most_threshold, most_charge, most_dark}
use Rattle.pair.specs.declared.numbers.UnitNumbers.{UnitNumbers}
use Rattle.pairtext.specs.declared.reader.PairReader.{PairReader}
use Rattle.pairtext.specs.declared.stage.Stage.{Stage}
use Rattle.pairtext.specs.declared.stage.Stage.TheVariants.{KindDue, ThresholdDue, SetupDue, InspectDue, UnitDue, GradesDue, RowDue, PlannedDue, ForcedDue, DarkDue, EndDue, Complete}
use Rattle.pairtext.specs.declared.stage.UnitName.{UnitName}
use Rattle.pairtext.specs.declared.stage.UnitName.TheVariants.{One, Two}
use Rattle.pairtext.specs.Readers.{unit_number, unit_index, no_unit, opened_unit, with_grades, with_row, with_planned, with_forced, with_dark, at_stage, with_unit, at_row}
use Rattle.pairtext.specs.Rows.{row_of}
use Rattle.pairtext.specs.Sound.{Here, Sound}
use Rattle.pairtext.specs.Steps.{behind_unit, due, take_at}
use Rattle.pairtext.specs.Texts.{numbers_read}
use Rattle.pairtext.specs.Writing.{row_lines, unit_text, pair_text}
use Rattle.pairtext.proofs.RowLaws.{row_read}
use Rattle.pairtext.proofs.Soundness.{on_made, word_made, index_within, put_here}

-- the lines before the units
abbrev pub terms : PairReader → List ℕ
terms r = ((line_of Kind (codes "pair") ++ number_line Threshold r.threshold) ++ number_line Setup r.setup) ++ number_line Inspect r.inspect

-- the lines of the units before the one opened last
abbrev pub before : UnitName → List UnitNumbers → List ℕ
before One us = []
before Two us = unit_text One (get_or us 0 no_unit)

-- the lines of a unit up to so many rows
abbrev pub upto : List ℕ → UnitName → UnitNumbers → ℕ → List ℕ
upto b n u k = ((b ++ number_line UnitKey (unit_number n)) ++ number_line Grades u.grades) ++ row_lines u.grades (take k u.rows)

-- up to all rows of the unit opened last
abbrev pub rowed : PairReader → List ℕ
rowed r = upto (terms r ++ before r.opened r.units) r.opened (opened_unit r) ((opened_unit r).grades - 1)

-- all lines behind a reader
abbrev pub text_at : Stage → PairReader → List ℕ
text_at KindDue r = []
text_at ThresholdDue r = line_of Kind (codes "pair")
text_at SetupDue r = line_of Kind (codes "pair") ++ number_line Threshold r.threshold
text_at InspectDue r = (line_of Kind (codes "pair") ++ number_line Threshold r.threshold) ++ number_line Setup r.setup
text_at UnitDue r = terms r ++ before r.opened r.units
text_at GradesDue r = (terms r ++ before r.opened r.units) ++ number_line UnitKey (unit_number r.opened)
text_at RowDue r = upto (terms r ++ before r.opened r.units) r.opened (opened_unit r) r.row
text_at PlannedDue r = rowed r
text_at ForcedDue r = rowed r ++ number_line Planned (opened_unit r).planned
text_at DarkDue r = (rowed r ++ number_line Planned (opened_unit r).planned) ++ number_line Forced (opened_unit r).forced
text_at EndDue r = (terms r ++ unit_text One (get_or r.units 0 no_unit)) ++ unit_text Two (get_or r.units 1 no_unit)
text_at Complete r = ((terms r ++ unit_text One (get_or r.units 0 no_unit)) ++ unit_text Two (get_or r.units 1 no_unit)) ++ line_of End (codes "plant")

-- all lines of a pair
pub whole_text : (r : PairReader) → text_at Complete r ≡ pair_text (numbers_read r)
whole_text r = regroup (line_of Kind (codes "pair")) (number_line Threshold r.threshold) (number_line Setup r.setup) (number_line Inspect r.inspect) (unit_text One (get_or r.units 0 no_unit)) (unit_text Two (get_or r.units 1 no_unit)) (line_of End (codes "plant"))
  where
    regroup : (a b c d e f g : List ℕ) → (((((a ++ b) ++ c) ++ d) ++ e) ++ f) ++ g ≡ a ++ (b ++ (c ++ (d ++ (e ++ (f ++ g)))))
    regroup a b c d e f g = simp append_assoc

before_put : (n : UnitName) (us : List UnitNumbers) (v : UnitNumbers) → before n (set us (unit_index n) v) ≡ before n us
before_put One us v = refl
before_put Two us v = ap (unit_text One) (get_or-set_other us 1 0 v no_unit (λ z. omega arith))

rows_push : (grades : ℕ) (rows : List (List ℕ)) (row : List ℕ) → row_lines grades (rows ++ (row ∷ [])) ≡ row_lines grades rows ++ list_line Row (take grades row)
rows_push grades [] row = append-nil _
rows_push grades (x ∷ rows) row = ap (λ l. list_line Row (take grades x) ++ l) (rows_push grades rows row) ∙ sym (append_assoc (list_line Row (take grades x)) (row_lines grades rows) (list_line Row (take grades row)))

module _ (r : PairReader) (h : Sound r) (value : List ℕ) where
  -- a text that speaks of the unit opened last and of those before it, where that unit is put in
  put_text : (F : List ℕ → UnitNumbers → List ℕ) (v : UnitNumbers) → F (before r.opened (set r.units (unit_index r.opened) v)) (get_or (set r.units (unit_index r.opened) v) (unit_index r.opened) no_unit) ≡ F (before r.opened r.units) v
  put_text F v = (λ i. F (before_put r.opened r.units v i) (put_here r.units h.both r.opened v i))

  number_is : (least most n : ℕ) → most < 2 ^ 64 → number_between value least most ≡ Some n → decimal n ≡ value
  number_is least most n small e = sym ((between_law value least most small n).0 e).0

  -- the line of a number that was read, behind a text
  added : (t : List ℕ) (key : Key) (least most n : ℕ) → most < 2 ^ 64 → number_between value least most ≡ Some n → t ++ number_line key n ≡ t ++ line_of key value
  added t key least most n small e = ap (λ v. t ++ line_of key v) (number_is least most n small e)

  row_text : (hs : List ℕ) → (k : ℕ) → k ≡ r.row + 1 → r.row < length (opened_unit r).rows → row_of value (opened_unit r).grades r.row ≡ Some hs → upto (terms r ++ before r.opened r.units) r.opened (with_row r.row hs (opened_unit r)) k ≡ text_at RowDue r ++ line_of Row value
  row_text hs k last inside e =
      let q = row_read value (opened_unit r).grades r.row hs e in
      let cut : take (opened_unit r).grades hs ≡ q.ns = ap (take (opened_unit r).grades) q.is ∙ FrontAt q.ns (replicate (most_grades - length q.ns) 0) (opened_unit r).grades q.long in
      let is : joined (map decimal (take (opened_unit r).grades hs)) ≡ value = ap (λ ns. joined (map decimal ns)) cut ∙ sym ((list_law value hundred (opened_unit r).grades (omega arith) q.ns).0 q.listed).0 in
      let more : row_lines (opened_unit r).grades (take k (set (opened_unit r).rows r.row hs)) ≡ row_lines (opened_unit r).grades (take r.row (opened_unit r).rows) ++ line_of Row value = ap (λ j. row_lines (opened_unit r).grades (take j (set (opened_unit r).rows r.row hs))) last ∙ ap (row_lines (opened_unit r).grades) (take_more_set (opened_unit r).rows r.row hs inside) ∙ rows_push (opened_unit r).grades (take r.row (opened_unit r).rows) hs ∙ ap (λ v. row_lines (opened_unit r).grades (take r.row (opened_unit r).rows) ++ line_of Row v) is in
      ap (λ l. (((terms r ++ before r.opened r.units) ++ number_line UnitKey (unit_number r.opened)) ++ number_line Grades (opened_unit r).grades) ++ l) more ∙ sym (append_assoc (text_at GradesDue r ++ number_line Grades (opened_unit r).grades) (row_lines (opened_unit r).grades (take r.row (opened_unit r).rows)) (line_of Row value))

  -- a row that is due has its place
  row_inside : Here RowDue r → r.row < length (opened_unit r).rows
  row_inside now = omega (arith, now.0.1, now.1, (h.kept (unit_index r.opened) (index_within r.opened)).0)

  unit_small : (n : UnitName) → unit_number n < 2 ^ 64
  unit_small One = omega arith
  unit_small Two = omega arith

  -- the unit is read to its end
  unit_behind : (n : UnitName) (dark : ℕ) → r.opened ≡ n → decimal dark ≡ value → text_at (behind_unit n (with_unit (with_dark dark (opened_unit r)) r)).stage (behind_unit n (with_unit (with_dark dark (opened_unit r)) r)) ≡ text_at DarkDue r ++ line_of Dark value
  unit_behind One dark e is =
      let v : UnitNumbers = with_dark dark (opened_unit r) in
      let here : get_or (set r.units (unit_index r.opened) v) 0 no_unit ≡ v = ap (λ n. get_or (set r.units (unit_index r.opened) v) (unit_index n) no_unit) (sym e) ∙ put_here r.units h.both r.opened v in
      ap (λ u. terms r ++ unit_text One u) here ∙ regroup (terms r) _ _ _ _ _ _ ∙ ap (λ w. ((upto (terms r ++ []) One (opened_unit r) ((opened_unit r).grades - 1) ++ number_line Planned (opened_unit r).planned) ++ number_line Forced (opened_unit r).forced) ++ line_of Dark w) is ∙ ap (λ n. ((upto (terms r ++ before n r.units) n (opened_unit r) ((opened_unit r).grades - 1) ++ number_line Planned (opened_unit r).planned) ++ number_line Forced (opened_unit r).forced) ++ line_of Dark value) (sym e)
    where
      regroup : (t a b c d e f : List ℕ) → t ++ (a ++ (b ++ (c ++ (d ++ (e ++ f))))) ≡ (((((((t ++ []) ++ a) ++ b) ++ c) ++ d) ++ e) ++ f)
      regroup t a b c d e f = simp (append_assoc, append-nil)
  unit_behind Two dark e is =
      let v : UnitNumbers = with_dark dark (opened_unit r) in
      let here : get_or (set r.units (unit_index r.opened) v) 1 no_unit ≡ v = ap (λ n. get_or (set r.units (unit_index r.opened) v) (unit_index n) no_unit) (sym e) ∙ put_here r.units h.both r.opened v in
      let one : get_or (set r.units (unit_index r.opened) v) 0 no_unit ≡ get_or r.units 0 no_unit = ap (λ n. get_or (set r.units (unit_index n) v) 0 no_unit) e ∙ get_or-set_other r.units 1 0 v no_unit (λ z. omega arith) in
      (λ i. (terms r ++ unit_text One (one i)) ++ unit_text Two (here i)) ∙ regroup (terms r ++ unit_text One (get_or r.units 0 no_unit)) _ _ _ _ _ _ ∙ ap (λ w. ((upto (terms r ++ before Two r.units) Two (opened_unit r) ((opened_unit r).grades - 1) ++ number_line Planned (opened_unit r).planned) ++ number_line Forced (opened_unit r).forced) ++ line_of Dark w) is ∙ ap (λ n. ((upto (terms r ++ before n r.units) n (opened_unit r) ((opened_unit r).grades - 1) ++ number_line Planned (opened_unit r).planned) ++ number_line Forced (opened_unit r).forced) ++ line_of Dark value) (sym e)
    where
      regroup : (t a b c d e f : List ℕ) → t ++ (a ++ (b ++ (c ++ (d ++ (e ++ f))))) ≡ ((((((t ++ a) ++ b) ++ c) ++ d) ++ e) ++ f)
      regroup t a b c d e f = simp append_assoc

  row_behind : (hs : List ℕ) (t : Bool) → Here RowDue r → row_of value (opened_unit r).grades r.row ≡ Some hs → eqb (r.row + 1 + 1) (opened_unit r).grades ≡ t → text_at (cond t PlannedDue RowDue) (at_stage (cond t PlannedDue RowDue) (at_row (r.row + 1) (with_unit (with_row r.row hs (opened_unit r)) r))) ≡ text_at RowDue r ++ line_of Row value
  row_behind hs true now e q =
      let last : (opened_unit r).grades - 1 ≡ r.row + 1 = omega (arith, eqb-true _ _ q) in
      put_text (λ b v. upto (terms r ++ b) r.opened v (v.grades - 1)) (with_row r.row hs (opened_unit r)) ∙ row_text hs ((opened_unit r).grades - 1) last (row_inside now) e
  row_behind hs false now e q =
      put_text (λ b v. upto (terms r ++ b) r.opened v (r.row + 1)) (with_row r.row hs (opened_unit r)) ∙ row_text hs (r.row + 1) refl (row_inside now) e

  -- a line that is made adds just its own text
  pub made_text : (s : Stage) (next : PairReader) → Here s r → take_at s r value ≡ Ok next → text_at next.stage next ≡ text_at s r ++ line_of (due s) value
  made_text KindDue next now e =
      let m = word_made value (codes "pair") (at_stage ThresholdDue r) next e in
      subst (λ q. text_at q.stage q ≡ line_of Kind value) m.1 (ap (line_of Kind) (sym ((bytes_eq-Decides value (codes "pair")).0 m.0)))
  made_text ThresholdDue next now e =
      let m = on_made (number_between value 0 most_threshold) _ next e in
      subst (λ q. text_at q.stage q ≡ text_at ThresholdDue r ++ line_of Threshold value) m.1.1 (added (text_at ThresholdDue r) Threshold 0 most_threshold m.0 (omega arith) m.1.0)
  made_text SetupDue next now e =
      let m = on_made (number_between value 0 most_charge) _ next e in
      subst (λ q. text_at q.stage q ≡ text_at SetupDue r ++ line_of Setup value) m.1.1 (added (text_at SetupDue r) Setup 0 most_charge m.0 (omega arith) m.1.0)
  made_text InspectDue next now e =
      let m = on_made (number_between value 0 most_charge) _ next e in
      subst (λ q. text_at q.stage q ≡ text_at InspectDue r ++ line_of Inspect value) m.1.1 (ap (λ n. (text_at InspectDue r ++ number_line Inspect m.0) ++ before n r.units) now.1 ∙ append-nil (text_at InspectDue r ++ number_line Inspect m.0) ∙ added (text_at InspectDue r) Inspect 0 most_charge m.0 (omega arith) m.1.0)
  made_text UnitDue next now e =
      let m = on_made (number_between value (unit_number r.opened) (unit_number r.opened)) _ next e in
      let b = (between_law value (unit_number r.opened) (unit_number r.opened) (unit_small r.opened) m.0).0 m.1.0 in
      let same : unit_number r.opened ≡ m.0 = omega (arith, b.1, b.2) in
      subst (λ q. text_at q.stage q ≡ text_at UnitDue r ++ line_of UnitKey value) m.1.1 (ap (λ n. text_at UnitDue r ++ number_line UnitKey n) same ∙ ap (λ v. text_at UnitDue r ++ line_of UnitKey v) (sym b.0))
  made_text GradesDue next now e =
      let m = on_made (number_between value least_grades most_grades) _ next e in
      subst
      (λ q. text_at q.stage q ≡ text_at GradesDue r ++ line_of Grades value)
      m.1.1
      (put_text (λ b v. upto (terms r ++ b) r.opened v 0) (with_grades m.0 (opened_unit r)) ∙ append-nil (text_at GradesDue r ++ number_line Grades m.0) ∙ added (text_at GradesDue r) Grades least_grades most_grades m.0 (omega arith) m.1.0)
  made_text RowDue next now e =
      let m = on_made (row_of value (opened_unit r).grades r.row) _ next e in
      subst (λ q. text_at q.stage q ≡ text_at RowDue r ++ line_of Row value) m.1.1 (row_behind m.0 (eqb (r.row + 1 + 1) (opened_unit r).grades) now m.1.0 refl)
  made_text PlannedDue next now e =
      let m = on_made (number_between value 0 most_charge) _ next e in
      subst
      (λ q. text_at q.stage q ≡ text_at PlannedDue r ++ line_of Planned value)
      m.1.1
      (put_text (λ b v. upto (terms r ++ b) r.opened v (v.grades - 1) ++ number_line Planned v.planned) (with_planned m.0 (opened_unit r)) ∙ added (text_at PlannedDue r) Planned 0 most_charge m.0 (omega arith) m.1.0)
  made_text ForcedDue next now e =
      let m = on_made (number_between value 0 most_charge) _ next e in
      subst
      (λ q. text_at q.stage q ≡ text_at ForcedDue r ++ line_of Forced value)
      m.1.1
      (put_text (λ b v. (upto (terms r ++ b) r.opened v (v.grades - 1) ++ number_line Planned v.planned) ++ number_line Forced v.forced) (with_forced m.0 (opened_unit r)) ∙ added (text_at ForcedDue r) Forced 0 most_charge m.0 (omega arith) m.1.0)
  made_text DarkDue next now e =
      let m = on_made (number_between value 0 most_dark) _ next e in
      subst (λ q. text_at q.stage q ≡ text_at DarkDue r ++ line_of Dark value) m.1.1 (unit_behind r.opened m.0 refl (number_is 0 most_dark m.0 (omega arith) m.1.0))
  made_text EndDue next now e =
      let m = word_made value (codes "plant") (at_stage Complete r) next e in
      subst (λ q. text_at q.stage q ≡ text_at EndDue r ++ line_of End value) m.1 (ap (λ v. text_at EndDue r ++ line_of End v) (sym ((bytes_eq-Decides value (codes "plant")).0 m.0)))
  made_text Complete next now e = absurd (cc)
