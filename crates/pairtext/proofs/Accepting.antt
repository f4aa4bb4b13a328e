-- The text of a pair is accepted, and gives its numbers back.
use Rattle.std.proofs.Common.{◌≡◌, ℕ, zero, suc, ◌+◌, ◌-◌, ◌^◌, ◌<◌, ◌≤◌, true, false, ltb, List, [], ◌∷◌, ◌++◌, map, length, get_or, take, drop, Some, Ok, codes, decimal, Option, sym, refl, ap, ◌∙◌, subst, ⊎_elim, arith}
use Rattle.std.specs.List.{AllByRecursion}
use Rattle.std.proofs.lemmas.List.{append_assoc, at_drop_more, at_drop_all, get_or_append_left, get_or-map, get_or-take, length-append, length-drop, length-map, length-take-le, take_all}
use Rattle.std.proofs.lemmas.Bool.{cases_lt, leb-true, ltb-true, eq-eqb, ne_eqb, cond-true, cond-false}
use Rattle.lines.specs.Fields.{joined}
use Rattle.lines.specs.Line.{Printable, pair, rest_at}
use Rattle.lines.proofs.DigitLaws.{decimal_printable}
use Rattle.reading.specs.Keys.{name_of}
use Rattle.reading.specs.Values.{number_between}
use Rattle.reading.specs.Written.{line_of, number_line, list_line}
use Rattle.reading.specs.declared.keys.Key.{Key}
use Rattle.reading.specs.declared.keys.Key.TheVariants.{Kind, Threshold, Setup, Inspect, Unit as UnitKey, Grades, Row, Planned, Forced, Dark, End, Other as NoKey}
use Rattle.reading.proofs.KeyLaws.{key_of_name}
use Rattle.reading.proofs.ValueLaws.{between_law}
use Rattle.reading.proofs.WrittenLaws.{widest_value, plain_bytes, written_line, written_rest, number_short}
use Rattle.pair.specs.Limits.{least_grades, most_grades, most_threshold, most_charge, most_dark}
use Rattle.pair.specs.Pairs.{LawfulNumbers}
use Rattle.pair.specs.Units.{LawfulUnit}
use Rattle.pair.specs.declared.numbers.PairNumbers.{PairNumbers}
use Rattle.pair.specs.declared.numbers.UnitNumbers.{UnitNumbers}
use Rattle.pairtext.specs.declared.reader.PairReader.{PairReader}
use Rattle.pairtext.specs.declared.stage.Stage.{Stage}
use Rattle.pairtext.specs.declared.stage.Stage.TheVariants.{ThresholdDue, SetupDue, InspectDue, UnitDue, GradesDue, RowDue, PlannedDue, ForcedDue, DarkDue, EndDue, Complete}
use Rattle.pairtext.specs.declared.stage.UnitName.{UnitName}
use Rattle.pairtext.specs.declared.stage.UnitName.TheVariants.{One, Two}
use Rattle.pairtext.specs.Readers.{unit_number, blank_rows, blank_unit, fresh, with_grades, with_row, with_planned, with_forced, with_dark, at_stage, with_threshold, with_setup, with_inspect}
use Rattle.pairtext.specs.Rows.{padded, row_of}
use Rattle.pairtext.specs.Sound.{laid}
use Rattle.pairtext.specs.Steps.{on, behind_row, behind_unit, pair_step}
use Rattle.pairtext.specs.Texts.{Reading, complete, renewable, read_pair}
use Rattle.pairtext.specs.Writing.{row_lines, unit_text, pair_text, ZeroBeyond, BeginsPair}
use Rattle.pairtext.proofs.RowLaws.{RowLaw, laid_next, row_back, row_printable, row_short}
use Rattle.pairtext.proofs.TextLaws.{renewable_first, Goes, goes_on, goes_closed, goes_at}

-- a step to a reader that is not complete
abbrev StepTo : PairReader → Key → List ℕ → PairReader → Type 0
StepTo r key v next = (pair_step r key v ≡ Ok next) × (complete next.stage ≡ false)

on_some : {X : Type 0} (o : Option X) (f : X → PairReader) (x : X) → o ≡ Some x → on o f ≡ Ok (f x)
on_some o f x e = ap (λ p. on p f) e

reads : (n least most : ℕ) → most < 2 ^ 64 → least ≤ n → n ≤ most → number_between (decimal n) least most ≡ Some n
reads n least most small low high = (between_law (decimal n) least most small n).1 (refl, low, high)

-- the reader in the middle of a unit: the unit opened last and the other one
module _ (t su i : ℕ) where
  abbrev st : Stage → UnitName → UnitNumbers → UnitNumbers → ℕ → PairReader
  st s One u other k = record { stage = s; threshold = t; setup = su; inspect = i; units = u ∷ (other ∷ []); opened = One; row = k }
  st s Two u other k = record { stage = s; threshold = t; setup = su; inspect = i; units = other ∷ (u ∷ []); opened = Two; row = k }

  unit_step : (n : UnitName) (u other : UnitNumbers) (k : ℕ) → StepTo (st UnitDue n u other k) UnitKey (decimal (unit_number n)) (st GradesDue n u other k)
  unit_step One u other k = (on_some (number_between (decimal 1) 1 1) (λ m. st GradesDue One u other k) 1 (reads 1 1 1 (omega arith) (omega arith) (omega arith)), refl)
  unit_step Two u other k = (on_some (number_between (decimal 2) 2 2) (λ m. st GradesDue Two u other k) 2 (reads 2 2 2 (omega arith) (omega arith) (omega arith)), refl)

  grades_step : (n : UnitName) (u other : UnitNumbers) (k g : ℕ) → least_grades ≤ g → g ≤ most_grades → StepTo (st GradesDue n u other k) Grades (decimal g) (st RowDue n (with_grades g u) other 0)
  grades_step One u other k g low high = (on_some (number_between (decimal g) least_grades most_grades) (λ m. st RowDue One (with_grades m u) other 0) g (reads g least_grades most_grades (omega arith) low high), refl)
  grades_step Two u other k g low high = (on_some (number_between (decimal g) least_grades most_grades) (λ m. st RowDue Two (with_grades m u) other 0) g (reads g least_grades most_grades (omega arith) low high), refl)

  row_step : (n : UnitName) (u other : UnitNumbers) (k : ℕ) (hs v : List ℕ) (s : Stage) → row_of v u.grades k ≡ Some hs → behind_row (k + 1) u.grades ≡ s → complete s ≡ false → StepTo (st RowDue n u other k) Row v (st s n (with_row k hs u) other (k + 1))
  row_step One u other k hs v s e q c = (on_some (row_of v u.grades k) (λ h. st (behind_row (k + 1) u.grades) One (with_row k h u) other (k + 1)) hs e ∙ ap (λ z. Ok (st z One (with_row k hs u) other (k + 1))) q, c)
  row_step Two u other k hs v s e q c = (on_some (row_of v u.grades k) (λ h. st (behind_row (k + 1) u.grades) Two (with_row k h u) other (k + 1)) hs e ∙ ap (λ z. Ok (st z Two (with_row k hs u) other (k + 1))) q, c)

  planned_step : (n : UnitName) (u other : UnitNumbers) (k m : ℕ) → m ≤ most_charge → StepTo (st PlannedDue n u other k) Planned (decimal m) (st ForcedDue n (with_planned m u) other k)
  planned_step One u other k m high = (on_some (number_between (decimal m) 0 most_charge) (λ z. st ForcedDue One (with_planned z u) other k) m (reads m 0 most_charge (omega arith) (omega arith) high), refl)
  planned_step Two u other k m high = (on_some (number_between (decimal m) 0 most_charge) (λ z. st ForcedDue Two (with_planned z u) other k) m (reads m 0 most_charge (omega arith) (omega arith) high), refl)

  forced_step : (n : UnitName) (u other : UnitNumbers) (k m : ℕ) → m ≤ most_charge → StepTo (st ForcedDue n u other k) Forced (decimal m) (st DarkDue n (with_forced m u) other k)
  forced_step One u other k m high = (on_some (number_between (decimal m) 0 most_charge) (λ z. st DarkDue One (with_forced z u) other k) m (reads m 0 most_charge (omega arith) (omega arith) high), refl)
  forced_step Two u other k m high = (on_some (number_between (decimal m) 0 most_charge) (λ z. st DarkDue Two (with_forced z u) other k) m (reads m 0 most_charge (omega arith) (omega arith) high), refl)

  dark_step : (n : UnitName) (u other : UnitNumbers) (k m : ℕ) → m ≤ most_dark → StepTo (st DarkDue n u other k) Dark (decimal m) (behind_unit n (st DarkDue n (with_dark m u) other k))
  dark_step One u other k m high = (on_some (number_between (decimal m) 0 most_dark) (λ z. behind_unit One (st DarkDue One (with_dark z u) other k)) m (reads m 0 most_dark (omega arith) (omega arith) high), refl)
  dark_step Two u other k m high = (on_some (number_between (decimal m) 0 most_dark) (λ z. behind_unit Two (st DarkDue Two (with_dark z u) other k)) m (reads m 0 most_dark (omega arith) (omega arith) high), refl)

some_name : (k : Key) → ltb 0 (length (name_of k)) ≡ true → k ≡ NoKey → ⊥
some_name k e q = omega (arith, ltb-true 0 (length (name_of k)) e, ap (λ (z : Key). length (name_of z)) q)

-- reading on from here comes to g
module _ (g : Reading) where
  abbrev Comes : PairReader → List ℕ → Type 0
  Comes r text = (place : ℕ) × Goes r text place g

  comes_line : (r next : PairReader) (key : Key) (v more : List ℕ) → ltb 0 (length (name_of key)) ≡ true → AllByRecursion Printable v → length v ≤ widest_value → StepTo r key v next → Comes r (line_of key v ++ more) → Comes next more
  comes_line r next key v more some bytes short step (place, h) =
      let named : (key ≡ NoKey → ⊥) = some_name key some in
      (place + 1, goes_at next (rest_at (line_of key v ++ more)) more (place + 1) (place + 1) g (written_rest key named v more bytes short) refl (goes_on r (line_of key v ++ more) place g (pair (name_of key) v) (sym (written_line key named v more bytes short)) next (ap (λ k. pair_step r k v) (key_of_name key) ∙ step.0) step.1 h))

  comes_number : (r next : PairReader) (key : Key) (m : ℕ) (more : List ℕ) → ltb 0 (length (name_of key)) ≡ true → m < 2 ^ 64 → StepTo r key (decimal m) next → Comes r (number_line key m ++ more) → Comes next more
  comes_number r next key m more some small step c = comes_line r next key (decimal m) more some (decimal_printable m small) (number_short m small) step c

  -- one unit
  module _ (t su i : ℕ) (n : UnitName) (u other : UnitNumbers) (law : LawfulUnit u) (zeros : ZeroBeyond u) (more : List ℕ) where
    -- the unit with so many rows read
    abbrev part : ℕ → UnitNumbers
    part k = record { grades = u.grades; rows = laid k u.grades u.rows; planned = 0; forced = 0; dark = 0 }

    rows_long : length u.rows ≡ most_grades
    rows_long =
        let front : length (map (λ row. padded (take u.grades row)) (take (u.grades - 1) u.rows)) ≡ length (take (u.grades - 1) u.rows) = length-map (take (u.grades - 1) u.rows) (λ row. padded (take u.grades row)) in
        let whole : length u.rows ≡ length (take (u.grades - 1) u.rows) + length (drop (u.grades - 1) blank_rows) = ap length zeros ∙ length-append (map (λ row. padded (take u.grades row)) (take (u.grades - 1) u.rows)) (drop (u.grades - 1) blank_rows) ∙ ap (λ m. m + length (drop (u.grades - 1) blank_rows)) front in
        let back : length (drop (u.grades - 1) blank_rows) ≡ most_grades - (u.grades - 1) = length-drop (u.grades - 1) blank_rows in
        ⊎_elim
        (λ (l : length u.rows < u.grades - 1). absurd (omega (arith, whole, back, ap length (take_all (u.grades - 1) u.rows (omega arith)), law.0.0, law.0.1)))
        (λ (l : u.grades - 1 ≤ length u.rows). omega (arith, whole, back, length-take-le (u.grades - 1) u.rows l, law.0.0, law.0.1))
        (cases_lt (length u.rows) (u.grades - 1))

    used_long : length (take (u.grades - 1) u.rows) ≡ u.grades - 1
    used_long = length-take-le (u.grades - 1) u.rows (omega (arith, rows_long, law.0.1))

    -- a row below the failed grade
    module _ (k : ℕ) (inside : k < u.grades - 1) where
      abbrev row : List ℕ
      row = get_or u.rows k []

      row_form : get_or u.rows k [] ≡ padded (take u.grades (get_or u.rows k []))
      row_form =
          let used : k < length (take (u.grades - 1) u.rows) = omega (arith, used_long) in
          let front : k < length (map (λ r. padded (take u.grades r)) (take (u.grades - 1) u.rows)) = omega (arith, used_long, length-map (take (u.grades - 1) u.rows) (λ r. padded (take u.grades r))) in
          ap (λ l. get_or l k []) zeros ∙ get_or_append_left (map (λ r. padded (take u.grades r)) (take (u.grades - 1) u.rows)) (drop (u.grades - 1) blank_rows) [] k front ∙ get_or-map (λ r. padded (take u.grades r)) (take (u.grades - 1) u.rows) k [] [] used ∙ ap (λ r. padded (take u.grades r)) (get_or-take (u.grades - 1) u.rows k [] inside)

      row_law : RowLaw (get_or u.rows k []) (k + 1) u.grades
      row_law =
          let back : (k + 1) - 1 ≡ k = omega arith in
          let works : k + 1 < u.grades = omega arith in
          subst (λ j. RowLaw (get_or u.rows j []) (k + 1) u.grades) back (law.0.2 (k + 1) (omega arith, works), (λ h low high. law.1 (k + 1) h ((omega arith, works), low, high)))

      some : 0 < u.grades
      some = omega (arith, law.0.0)

      next_row : with_row k (padded (take u.grades (get_or u.rows k []))) (part k) ≡ part (k + 1)
      next_row = ap (λ rs. record { grades = u.grades; rows = rs; planned = 0; forced = 0; dark = 0 }) (laid_next u.rows k u.grades (omega (arith, law.0.1)) (omega (arith, rows_long, law.0.1)))

      row_goes : (s : Stage) → behind_row (k + 1) u.grades ≡ s → complete s ≡ false → Comes (st t su i RowDue n (part k) other k) (row_lines u.grades (drop k (take (u.grades - 1) u.rows)) ++ more) → Comes (st t su i s n (part (k + 1)) other (k + 1)) (row_lines u.grades (drop (k + 1) (take (u.grades - 1) u.rows)) ++ more)
      row_goes s q c h =
          let used : k < length (take (u.grades - 1) u.rows) = omega (arith, used_long) in
          let value : List ℕ = joined (map decimal (take u.grades (get_or u.rows k []))) in
          let after : List ℕ = row_lines u.grades (drop (k + 1) (take (u.grades - 1) u.rows)) in
          let text : row_lines u.grades (drop k (take (u.grades - 1) u.rows)) ++ more ≡ line_of Row value ++ (after ++ more) = ap (λ l. l ++ more) (at_drop_more (row_lines u.grades) (take (u.grades - 1) u.rows) k [] used ∙ ap (λ r. list_line Row (take u.grades r) ++ after) (get_or-take (u.grades - 1) u.rows k [] inside)) ∙ append_assoc (line_of Row value) after more in
          let step = row_step t su i n (part k) other k (padded (take u.grades (get_or u.rows k []))) value s (row_back (get_or u.rows k []) u.grades k some law.0.1 row_law row_form) q c in
          subst
          (λ v. Comes (st t su i s n v other (k + 1)) (after ++ more))
          next_row
          (comes_line (st t su i RowDue n (part k) other k) (st t su i s n (with_row k (padded (take u.grades (get_or u.rows k []))) (part k)) other (k + 1)) Row value (after ++ more) refl (row_printable (get_or u.rows k []) u.grades k some law.0.1 row_law row_form) (row_short (get_or u.rows k []) u.grades k some law.0.1 row_law row_form) step (subst (Comes (st t su i RowDue n (part k) other k)) text h))

    -- all rows from here on
    rows_go : (j k : ℕ) → k + suc j ≡ u.grades - 1 → Comes (st t su i RowDue n (part k) other k) (row_lines u.grades (drop k (take (u.grades - 1) u.rows)) ++ more) → Comes (st t su i PlannedDue n (part (u.grades - 1)) other (u.grades - 1)) more
    rows_go zero k e h =
        let last : k + 1 ≡ u.grades - 1 = omega arith in
        let all : (k + 1) + 1 ≡ u.grades = omega arith in
        let none : row_lines u.grades (drop (k + 1) (take (u.grades - 1) u.rows)) ≡ [] = at_drop_all (row_lines u.grades) (take (u.grades - 1) u.rows) (k + 1) (omega (arith, used_long)) in
        let c = row_goes k (omega arith) PlannedDue (cond-true _ _ _ (eq-eqb (k + 1 + 1) u.grades all)) refl h in
        subst (λ m. Comes (st t su i PlannedDue n (part m) other m) more) last (subst (λ l. Comes (st t su i PlannedDue n (part (k + 1)) other (k + 1)) (l ++ more)) none c)
    rows_go (suc j) k e h =
        let inside : k < u.grades - 1 = omega arith in
        let goes-on-with : (k + 1) + suc j ≡ u.grades - 1 = omega arith in
        rows_go j (k + 1) goes-on-with (row_goes k inside RowDue (cond-false _ _ _ (ne_eqb (k + 1 + 1) u.grades (λ q. omega arith))) refl h)

  -- all lines of a unit
  unit_goes : (t su i : ℕ) (n : UnitName) (u other : UnitNumbers) (k : ℕ) (more : List ℕ) → LawfulUnit u → ZeroBeyond u → Comes (st t su i UnitDue n blank_unit other k) (unit_text n u ++ more) → Comes (behind_unit n (st t su i DarkDue n u other (u.grades - 1))) more
  unit_goes t su i n u other k more law zeros h =
      let part-all : UnitNumbers = part t su i n u other law zeros more (u.grades - 1) in
      let rows : List ℕ = row_lines u.grades (take (u.grades - 1) u.rows) in
      let dark-text : List ℕ = number_line Dark u.dark ++ more in
      let forced-text : List ℕ = number_line Forced u.forced ++ dark-text in
      let planned-text : List ℕ = number_line Planned u.planned ++ forced-text in
      let last : ℕ = u.grades - 1 in
      let text : unit_text n u ++ more ≡ number_line UnitKey (unit_number n) ++ (number_line Grades u.grades ++ (rows ++ planned-text)) = regroup (number_line UnitKey (unit_number n)) (number_line Grades u.grades) rows (number_line Planned u.planned) (number_line Forced u.forced) (number_line Dark u.dark) more in
      let c1 = comes_number (st t su i UnitDue n blank_unit other k) (st t su i GradesDue n blank_unit other k) UnitKey (unit_number n) (number_line Grades u.grades ++ (rows ++ planned-text)) refl (unit_small n) (unit_step t su i n blank_unit other k) (subst (Comes (st t su i UnitDue n blank_unit other k)) text h) in
      let c2 = comes_number (st t su i GradesDue n blank_unit other k) (st t su i RowDue n (with_grades u.grades blank_unit) other 0) Grades u.grades (rows ++ planned-text) refl (omega (arith, law.0.1)) (grades_step t su i n blank_unit other k u.grades law.0.0 law.0.1) c1 in
      let c3 = rows_go t su i n u other law zeros planned-text (u.grades - 2) 0 (omega (arith, law.0.0)) c2 in
      let c4 = comes_number (st t su i PlannedDue n part-all other last) (st t su i ForcedDue n (with_planned u.planned part-all) other last) Planned u.planned forced-text refl (omega (arith, law.2.0)) (planned_step t su i n part-all other last u.planned law.2.0) c3 in
      let c5 = comes_number (st t su i ForcedDue n (with_planned u.planned part-all) other last) (st t su i DarkDue n (with_forced u.forced (with_planned u.planned part-all)) other last) Forced u.forced dark-text refl (omega (arith, law.2.1)) (forced_step t su i n (with_planned u.planned part-all) other last u.forced law.2.1) c4 in
      let c6 = comes_number (st t su i DarkDue n (with_forced u.forced (with_planned u.planned part-all)) other last) (behind_unit n (st t su i DarkDue n (with_dark u.dark (with_forced u.forced (with_planned u.planned part-all))) other last)) Dark u.dark more refl (omega (arith, law.2.2)) (dark_step t su i n (with_forced u.forced (with_planned u.planned part-all)) other last u.dark law.2.2) c5 in
      let is : with_dark u.dark (with_forced u.forced (with_planned u.planned part-all)) ≡ u = ap (λ rs. record { grades = u.grades; rows = rs; planned = u.planned; forced = u.forced; dark = u.dark }) (sym zeros) in
      subst (λ v. Comes (behind_unit n (st t su i DarkDue n v other last)) more) is c6
    where
      regroup : (a b c d e f m : List ℕ) → (a ++ (b ++ (c ++ (d ++ (e ++ f))))) ++ m ≡ a ++ (b ++ (c ++ (d ++ (e ++ (f ++ m)))))
      regroup a b c d e f m = simp append_assoc

      unit_small : (n : UnitName) → unit_number n < 2 ^ 64
      unit_small One = omega arith
      unit_small Two = omega arith

  -- the last line
  end_goes : (n : PairNumbers) (k : ℕ) (after : List ℕ) → renewable n ≡ true → Comes (st n.threshold n.setup n.inspect EndDue Two n.two n.one k) (line_of End (codes "plant") ++ after) → (g.answer ≡ Ok n) × (g.rest ≡ after)
  end_goes n k after r (place, h) =
      let named : (End ≡ NoKey → ⊥) = some_name End refl in
      let bytes : AllByRecursion Printable (codes "plant") = (plain_bytes (codes "plant") refl).1 in
      let short : length (codes "plant") ≤ widest_value = leb-true (length (codes "plant")) widest_value refl in
      let is = goes_closed (st n.threshold n.setup n.inspect EndDue Two n.two n.one k) (line_of End (codes "plant") ++ after) place g (pair (name_of End) (codes "plant")) (sym (written_line End named (codes "plant") after bytes short)) (st n.threshold n.setup n.inspect Complete Two n.two n.one k) refl refl h in
      (ap (λ (z : Reading). z.answer) is ∙ cond-true _ _ _ r, ap (λ (z : Reading). z.rest) is ∙ written_rest End named (codes "plant") after bytes short)

  -- the whole text
  pair_goes : (n : PairNumbers) (after : List ℕ) → LawfulNumbers n → renewable n ≡ true → ZeroBeyond n.one → ZeroBeyond n.two → Comes fresh (pair_text n ++ after) → (g.answer ≡ Ok n) × (g.rest ≡ after)
  pair_goes n after law r one two h =
      let end-text : List ℕ = line_of End (codes "plant") ++ after in
      let two-text : List ℕ = unit_text Two n.two ++ end-text in
      let one-text : List ℕ = unit_text One n.one ++ two-text in
      let inspect-text : List ℕ = number_line Inspect n.inspect ++ one-text in
      let setup-text : List ℕ = number_line Setup n.setup ++ inspect-text in
      let terms-text : List ℕ = number_line Threshold n.threshold ++ setup-text in
      let text : pair_text n ++ after ≡ line_of Kind (codes "pair") ++ terms-text = regroup (line_of Kind (codes "pair")) (number_line Threshold n.threshold) (number_line Setup n.setup) (number_line Inspect n.inspect) (unit_text One n.one) (unit_text Two n.two) (line_of End (codes "plant")) after in
      let r1 : PairReader = at_stage ThresholdDue fresh in
      let r2 : PairReader = at_stage SetupDue (with_threshold n.threshold r1) in
      let r3 : PairReader = at_stage InspectDue (with_setup n.setup r2) in
      let r4 : PairReader = at_stage UnitDue (with_inspect n.inspect r3) in
      let c1 = comes_line fresh r1 Kind (codes "pair") terms-text refl (plain_bytes (codes "pair") refl).1 (leb-true (length (codes "pair")) widest_value refl) (refl, refl) (subst (Comes fresh) text h) in
      let c2 = comes_number r1 r2 Threshold n.threshold setup-text refl (omega (arith, law.0.0)) (on_some (number_between (decimal n.threshold) 0 most_threshold) (λ m. at_stage SetupDue (with_threshold m r1)) n.threshold (reads n.threshold 0 most_threshold (omega arith) (omega arith) law.0.0), refl) c1 in
      let c3 = comes_number r2 r3 Setup n.setup inspect-text refl (omega (arith, law.0.1)) (on_some (number_between (decimal n.setup) 0 most_charge) (λ m. at_stage InspectDue (with_setup m r2)) n.setup (reads n.setup 0 most_charge (omega arith) (omega arith) law.0.1), refl) c2 in
      let c4 = comes_number r3 r4 Inspect n.inspect one-text refl (omega (arith, law.0.2)) (on_some (number_between (decimal n.inspect) 0 most_charge) (λ m. at_stage UnitDue (with_inspect m r3)) n.inspect (reads n.inspect 0 most_charge (omega arith) (omega arith) law.0.2), refl) c3 in
      let c5 = unit_goes n.threshold n.setup n.inspect One n.one blank_unit 0 two-text law.1 one c4 in
      let c6 = unit_goes n.threshold n.setup n.inspect Two n.two n.one (n.one.grades - 1) end-text law.2 two c5 in
      end_goes n (n.two.grades - 1) after r c6
    where
      regroup : (a b c d e f g m : List ℕ) → (a ++ (b ++ (c ++ (d ++ (e ++ (f ++ g)))))) ++ m ≡ a ++ (b ++ (c ++ (d ++ (e ++ (f ++ (g ++ m))))))
      regroup a b c d e f g m = simp append_assoc

pub begins_accepted : (text : List ℕ) (place : ℕ) (n : PairNumbers) (after : List ℕ) → BeginsPair text n after → ((read_pair text place).answer ≡ Ok n) × ((read_pair text place).rest ≡ after)
begins_accepted text place n after b =
    let room : length text < suc (length text) = omega arith in
    pair_goes (read_pair text place) n after b.lawful (renewable_first n b.lawful b.renewable) b.one b.two (subst (Comes (read_pair text place) fresh) b.whole (place, (suc (length text), (room, refl))))
