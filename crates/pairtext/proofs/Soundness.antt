-- A step keeps a reader sound.
use Rattle.std.proofs.Common.{◌≡◌, ℕ, zero, suc, ◌+◌, ◌-◌, ◌^◌, ◌<◌, ◌≤◌, Bool, true, false, cond, eqb, ◌≢◌, List, [], length, get_or, take, set, Some, None, Ok, Err, Option, sym, refl, ap, ◌∙◌, subst, ⊎_elim, arith}
use Rattle.std.specs.Str.{bytes_eq}
use Rattle.std.proofs.lemmas.List.{length-set, get_or-set_same, get_or-set_other}
use Rattle.std.proofs.lemmas.Bool.{cases_eq, eqb-true, eqb-false}
use Rattle.lines.specs.Line.{Said, pair, fault}
use Rattle.reading.specs.Keys.{key_of}
use Rattle.reading.specs.Values.{number_between}
use Rattle.reading.specs.declared.keys.Key.{Key}
use Rattle.reading.specs.declared.rules.Rule.TheVariants.{Unexpected}
use Rattle.reading.proofs.ValueLaws.{between_law}
use Rattle.pair.specs.Limits.{least_grades, most_grades, most_threshold, most_charge, most_dark}
use Rattle.pair.specs.Pairs.{LawfulNumbers}
use Rattle.pair.specs.Units.{LawfulRow, LawfulUnit, LawfulCharges}
use Rattle.pair.specs.declared.numbers.UnitNumbers.{UnitNumbers}
use Rattle.pairtext.specs.declared.reader.PairReader.{PairReader}
use Rattle.pairtext.specs.declared.stage.Stage.{Stage}
use Rattle.pairtext.specs.declared.stage.Stage.TheVariants.{KindDue, ThresholdDue, SetupDue, InspectDue, UnitDue, GradesDue, RowDue, PlannedDue, ForcedDue, DarkDue, EndDue, Complete}
use Rattle.pairtext.specs.declared.stage.UnitName.{UnitName}
use Rattle.pairtext.specs.declared.stage.UnitName.TheVariants.{One, Two}
use Rattle.pairtext.specs.Readers.{unit_index, no_unit, opened_unit, fresh, with_grades, with_row, with_planned, with_forced, with_dark, at_stage, with_threshold, with_setup, with_inspect, with_unit, at_row}
use Rattle.pairtext.specs.Rows.{padded, row_of}
use Rattle.pairtext.specs.Sound.{Graded, WhollyGraded, Kept, Other, Here, Sound}
use Rattle.pairtext.specs.Texts.{numbers_read}
use Rattle.pairtext.specs.Steps.{Step, on, on_word, behind_unit, take_at, pair_step, line_step, is_due}
use Rattle.pairtext.proofs.RowLaws.{RowLaw, read_row_law, read_row_form, laid_more}

-- a step that was made
pub on_made : {X : Type 0} (o : Option X) (f : X → PairReader) (next : PairReader) → on o f ≡ Ok next → (x : X) × ((o ≡ Some x) × (f x ≡ next))
on_made None f next e = absurd (cc)
on_made (Some x) f next e = (x, (refl, cc))

pub word_made : (value word : List ℕ) (r next : PairReader) → on_word value word r ≡ Ok next → (bytes_eq value word ≡ true) × (r ≡ next)
word_made value word r next e = tested (bytes_eq value word) refl e
  where
    tested : (t : Bool) → bytes_eq value word ≡ t → cond t (Ok r) (Err Unexpected) ≡ Ok next → (bytes_eq value word ≡ true) × (r ≡ next)
    tested true q e = (q, cc)
    tested false q e = absurd (cc)

-- the table of both units with one of them put in
pub index_within : (n : UnitName) → unit_index n < 2
index_within One = omega arith
index_within Two = omega arith

module _ (us : List UnitNumbers) (both : length us ≡ 2) (n : UnitName) (u : UnitNumbers) where
  pub put_here : get_or (set us (unit_index n) u) (unit_index n) no_unit ≡ u
  put_here = get_or-set_same us (unit_index n) u no_unit (omega (arith, index_within n))

  pub put_both : length (set us (unit_index n) u) ≡ 2
  put_both = length-set us (unit_index n) u ∙ both

  put_kept : Kept u → ((i : ℕ) → i < 2 → Kept (get_or us i no_unit)) → (i : ℕ) → i < 2 → Kept (get_or (set us (unit_index n) u) i no_unit)
  put_kept k h i l =
      ⊎_elim
      (λ (e : i ≡ unit_index n). subst (λ j. Kept (get_or (set us (unit_index n) u) j no_unit)) (sym e) (subst Kept (sym put_here) k))
      (λ (e : i ≡ unit_index n → ⊥). subst Kept (sym (get_or-set_other us (unit_index n) i u no_unit e)) (h i l))
      (cases_eq i (unit_index n))

-- the other unit stays as it was
put_other : (us : List UnitNumbers) (n : UnitName) (u : UnitNumbers) (r q : PairReader) → r.units ≡ us → q.units ≡ set us (unit_index n) u → Other n r → Other n q
put_other us One u r q e f h = ap (λ l. (get_or l 1 no_unit).rows) f ∙ ap (λ (v : UnitNumbers). v.rows) (get_or-set_other us 0 1 u no_unit (λ z. omega arith)) ∙ sym (ap (λ l. (get_or l 1 no_unit).rows) e) ∙ h
put_other us Two u r q e f h =
    subst WhollyGraded (ap (λ l. get_or l 0 no_unit) e ∙ sym (get_or-set_other us 1 0 u no_unit (λ z. omega arith)) ∙ sym (ap (λ l. get_or l 0 no_unit) f)) h

-- a sound reader with a unit put in, at a stage where that unit is so far read
put_sound : (r : PairReader) (s : Stage) (k : ℕ) (u : UnitNumbers) → Sound r → Kept u → Here s (at_stage s (at_row k (with_unit u r))) → Sound (at_stage s (at_row k (with_unit u r)))
put_sound r s k u h kept here = record {
  threshold = h.threshold;
  setup = h.setup;
  inspect = h.inspect;
  both = put_both r.units h.both r.opened u;
  kept = put_kept r.units h.both r.opened u kept h.kept;
  other = put_other r.units r.opened u r (at_stage s (at_row k (with_unit u r))) refl refl h.other;
  here = here;
}

other_same : (n : UnitName) (r q : PairReader) → q.units ≡ r.units → Other n r → Other n q
other_same One r q e h = ap (λ us. (get_or us 1 no_unit).rows) e ∙ h
other_same Two r q e h = subst (λ us. WhollyGraded (get_or us 0 no_unit)) (sym e) h

-- the same units, at another stage or with another number
same_sound : (r q : PairReader) → Sound r → q.threshold ≤ most_threshold → q.setup ≤ most_charge → q.inspect ≤ most_charge → q.units ≡ r.units → q.opened ≡ r.opened → Here q.stage q → Sound q
same_sound r q h threshold setup inspect us opened here = record {
  threshold = threshold;
  setup = setup;
  inspect = inspect;
  both = ap length us ∙ h.both;
  kept = λ i l. subst (λ l. Kept (get_or l i no_unit)) (sym us) (h.kept i l);
  other = subst (λ n. Other n q) (sym opened) (other_same r.opened r q us h.other);
  here = here;
}

-- one row more
module _ (u : UnitNumbers) (row : ℕ) (hs : List ℕ) (long : length u.rows ≡ most_grades) (room : row < most_grades) where
  row_here : get_or (set u.rows row hs) ((row + 1) - 1) [] ≡ hs
  row_here =
      let back : (row + 1) - 1 ≡ row = omega arith in
      ap (λ k. get_or (set u.rows row hs) k []) back ∙ get_or-set_same u.rows row hs [] (omega (arith, long))

  pub more_graded : Graded row u → RowLaw hs (row + 1) u.grades → hs ≡ padded (take u.grades hs) → Graded (row + 1) (with_row row hs u)
  more_graded h law form = (
    h.0,
    h.1,
    (λ g low high. ⊎_elim
        (λ (e : g ≡ row + 1). subst (LawfulRow (with_row row hs u)) (sym e) (subst (λ l. RowLaw l (row + 1) u.grades) (sym row_here) law))
        (λ (e : g ≡ row + 1 → ⊥).
        let other : g - 1 ≢ row = (λ q. e (omega arith)) in
        subst (λ l. RowLaw l g u.grades) (sym (get_or-set_other u.rows row (g - 1) hs [] other)) (h.2 g low (omega arith)))
        (cases_eq g (row + 1))),
    laid_more u.rows row u.grades hs room long h.3 form,
  )

module _ (r : PairReader) (h : Sound r) (value : List ℕ) (next : PairReader) where
  u_kept : Kept (opened_unit r)
  u_kept = h.kept (unit_index r.opened) (index_within r.opened)

  -- what is said of the unit that was put in
  put : (P : UnitNumbers → Type 0) (v : UnitNumbers) → P v → P (opened_unit (with_unit v r))
  put P v p = subst P (sym (put_here r.units h.both r.opened v)) p

  pub bounds : (least most n : ℕ) → most < 2 ^ 64 → number_between value least most ≡ Some n → (least ≤ n) × (n ≤ most)
  bounds least most n small e = let b = (between_law value least most small n).0 e in (b.1, b.2)

  behind_row_sound : (hs : List ℕ) (t : Bool) → Graded r.row (opened_unit r) × (r.row + 1 < (opened_unit r).grades) → row_of value (opened_unit r).grades r.row ≡ Some hs → eqb (r.row + 1 + 1) (opened_unit r).grades ≡ t → Sound (at_stage (cond t PlannedDue RowDue) (at_row (r.row + 1) (with_unit (with_row r.row hs (opened_unit r)) r)))
  behind_row_sound hs t now e q =
      let more : Graded (r.row + 1) (with_row r.row hs (opened_unit r)) = more_graded (opened_unit r) r.row hs u_kept.0 (omega (arith, now.0.1, now.1)) now.0 (read_row_law value (opened_unit r).grades r.row hs e) (read_row_form value (opened_unit r).grades r.row hs e) in
      put_sound r (cond t PlannedDue RowDue) (r.row + 1) (with_row r.row hs (opened_unit r)) h (length-set (opened_unit r).rows r.row hs ∙ u_kept.0, u_kept.1) (by t q more)
    where
      by : (t : Bool) → eqb (r.row + 1 + 1) (opened_unit r).grades ≡ t → Graded (r.row + 1) (with_row r.row hs (opened_unit r)) → Here (cond t PlannedDue RowDue) (at_stage (cond t PlannedDue RowDue) (at_row (r.row + 1) (with_unit (with_row r.row hs (opened_unit r)) r)))
      by true q more =
          let last : r.row + 1 ≡ (opened_unit r).grades - 1 = omega (arith, eqb-true _ _ q) in
          put WhollyGraded (with_row r.row hs (opened_unit r)) (subst (λ k. Graded k (with_row r.row hs (opened_unit r))) last more)
      by false q more =
          let less : r.row + 1 + 1 < (opened_unit r).grades = omega (arith, now.1, eqb-false _ _ q) in
          put (λ v. Graded (r.row + 1) v × (r.row + 1 + 1 < v.grades)) (with_row r.row hs (opened_unit r)) (more, less)

  behind_unit_sound : (n : UnitName) (dark : ℕ) → r.opened ≡ n → WhollyGraded (opened_unit r) → dark ≤ most_dark → Sound (behind_unit n (with_unit (with_dark dark (opened_unit r)) r))
  behind_unit_sound One dark e now low = record {
    threshold = h.threshold;
    setup = h.setup;
    inspect = h.inspect;
    both = put_both r.units h.both r.opened (with_dark dark (opened_unit r));
    kept = put_kept r.units h.both r.opened (with_dark dark (opened_unit r)) (u_kept.0, (u_kept.1.0, u_kept.1.1, low)) h.kept;
    other = subst (λ i. WhollyGraded (get_or (set r.units (unit_index r.opened) (with_dark dark (opened_unit r))) i no_unit)) (ap unit_index e) (put WhollyGraded (with_dark dark (opened_unit r)) now);
    here = put_other r.units One (with_dark dark (opened_unit r)) r (with_unit (with_dark dark (opened_unit r)) r) refl (ap (λ n. set r.units (unit_index n) (with_dark dark (opened_unit r))) e) (subst (λ n. Other n r) e h.other);
  }
  behind_unit_sound Two dark e now low =
      put_sound r EndDue r.row (with_dark dark (opened_unit r)) h (u_kept.0, (u_kept.1.0, u_kept.1.1, low)) (put WhollyGraded (with_dark dark (opened_unit r)) now, e)

  pub sound_at : (s : Stage) → Here s r → take_at s r value ≡ Ok next → Sound next
  sound_at KindDue now e =
      let m = word_made value _ (at_stage ThresholdDue r) next e in
      subst Sound m.1 (same_sound r (at_stage ThresholdDue r) h h.threshold h.setup h.inspect refl refl now)
  sound_at ThresholdDue now e =
      let m = on_made (number_between value 0 most_threshold) _ next e in
      let b = bounds 0 most_threshold m.0 (omega arith) m.1.0 in
      subst Sound m.1.1 (same_sound r (at_stage SetupDue (with_threshold m.0 r)) h b.1 h.setup h.inspect refl refl now)
  sound_at SetupDue now e =
      let m = on_made (number_between value 0 most_charge) _ next e in
      let b = bounds 0 most_charge m.0 (omega arith) m.1.0 in
      subst Sound m.1.1 (same_sound r (at_stage InspectDue (with_setup m.0 r)) h h.threshold b.1 h.inspect refl refl now)
  sound_at InspectDue now e =
      let m = on_made (number_between value 0 most_charge) _ next e in
      let b = bounds 0 most_charge m.0 (omega arith) m.1.0 in
      subst Sound m.1.1 (same_sound r (at_stage UnitDue (with_inspect m.0 r)) h h.threshold h.setup b.1 refl refl now.0)
  sound_at UnitDue now e =
      let m = on_made _ _ next e in
      subst Sound m.1.1 (same_sound r (at_stage GradesDue r) h h.threshold h.setup h.inspect refl refl now)
  sound_at GradesDue now e =
      let m = on_made (number_between value least_grades most_grades) _ next e in
      let b = bounds least_grades most_grades m.0 (omega arith) m.1.0 in
      let some : 0 + 1 < m.0 = omega (arith, b.0) in
      subst Sound m.1.1 (put_sound r RowDue 0 (with_grades m.0 (opened_unit r)) h u_kept (put (λ v. Graded 0 v × (0 + 1 < v.grades)) (with_grades m.0 (opened_unit r)) ((b.0, b.1, (λ g low high. absurd (omega arith)), now), some)))
  sound_at RowDue now e =
      let m = on_made (row_of value (opened_unit r).grades r.row) _ next e in
      subst Sound m.1.1 (behind_row_sound m.0 (eqb (r.row + 1 + 1) (opened_unit r).grades) now m.1.0 refl)
  sound_at PlannedDue now e =
      let m = on_made (number_between value 0 most_charge) _ next e in
      let b = bounds 0 most_charge m.0 (omega arith) m.1.0 in
      subst Sound m.1.1 (put_sound r ForcedDue r.row (with_planned m.0 (opened_unit r)) h (u_kept.0, (b.1, u_kept.1.1, u_kept.1.2)) (put WhollyGraded (with_planned m.0 (opened_unit r)) now))
  sound_at ForcedDue now e =
      let m = on_made (number_between value 0 most_charge) _ next e in
      let b = bounds 0 most_charge m.0 (omega arith) m.1.0 in
      subst Sound m.1.1 (put_sound r DarkDue r.row (with_forced m.0 (opened_unit r)) h (u_kept.0, (u_kept.1.0, b.1, u_kept.1.2)) (put WhollyGraded (with_forced m.0 (opened_unit r)) now))
  sound_at DarkDue now e =
      let m = on_made (number_between value 0 most_dark) _ next e in
      let b = bounds 0 most_dark m.0 (omega arith) m.1.0 in
      subst Sound m.1.1 (behind_unit_sound r.opened m.0 refl now b.1)
  sound_at EndDue now e =
      let m = word_made value _ (at_stage Complete r) next e in
      subst Sound m.1 (same_sound r (at_stage Complete r) h h.threshold h.setup h.inspect refl refl now)
  sound_at Complete now e = absurd (cc)

-- a step that was made: its key was due
pub due_made : (t : Bool) (taken : Step) (next : PairReader) → cond t taken (Err Unexpected) ≡ Ok next → (t ≡ true) × (taken ≡ Ok next)
due_made true taken next e = (refl, e)
due_made false taken next e = absurd (cc)

pub step_sound : (r next : PairReader) (key : Key) (value : List ℕ) → Sound r → pair_step r key value ≡ Ok next → Sound next
step_sound r next key value h e = sound_at r h value next r.stage h.here (due_made (is_due r.stage key) (take_at r.stage r value) next e).1

-- the same by what a line says
pub line_sound : (r next : PairReader) (s : Said) → Sound r → line_step r s ≡ Ok next → Sound next
line_sound r next (pair k v) h e = step_sound r next (key_of k) v h e
line_sound r next (fault n) h e = absurd (cc)

-- nothing was read, so nothing is out of range
pub fresh_sound : Sound fresh
fresh_sound = record {
  threshold = omega arith;
  setup = omega arith;
  inspect = omega arith;
  both = refl;
  kept = each;
  other = refl;
  here = (refl, refl);
}
  where
    each : (i : ℕ) → i < 2 → Kept (get_or fresh.units i no_unit)
    each zero l = (refl, (omega arith, omega arith, omega arith))
    each (suc zero) l = (refl, (omega arith, omega arith, omega arith))
    each (suc (suc i)) l = absurd (omega arith)

-- a unit that was read is lawful
unit_lawful : (u : UnitNumbers) → WhollyGraded u → LawfulCharges u → LawfulUnit u
unit_lawful u h charges = ((h.0, h.1, (λ g w. (h.2 g w.0 (omega (arith, w.1))).0)), (λ g k w. (h.2 g w.0.0 (omega (arith, w.0.1))).1 k w.1 w.2), charges)

pub complete_lawful : (r : PairReader) → Sound r → r.stage ≡ Complete → LawfulNumbers (numbers_read r)
complete_lawful r h e =
    let now : Here Complete r = subst (λ s. Here s r) e h.here in
    let one : WhollyGraded (get_or r.units 0 no_unit) = subst (λ n. Other n r) now.1 h.other in
    let two : WhollyGraded (get_or r.units 1 no_unit) = subst (λ n. WhollyGraded (get_or r.units (unit_index n) no_unit)) now.1 now.0 in
    ((h.threshold, h.setup, h.inspect), unit_lawful _ one (h.kept 0 (omega arith)).1, unit_lawful _ two (h.kept 1 (omega arith)).1)
