-- A text that is accepted begins with the text of the pair that was read.
use Rattle.std.proofs.Common.{◌≡◌, ℕ, zero, suc, ◌+◌, Bool, true, false, cond, List, ◌++◌, length, get_or, Ok, Err, sym, refl, ap, ◌∙◌, subst, arith}
use Rattle.std.proofs.lemmas.List.{append_assoc}
use Rattle.lines.specs.Line.{Said, pair, fault, line_at, rest_at}
use Rattle.reading.specs.Keys.{name_of, key_of}
use Rattle.reading.specs.Written.{line_of}
use Rattle.reading.specs.declared.keys.Key.TheVariants.{Other as NoKey}
use Rattle.reading.specs.declared.rules.Rule.TheVariants.{NoFullRenewal}
use Rattle.reading.proofs.KeyLaws.{key_law, same_key}
use Rattle.reading.proofs.WrittenLaws.{read_line}
use Rattle.pair.specs.declared.numbers.PairNumbers.{PairNumbers}
use Rattle.pairtext.specs.declared.reader.PairReader.{PairReader}
use Rattle.pairtext.specs.declared.stage.Stage.{Stage}
use Rattle.pairtext.specs.declared.stage.Stage.TheVariants.{KindDue, ThresholdDue, SetupDue, InspectDue, UnitDue, GradesDue, RowDue, PlannedDue, ForcedDue, DarkDue, EndDue, Complete}
use Rattle.pairtext.specs.Readers.{unit_index, no_unit, fresh}
use Rattle.pairtext.specs.Sound.{WhollyGraded, Other, Here, Sound}
use Rattle.pairtext.specs.Steps.{Step, due, is_due, take_at, pair_step}
use Rattle.pairtext.specs.Texts.{Reading, complete, numbers_read, renewable, judged, on_step, on_line, read_from, read_pair, refused_at}
use Rattle.pairtext.specs.Writing.{pair_text, ZeroBeyond}
use Rattle.pairtext.proofs.Soundness.{due_made, step_sound, fresh_sound}
use Rattle.pairtext.proofs.TextLaws.{complete_is}
use Rattle.pairtext.proofs.Written.{text_at, whole_text, made_text}

-- the lines behind a reader and the text before it are those of a pair, and the rest
pub record Wrote (r : PairReader) (text rest : List ℕ) (n : PairNumbers) : Type 0 where
  pub whole : text_at r.stage r ++ text ≡ pair_text n ++ rest
  pub one : ZeroBeyond n.one
  pub two : ZeroBeyond n.two

-- a key that was due has a name
due_named : (s : Stage) (r next : PairReader) (v : List ℕ) → take_at s r v ≡ Ok next → due s ≡ NoKey → ⊥
due_named KindDue r next v e q = let z : ◌≡◌ {A = ℕ} 0 1 = cc in omega arith
due_named ThresholdDue r next v e q = let z : ◌≡◌ {A = ℕ} 0 1 = cc in omega arith
due_named SetupDue r next v e q = let z : ◌≡◌ {A = ℕ} 0 1 = cc in omega arith
due_named InspectDue r next v e q = let z : ◌≡◌ {A = ℕ} 0 1 = cc in omega arith
due_named UnitDue r next v e q = let z : ◌≡◌ {A = ℕ} 0 1 = cc in omega arith
due_named GradesDue r next v e q = let z : ◌≡◌ {A = ℕ} 0 1 = cc in omega arith
due_named RowDue r next v e q = let z : ◌≡◌ {A = ℕ} 0 1 = cc in omega arith
due_named PlannedDue r next v e q = let z : ◌≡◌ {A = ℕ} 0 1 = cc in omega arith
due_named ForcedDue r next v e q = let z : ◌≡◌ {A = ℕ} 0 1 = cc in omega arith
due_named DarkDue r next v e q = let z : ◌≡◌ {A = ℕ} 0 1 = cc in omega arith
due_named EndDue r next v e q = let z : ◌≡◌ {A = ℕ} 0 1 = cc in omega arith
due_named Complete r next v e q = let z : ◌≡◌ {A = ℕ} 0 1 = cc in omega arith

-- a line that is made is behind the reader then
module _ (r next : PairReader) (h : Sound r) (text k v : List ℕ) (line : line_at text ≡ pair k v) (made : pair_step r (key_of k) v ≡ Ok next) where
  name_due : k ≡ name_of (due r.stage)
  name_due =
      let m = due_made (is_due r.stage (key_of k)) (take_at r.stage r v) next made in
      (key_law k (key_of k) refl (due r.stage) (due_named r.stage r next v m.1)).0 (same_key (key_of k) (due r.stage) m.0)

  line_behind : text_at next.stage next ++ rest_at text ≡ text_at r.stage r ++ text
  line_behind =
      let m = due_made (is_due r.stage (key_of k)) (take_at r.stage r v) next made in
      ap (λ t. t ++ rest_at text) (made_text r h v r.stage next h.here m.1) ∙ append_assoc (text_at r.stage r) (line_of (due r.stage) v) (rest_at text) ∙ ap (λ t. text_at r.stage r ++ t) (sym (read_line text k v (due r.stage) line name_due))

-- what was judged well
judged_ok : (m n : PairNumbers) (line : ℕ) (t : Bool) → cond t (Ok m) (refused_at NoFullRenewal line) ≡ Ok n → (t ≡ true) × (m ≡ n)
judged_ok m n line true e = (refl, cc)
judged_ok m n line false e = absurd (cc)

-- what comes of the text from here on, where it is accepted
abbrev Goal : PairReader → List ℕ → PairNumbers → Reading → Type 0
Goal r text n g = g.answer ≡ Ok n → Wrote r text g.rest n

module _ (n : PairNumbers) (further : PairReader → List ℕ → ℕ → Reading) (ih : (q : PairReader) (t : List ℕ) (p : ℕ) → Sound q → Goal q t n (further q t p)) (r : PairReader) (h : Sound r) (text : List ℕ) (place : ℕ) where
  module _ (k v : List ℕ) (line : line_at text ≡ pair k v) (next : PairReader) (made : pair_step r (key_of k) v ≡ Ok next) where
    behind_next : text_at next.stage next ++ rest_at text ≡ text_at r.stage r ++ text
    behind_next = line_behind r next h text k v line made

    sound_next : Sound next
    sound_next = step_sound r next (key_of k) v h made

    closed : complete next.stage ≡ true → judged (numbers_read next) (place + 1) ≡ Ok n → Wrote r text (rest_at text) n
    closed c e =
        let q = judged_ok (numbers_read next) n (place + 1) (renewable (numbers_read next)) e in
        let last : next.stage ≡ Complete = complete_is next.stage c in
        let now : Here Complete next = subst (λ s. Here s next) last sound_next.here in
        let one : WhollyGraded (get_or next.units 0 no_unit) = subst (λ m. Other m next) now.1 sound_next.other in
        let two : WhollyGraded (get_or next.units 1 no_unit) = subst (λ m. WhollyGraded (get_or next.units (unit_index m) no_unit)) now.1 now.0 in
        record {
          whole = sym behind_next ∙ ap (λ s. text_at s next ++ rest_at text) last ∙ ap (λ t. t ++ rest_at text) (whole_text next) ∙ ap (λ m. pair_text m ++ rest_at text) q.1;
          one = subst (λ (m : PairNumbers). ZeroBeyond m.one) q.1 one.3;
          two = subst (λ (m : PairNumbers). ZeroBeyond m.two) q.1 two.3;
        }

    stepped : (t : Bool) → complete next.stage ≡ t → Goal r text n (cond t (record { answer = judged (numbers_read next) (place + 1); rest = rest_at text; place = place + 1 }) (further next (rest_at text) (place + 1)))
    stepped true c e = closed c e
    stepped false c e =
        let w = ih next (rest_at text) (place + 1) sound_next e in
        record { whole = sym behind_next ∙ w.whole; one = w.one; two = w.two }

  judged_line : (k v : List ℕ) → line_at text ≡ pair k v → (s : Step) → pair_step r (key_of k) v ≡ s → Goal r text n (on_step further s (rest_at text) (place + 1))
  judged_line k v line (Err rule) made e = absurd (cc)
  judged_line k v line (Ok next) made e = stepped k v line next made (complete next.stage) refl e

  read_line_goal : (s : Said) → line_at text ≡ s → Goal r text n (on_line further r text place s)
  read_line_goal (fault m) line e = absurd (cc)
  read_line_goal (pair k v) line e = judged_line k v line (pair_step r (key_of k) v) refl e

wrote : (fuel : ℕ) (n : PairNumbers) (r : PairReader) (text : List ℕ) (place : ℕ) → Sound r → Goal r text n (read_from fuel r text place)
wrote zero n r text place h e = absurd (cc)
wrote (suc fuel) n r text place h e = read_line_goal n (read_from fuel) (λ q t p s. wrote fuel n q t p s) r h text place (line_at text) refl e

pub accepted_wrote : (text : List ℕ) (place : ℕ) (n : PairNumbers) → (read_pair text place).answer ≡ Ok n → Wrote fresh text (read_pair text place).rest n
accepted_wrote text place n e = wrote (suc (length text)) n fresh text place fresh_sound e
