-- The loop over the lines of a pair's text.
use Rattle.std.proofs.Common.{◌≡◌, ℕ, zero, suc, ◌+◌, ◌<◌, true, false, List, length, Ok, Err, Result, sym, refl, ap, ◌∙◌, subst, add-zero, mul-pos, arith}
use Rattle.std.specs.Result.{MatchResult, IsErrAnd}
use Rattle.std.proofs.lemmas.Bool.{cond-true, cond-false, true≢false}
use Rattle.lines.specs.Line.{Said, pair, fault, line_at, left_by, rest_at, taken}
use Rattle.lines.proofs.LineLaws.{rest_shorter}
use Rattle.reading.specs.Keys.{key_of}
use Rattle.reading.specs.Rules.{fault_rule}
use Rattle.reading.specs.declared.rules.ReadRefusal.{ReadRefusal}
use Rattle.reading.specs.declared.rules.Rule.{Rule}
use Rattle.pair.specs.Pairs.{LawfulNumbers, Renewable}
use Rattle.pair.specs.declared.numbers.PairNumbers.{PairNumbers}
use Rattle.pairtext.specs.declared.reader.PairReader.{PairReader}
use Rattle.pairtext.specs.declared.stage.Stage.{Stage}
use Rattle.pairtext.specs.declared.stage.Stage.TheVariants.{KindDue, ThresholdDue, SetupDue, InspectDue, UnitDue, GradesDue, RowDue, PlannedDue, ForcedDue, DarkDue, EndDue, Complete}
use Rattle.pairtext.specs.Steps.{Step, pair_step, line_step, answer_of, reader_after}
use Rattle.pairtext.specs.Texts.{Reading, refused_at, complete, numbers_read, renewable, judged, on_step, on_line, read_from}

never : {A : Type 0} → false ≡ true → A
never e = absurd (true≢false (sym e))

pub complete_is : (s : Stage) → complete s ≡ true → s ≡ Complete
complete_is KindDue e = never e
complete_is ThresholdDue e = never e
complete_is SetupDue e = never e
complete_is InspectDue e = never e
complete_is UnitDue e = never e
complete_is GradesDue e = never e
complete_is RowDue e = never e
complete_is PlannedDue e = never e
complete_is ForcedDue e = never e
complete_is DarkDue e = never e
complete_is EndDue e = never e
complete_is Complete e = refl

-- there is a state, so what may be renewed in every state may be renewed in state 0
pub renewable_first : (n : PairNumbers) → LawfulNumbers n → Renewable n → renewable n ≡ true
renewable_first n l h = h 0 (mul-pos (omega (arith, l.1.0.0)) (omega (arith, l.2.0.0)))

-- another error for each, as `map_err` makes it
abbrev pub error_mapped : {T E D : Type 0} → (E → D) → Result T E → Result T D
error_mapped f (Ok x) = Ok x
error_mapped f (Err e) = Err (f e)

pub mapped_from : {T E D : Type 0} (f : E → D) (P : E → D → Type 0) (a : Result T E) (q : Result T D) → MatchResult a (λ x. q ≡ Ok x) (λ e. IsErrAnd q (P e)) → ((e : E) (z : D) → P e z → z ≡ f e) → q ≡ error_mapped f a
mapped_from f P (Ok x) q h one = h
mapped_from f P (Err e) (Ok x) h one = absurd h
mapped_from f P (Err e) (Err z) h one = ap Err (one e z h)

-- the refusal of a line that breaks a rule
abbrev pub at_line : ℕ → Rule → ReadRefusal
at_line line rule = record { rule = rule; line = line }

-- from the answer to a line back to its step
pub step_refused : (s : Step) (line : ℕ) (e : ReadRefusal) → Err e ≡ error_mapped (at_line line) (answer_of s) → (rule : Rule) × ((s ≡ Err rule) × (e ≡ at_line line rule))
step_refused (Ok next) line e is = absurd (cc)
step_refused (Err rule) line e is = (rule, (refl, cc))

pub step_made : (s : Step) (r next : PairReader) (line : ℕ) (x : Unit {0}) → Ok x ≡ error_mapped (at_line line) (answer_of s) → next ≡ reader_after r s → s ≡ Ok next
step_made (Ok other) r next line x e after = ap Ok (sym after)
step_made (Err rule) r next line x e after = absurd (cc)

-- reading on from here comes to g, with lines enough
abbrev pub Goes : PairReader → List ℕ → ℕ → Reading → Type 0
Goes r text place g = (fuel : ℕ) × ((length text < fuel) × (read_from fuel r text place ≡ g))

-- what one line comes to, by what it says
module _ (r : PairReader) (text : List ℕ) (place : ℕ) (g : Reading) where
  -- a line that is read is a key with its value, and is judged by its step
  goes_step : (k v : List ℕ) → pair k v ≡ line_at text → (s : Step) → pair_step r (key_of k) v ≡ s → (fuel : ℕ) → read_from (suc fuel) r text place ≡ g → on_step (read_from fuel) s (rest_at text) (place + 1) ≡ g
  goes_step k v line s e fuel h = ap (λ t. on_step (read_from fuel) t (rest_at text) (place + 1)) (sym e) ∙ ap (on_line (read_from fuel) r text place) line ∙ h

  pub goes_refused : (s : Said) → s ≡ line_at text → (rule : Rule) → line_step r s ≡ Err rule → Goes r text place g → g ≡ record { answer = refused_at rule (place + 1); rest = rest_at text; place = place + taken s }
  goes_refused s line rule e (zero, h) = absurd (omega (arith, h.0))
  goes_refused (fault n) line rule e (suc fuel, h) =
      let same : fault_rule n ≡ rule = cc in
      sym h.1 ∙ ap (on_line (read_from fuel) r text place) (sym line) ∙ (λ i. record { answer = refused_at (same i) (place + 1); rest = left_by (line i) text; place = sym (add-zero place) i })
  goes_refused (pair k v) line rule e (suc fuel, h) = sym (goes_step k v line (Err rule) e fuel h.1)

  pub goes_closed : (s : Said) → s ≡ line_at text → (next : PairReader) → line_step r s ≡ Ok next → complete next.stage ≡ true → Goes r text place g → g ≡ record { answer = judged (numbers_read next) (place + 1); rest = rest_at text; place = place + taken s }
  goes_closed s line next e c (zero, h) = absurd (omega (arith, h.0))
  goes_closed (fault n) line next e c (suc fuel, h) = absurd (cc)
  goes_closed (pair k v) line next e c (suc fuel, h) = sym (goes_step k v line (Ok next) e fuel h.1) ∙ cond-true _ _ _ c

  pub goes_on : (s : Said) → s ≡ line_at text → (next : PairReader) → line_step r s ≡ Ok next → complete next.stage ≡ false → Goes r text place g → Goes next (rest_at text) (place + taken s) g
  goes_on s line next e c (zero, h) = absurd (omega (arith, h.0))
  goes_on (fault n) line next e c (suc fuel, h) = absurd (cc)
  goes_on (pair k v) line next e c (suc fuel, h) =
      let shorter = rest_shorter text k v (sym line) in
      (fuel, (omega (arith, h.0, shorter), sym (cond-false _ _ _ c) ∙ goes_step k v line (Ok next) e fuel h.1))

-- the same, by other names for the text and the place
pub goes_at : (r : PairReader) (text other : List ℕ) (place line : ℕ) (g : Reading) → text ≡ other → place ≡ line → Goes r text place g → Goes r other line g
goes_at r text other place line g e f h = subst (λ t. Goes r t line g) e (subst (λ p. Goes r text p g) f h)
