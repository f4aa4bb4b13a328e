-- One line after the other: a reading that ended began with a line that was due, and a line that is due is read.
use Rattle.std.proofs.Common.{◌≡◌, ℕ, ◌+◌, ◌^◌, ◌<◌, ◌≤◌, Bool, true, false, cond, ltb, List, ◌++◌, length, Some, None, Ok, Err, decimal, Option, sym, refl, ap, ◌∙◌, subst, arith}
use Rattle.std.specs.List.{AllByRecursion as All}
use Rattle.std.specs.Str.{bytes_eq}
use Rattle.std.proofs.lemmas.Slice.Eq.{bytes_eq-Decides}
use Rattle.std.proofs.lemmas.List.{append_assoc}
use Rattle.std.proofs.lemmas.Bool.{cond-true, ltb-true}
use Rattle.lines.specs.Line.{Said, pair, fault, line_at, rest_at, taken, Printable}
use Rattle.lines.proofs.DigitLaws.{decimal_printable}
use Rattle.reading.specs.Keys.{name_of, key_of}
use Rattle.reading.specs.Values.{number_between}
use Rattle.reading.specs.Written.{line_of, number_line}
use Rattle.reading.specs.declared.keys.Key.{Key}
use Rattle.reading.specs.declared.keys.Key.TheVariants.{Other}
use Rattle.reading.specs.declared.rules.Rule.TheVariants.{Unexpected}
use Rattle.reading.proofs.KeyLaws.{key_law, key_of_name, same_key}
use Rattle.reading.proofs.ValueLaws.{between_law}
use Rattle.reading.proofs.WrittenLaws.{widest_value, number_short, read_line, written_line, written_rest}
use Rattle.chaintext.specs.declared.reader.ChainReader.{ChainReader}
use Rattle.chaintext.specs.declared.reader.Stage.TheVariants as stage
use Rattle.chaintext.specs.Reads.{line_step}
use Rattle.chaintext.specs.Counted.{CountedEnding, complete_at, refused_at, CountedReads, done_at, stop_at, more_at}
use Rattle.chaintext.specs.Steps.{Step, chain_step, due, with_number}

-- a reading ends in one way only
pub one_ending : {d : ChainReader} {text : List ℕ} {place : ℕ} {o p : CountedEnding} → CountedReads d text place o → CountedReads d text place p → o ≡ p
one_ending (done_at e) (done_at f) = refl
one_ending (done_at e) (stop_at n s) = absurd (n e)
one_ending (done_at e) (more_at n s r) = absurd (n e)
one_ending (stop_at n s) (done_at f) = absurd (n f)
one_ending {text = text} {place = place} (stop_at {rule = x} n s) (stop_at {rule = y} m t) =
    let same : x ≡ y = cc in ap (λ w. refused_at w (place + 1) (rest_at text) (place + taken (line_at text))) same
one_ending (stop_at n s) (more_at m t q) = let z : ◌≡◌ {A = ℕ} 0 1 = cc in absurd (omega arith)
one_ending (more_at n s r) (done_at f) = absurd (n f)
one_ending (more_at n s r) (stop_at m t) = let z : ◌≡◌ {A = ℕ} 0 1 = cc in absurd (omega arith)
one_ending {text = text} {place = place} {p = p} (more_at {e = x} n s r) (more_at {e = y} m t q) =
    let same : y ≡ x = cc in one_ending r (subst (λ (z : ChainReader). CountedReads z (rest_at text) (place + 1) p) same q)

-- reading from here ends with this reader and this rest, however many lines were read before
abbrev pub Ends : ChainReader → List ℕ → ChainReader → List ℕ → Type 0
Ends d text last after = (place : ℕ) → (count : ℕ) × CountedReads d text place (complete_at last after count)

-- a reading from here ended so
abbrev pub Ended : ChainReader → List ℕ → ChainReader → List ℕ → Type 0
Ended d text last after = (place : ℕ) × ((count : ℕ) × CountedReads d text place (complete_at last after count))

-- the line that a reading began with
pub record LineRead (d : ChainReader) (text : List ℕ) (last : ChainReader) (after : List ℕ) : Type 0 where
  pub name : List ℕ
  pub value : List ℕ
  pub next : ChainReader
  pub line : line_at text ≡ pair name value
  pub step : chain_step d (key_of name) value ≡ Ok next
  pub ended : Ended next (rest_at text) last after

pub line_read : {d : ChainReader} {text : List ℕ} {place : ℕ} {o : CountedEnding} (last : ChainReader) (after : List ℕ) (count : ℕ) → (d.stage ≡ stage.Done → ⊥) → CountedReads d text place o → o ≡ complete_at last after count → LineRead d text last after
line_read last after count going (done_at e) q = absurd (going e)
line_read last after count going (stop_at n s) q = let z : ◌≡◌ {A = ℕ} 0 1 = cc in absurd (omega arith)
line_read {d} {text} {place} {o} last after count going (more_at {e = next} n s r) q = by_line (line_at text) refl s
  where
    by_line : (l : Said) → line_at text ≡ l → line_step d l ≡ Ok next → LineRead d text last after
    by_line (fault m) e s = let z : ◌≡◌ {A = ℕ} 0 1 = cc in absurd (omega arith)
    by_line (pair k v) e s = record { name = k; value = v; next = next; line = e; step = s; ended = (place + 1, (count, subst (CountedReads next (rest_at text) (place + 1)) q r)) }

-- behind the end nothing more is read
pub done_ended : {d : ChainReader} {text : List ℕ} {place : ℕ} {o : CountedEnding} (last : ChainReader) (after : List ℕ) (count : ℕ) → d.stage ≡ stage.Done → CountedReads d text place o → o ≡ complete_at last after count → (d ≡ last) × (text ≡ after)
done_ended last after count e (done_at f) q = (cc, cc)
done_ended last after count e (stop_at n s) q = absurd (n e)
done_ended last after count e (more_at n s r) q = absurd (n e)

-- a word that was due
pub word_came : (value word : List ℕ) (d next : ChainReader) → cond (bytes_eq value word) (Ok d) (Err Unexpected) ≡ Ok next → (value ≡ word) × (d ≡ next)
word_came value word d next e = tested (bytes_eq value word) refl e
  where
    tested : (t : Bool) → bytes_eq value word ≡ t → cond t (Ok d) (Err Unexpected) ≡ Ok next → (value ≡ word) × (d ≡ next)
    tested true q e = ((bytes_eq-Decides value word).0 q, cc)
    tested false q e = let z : ◌≡◌ {A = ℕ} 0 1 = cc in absurd (omega arith)

-- a line with this key is due, and this becomes of its value
abbrev pub Takes : ChainReader → Key → (List ℕ → Step) → Type 0
Takes d key S = (k : Key) (v : List ℕ) → chain_step d k v ≡ due key k (S v)

-- the text begins with such a line, and the reading goes on behind it
pub record Begun (key : Key) (S : List ℕ → Step) (text : List ℕ) (last : ChainReader) (after : List ℕ) : Type 0 where
  pub value : List ℕ
  pub rest : List ℕ
  pub next : ChainReader
  pub whole : text ≡ line_of key value ++ rest
  pub step : S value ≡ Ok next
  pub ended : Ended next rest last after

pub due_came : (t : Bool) (s : Step) (next : ChainReader) → cond t s (Err Unexpected) ≡ Ok next → (t ≡ true) × (s ≡ Ok next)
due_came true s next e = (refl, e)
due_came false s next e = let z : ◌≡◌ {A = ℕ} 0 1 = cc in absurd (omega arith)

module _ (d : ChainReader) (going : d.stage ≡ stage.Done → ⊥) (key : Key) (some : ltb 0 (length (name_of key)) ≡ true) where
  named : key ≡ Other → ⊥
  named q = omega (arith, ltb-true 0 (length (name_of key)) some, ap (λ (z : Key). length (name_of z)) q)

  pub begun_with : (S : List ℕ → Step) (text : List ℕ) (last : ChainReader) (after : List ℕ) (l : LineRead d text last after) → bytes_eq (name_of (key_of l.name)) (name_of key) ≡ true → S l.value ≡ Ok l.next → Begun key S text last after
  begun_with S text last after l same step =
      let name : l.name ≡ name_of key = (key_law l.name (key_of l.name) refl key named).0 (same_key (key_of l.name) key same) in
      record { value = l.value; rest = rest_at text; next = l.next; whole = read_line text l.name l.value key l.line name; step = step; ended = l.ended }

  pub begun : (S : List ℕ → Step) (text : List ℕ) (last : ChainReader) (after : List ℕ) → Takes d key S → Ended d text last after → Begun key S text last after
  begun S text last after takes (place, (count, reads)) =
      let l = line_read last after count going reads refl in
      let came = due_came (bytes_eq (name_of (key_of l.name)) (name_of key)) (S l.value) l.next (sym (takes (key_of l.name) l.value) ∙ l.step) in
      begun_with S text last after l came.0 came.1

  pub goes : (next : ChainReader) (v text : List ℕ) (last : ChainReader) (after : List ℕ) → All Printable v → length v ≤ widest_value → chain_step d key v ≡ Ok next → Ends next text last after → Ends d (line_of key v ++ text) last after
  goes next v text last after bytes short step ends place =
      let steps : line_step d (line_at (line_of key v ++ text)) ≡ Ok next = ap (line_step d) (written_line key named v text bytes short) ∙ ap (λ k. chain_step d k v) (key_of_name key) ∙ step in
      let end = ends (place + 1) in
      (end.0, more_at going steps (subst (λ t. CountedReads next t (place + 1) (complete_at last after end.0)) (sym (written_rest key named v text bytes short)) end.1))

  pub goes_due : (S : List ℕ → Step) (next : ChainReader) (v text : List ℕ) (last : ChainReader) (after : List ℕ) → Takes d key S → All Printable v → length v ≤ widest_value → S v ≡ Ok next → Ends next text last after → Ends d (line_of key v ++ text) last after
  goes_due S next v text last after takes bytes short step ends =
      goes next v text last after bytes short (takes key v ∙ cond-true _ _ _ ((bytes_eq-Decides (name_of key) (name_of key)).1 refl) ∙ step) ends

-- a number between two bounds is due
abbrev pub TakesNumber : ChainReader → Key → ℕ → ℕ → (ℕ → ChainReader) → Type 0
TakesNumber d key least most f = Takes d key (λ v. with_number (number_between v least most) f)

pub record NumberBegun (key : Key) (least most : ℕ) (f : ℕ → ChainReader) (text : List ℕ) (last : ChainReader) (after : List ℕ) : Type 0 where
  pub number : ℕ
  pub rest : List ℕ
  pub whole : text ≡ number_line key number ++ rest
  pub low : least ≤ number
  pub high : number ≤ most
  pub ended : Ended (f number) rest last after

number_came : (o : Option ℕ) (f : ℕ → ChainReader) (next : ChainReader) → with_number o f ≡ Ok next → (n : ℕ) × ((o ≡ Some n) × (f n ≡ next))
number_came None f next e = let z : ◌≡◌ {A = ℕ} 0 1 = cc in absurd (omega arith)
number_came (Some n) f next e = (n, (refl, cc))

module _ (d : ChainReader) (going : d.stage ≡ stage.Done → ⊥) (key : Key) (some : ltb 0 (length (name_of key)) ≡ true) (least most : ℕ) (small : most < 2 ^ 64) (f : ℕ → ChainReader) (takes : TakesNumber d key least most f) where
  pub number_begun : (text : List ℕ) (last : ChainReader) (after : List ℕ) → Ended d text last after → NumberBegun key least most f text last after
  number_begun text last after ended =
      let b = begun d going key some (λ v. with_number (number_between v least most) f) text last after takes ended in
      let m = number_came (number_between b.value least most) f b.next b.step in
      let is = (between_law b.value least most small m.0).0 m.1.0 in
      record {
        number = m.0;
        rest = b.rest;
        whole = b.whole ∙ ap (λ v. line_of key v ++ b.rest) is.0;
        low = is.1;
        high = is.2;
        ended = subst (λ (e : ChainReader). Ended e b.rest last after) (sym m.1.1) b.ended;
      }

  pub number_goes : (n : ℕ) (text : List ℕ) (last : ChainReader) (after : List ℕ) → least ≤ n → n ≤ most → Ends (f n) text last after → Ends d (number_line key n ++ text) last after
  number_goes n text last after low high ends =
      goes_due d going key some (λ v. with_number (number_between v least most) f) (f n) (decimal n) text last after takes (decimal_printable n (omega arith)) (number_short n (omega arith)) (ap (λ o. with_number o f) ((between_law (decimal n) least most small n).1 (refl, low, high))) ends

-- one line in front of others
pub before_lines : (line rest text lines behind : List ℕ) → text ≡ line ++ rest → rest ≡ lines ++ behind → text ≡ (line ++ lines) ++ behind
before_lines line rest text lines behind e f = e ∙ ap (λ t. line ++ t) f ∙ sym (append_assoc line lines behind)
