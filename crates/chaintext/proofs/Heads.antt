-- The lines in front of the parts, read and written.
use Rattle.std.proofs.Common.{◌≡◌, ℕ, ◌≤◌, List, [], ◌++◌, length, codes, sym, refl, ap, ◌∙◌, subst, arith}
use Rattle.std.proofs.lemmas.List.{append_assoc}
use Rattle.std.proofs.lemmas.Bool.{leb-true}
use Rattle.reading.specs.Written.{line_of, number_line}
use Rattle.reading.specs.declared.keys.Key.TheVariants as key
use Rattle.reading.proofs.WrittenLaws.{widest_value, plain_bytes}
use Rattle.workorder.specs.Orders.{max_parts}
use Rattle.chain.specs.Limits.{most_threshold, most_charge}
use Rattle.chaintext.specs.declared.reader.ChainReader.{ChainReader}
use Rattle.chaintext.specs.declared.reader.Head.{Head}
use Rattle.chaintext.specs.declared.reader.Stage.{Stage}
use Rattle.chaintext.specs.declared.reader.Stage.TheVariants as stage
use Rattle.chaintext.specs.Reads.{fresh}
use Rattle.chaintext.specs.Steps.{kind_step}
use Rattle.chaintext.proofs.Lines.{Ended, Ends, before_lines, begun, goes_due, number_begun, number_goes, word_came}
use Rattle.chaintext.proofs.Parts.{no_stage, reader}

abbrev head : ℕ → ℕ → ℕ → ℕ → Head
head c t s a = record { count = c; threshold = t; setup = s; alarm = a }

-- a reader of which no part is open
abbrev at : Stage → Head → ChainReader
at s h = reader s h 0 [] []

-- all numbers of a head are in range
pub record GoodHead (h : Head) : Type 0 where
  pub some : 1 ≤ h.count
  pub count : h.count ≤ max_parts
  pub threshold : h.threshold ≤ most_threshold
  pub setup : h.setup ≤ most_charge
  pub alarm : h.alarm ≤ most_charge

abbrev alarm_lines : Head → List ℕ
alarm_lines h = number_line key.Alarm h.alarm

abbrev setup_lines : Head → List ℕ
setup_lines h = number_line key.Setup h.setup ++ alarm_lines h

abbrev threshold_lines : Head → List ℕ
threshold_lines h = number_line key.Threshold h.threshold ++ setup_lines h

abbrev count_lines : Head → List ℕ
count_lines h = number_line key.Parts h.count ++ threshold_lines h

abbrev pub head_lines : Head → List ℕ
head_lines h = line_of key.Kind (codes "chain") ++ count_lines h

-- a reading that ended in the middle of the head: the lines that were left, the head, and what is known of it
pub record HeadTail (lines : Head → List ℕ) (Known : Head → Type 0) (text : List ℕ) (last : ChainReader) (after : List ℕ) : Type 0 where
  pub head : Head
  pub rest : List ℕ
  pub whole : text ≡ lines head ++ rest
  pub known : Known head
  pub ended : Ended (at stage.Part head) rest last after

module _ (last : ChainReader) (after : List ℕ) where
  alarm_tail : (c t s : ℕ) (text : List ℕ) → Ended (at stage.Alarm (head c t s 0)) text last after → HeadTail alarm_lines (λ h. (h.count ≡ c) × (h.threshold ≡ t) × (h.setup ≡ s) × (h.alarm ≤ most_charge)) text last after
  alarm_tail c t s text ended =
      let b = number_begun (at stage.Alarm (head c t s 0)) (no_stage refl) key.Alarm refl 0 most_charge (omega arith) (λ n. at stage.Part (head c t s n)) (λ k v. refl) text last after ended in
      record { head = head c t s b.number; rest = b.rest; whole = b.whole; known = (refl, refl, refl, b.high); ended = b.ended }

  setup_tail : (c t : ℕ) (text : List ℕ) → Ended (at stage.Setup (head c t 0 0)) text last after → HeadTail setup_lines (λ h. (h.count ≡ c) × (h.threshold ≡ t) × (h.setup ≤ most_charge) × (h.alarm ≤ most_charge)) text last after
  setup_tail c t text ended =
      let b = number_begun (at stage.Setup (head c t 0 0)) (no_stage refl) key.Setup refl 0 most_charge (omega arith) (λ n. at stage.Alarm (head c t n 0)) (λ k v. refl) text last after ended in
      let u = alarm_tail c t b.number b.rest b.ended in
      record {
        head = u.head;
        rest = u.rest;
        whole = before_lines (number_line key.Setup u.head.setup) b.rest text (alarm_lines u.head) u.rest (b.whole ∙ ap (λ n. number_line key.Setup n ++ b.rest) (sym u.known.2)) u.whole;
        known = (u.known.0, u.known.1, omega (arith, b.high, u.known.2), u.known.3);
        ended = u.ended;
      }

  threshold_tail : (c : ℕ) (text : List ℕ) → Ended (at stage.Threshold (head c 0 0 0)) text last after → HeadTail threshold_lines (λ h. (h.count ≡ c) × (h.threshold ≤ most_threshold) × (h.setup ≤ most_charge) × (h.alarm ≤ most_charge)) text last after
  threshold_tail c text ended =
      let b = number_begun (at stage.Threshold (head c 0 0 0)) (no_stage refl) key.Threshold refl 0 most_threshold (omega arith) (λ n. at stage.Setup (head c n 0 0)) (λ k v. refl) text last after ended in
      let u = setup_tail c b.number b.rest b.ended in
      record {
        head = u.head;
        rest = u.rest;
        whole = before_lines (number_line key.Threshold u.head.threshold) b.rest text (setup_lines u.head) u.rest (b.whole ∙ ap (λ n. number_line key.Threshold n ++ b.rest) (sym u.known.1)) u.whole;
        known = (u.known.0, omega (arith, b.high, u.known.1), u.known.2, u.known.3);
        ended = u.ended;
      }

  count_tail : (text : List ℕ) → Ended (at stage.Parts (head 0 0 0 0)) text last after → HeadTail count_lines GoodHead text last after
  count_tail text ended =
      let b = number_begun (at stage.Parts (head 0 0 0 0)) (no_stage refl) key.Parts refl 1 max_parts (omega arith) (λ n. at stage.Threshold (head n 0 0 0)) (λ k v. refl) text last after ended in
      let u = threshold_tail b.number b.rest b.ended in
      record {
        head = u.head;
        rest = u.rest;
        whole = before_lines (number_line key.Parts u.head.count) b.rest text (threshold_lines u.head) u.rest (b.whole ∙ ap (λ n. number_line key.Parts n ++ b.rest) (sym u.known.0)) u.whole;
        known = record { some = omega (arith, b.low, u.known.0); count = omega (arith, b.high, u.known.0); threshold = u.known.1; setup = u.known.2; alarm = u.known.3 };
        ended = u.ended;
      }

  -- a reading that ended began with the lines of a head
  pub head_begun : (text : List ℕ) → Ended fresh text last after → HeadTail head_lines GoodHead text last after
  head_begun text ended =
      let b = begun fresh (no_stage refl) key.Kind refl (kind_step fresh) text last after (λ k v. refl) ended in
      let came = word_came b.value (codes "chain") (at stage.Parts (head 0 0 0 0)) b.next b.step in
      let u = count_tail b.rest (subst (λ (d : ChainReader). Ended d b.rest last after) (sym came.1) b.ended) in
      record {
        head = u.head;
        rest = u.rest;
        whole = before_lines (line_of key.Kind (codes "chain")) b.rest text (count_lines u.head) u.rest (b.whole ∙ ap (λ v. line_of key.Kind v ++ b.rest) came.0) u.whole;
        known = u.known;
        ended = u.ended;
      }

  -- the lines of a head are written so, and the reading goes on behind them
  pub head_goes : (h : Head) (text : List ℕ) → GoodHead h → Ends (at stage.Part h) text last after → Ends fresh (head_lines h ++ text) last after
  head_goes h text good ends =
      let alarm : List ℕ = number_line key.Alarm h.alarm ++ text in
      let setup : List ℕ = number_line key.Setup h.setup ++ alarm in
      let threshold : List ℕ = number_line key.Threshold h.threshold ++ setup in
      let count : List ℕ = number_line key.Parts h.count ++ threshold in
      let e4 : Ends (at stage.Alarm (head h.count h.threshold h.setup 0)) alarm last after = number_goes (at stage.Alarm (head h.count h.threshold h.setup 0)) (no_stage refl) key.Alarm refl 0 most_charge (omega arith) (λ n. at stage.Part (head h.count h.threshold h.setup n)) (λ k v. refl) h.alarm text last after (omega arith) good.alarm ends in
      let e3 : Ends (at stage.Setup (head h.count h.threshold 0 0)) setup last after = number_goes (at stage.Setup (head h.count h.threshold 0 0)) (no_stage refl) key.Setup refl 0 most_charge (omega arith) (λ n. at stage.Alarm (head h.count h.threshold n 0)) (λ k v. refl) h.setup alarm last after (omega arith) good.setup e4 in
      let e2 : Ends (at stage.Threshold (head h.count 0 0 0)) threshold last after = number_goes (at stage.Threshold (head h.count 0 0 0)) (no_stage refl) key.Threshold refl 0 most_threshold (omega arith) (λ n. at stage.Setup (head h.count n 0 0)) (λ k v. refl) h.threshold setup last after (omega arith) good.threshold e3 in
      let e1 : Ends (at stage.Parts (head 0 0 0 0)) count last after = number_goes (at stage.Parts (head 0 0 0 0)) (no_stage refl) key.Parts refl 1 max_parts (omega arith) (λ n. at stage.Threshold (head n 0 0 0)) (λ k v. refl) h.count threshold last after good.some good.count e2 in
      let e0 : Ends fresh (line_of key.Kind (codes "chain") ++ count) last after = goes_due fresh (no_stage refl) key.Kind refl (kind_step fresh) (at stage.Parts (head 0 0 0 0)) (codes "chain") count last after (λ k v. refl) (plain_bytes (codes "chain") refl).1 (leb-true (length (codes "chain")) widest_value refl) refl e1 in
      subst (λ t. Ends fresh t last after) (sym (regroup (line_of key.Kind (codes "chain")) (number_line key.Parts h.count) (number_line key.Threshold h.threshold) (number_line key.Setup h.setup) (number_line key.Alarm h.alarm) text)) e0
    where
      regroup : (a b c d e m : List ℕ) → (a ++ (b ++ (c ++ (d ++ e)))) ++ m ≡ a ++ (b ++ (c ++ (d ++ (e ++ m))))
      regroup a b c d e m = simp append_assoc
