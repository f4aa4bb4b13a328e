-- The lines of all parts, read and written.
use Rattle.std.proofs.Common.{◌≡◌, ℕ, zero, suc, ◌+◌, ◌<◌, ◌≤◌, List, [], ◌∷◌, ◌++◌, length, sym, refl, ap, ◌∙◌, subst, arith}
use Rattle.std.specs.List.{AllByRecursion as All}
use Rattle.std.proofs.lemmas.List.{append_assoc, append-nil, length_push}
use Rattle.std.proofs.lemmas.Bool.{cond-false, cond-true, le-ltb, lt-ltb}
use Rattle.workorder.specs.Orders.{max_parts}
use Rattle.chain.specs.declared.numbers.Part.{Part}
use Rattle.chaintext.specs.declared.reader.ChainReader.{ChainReader}
use Rattle.chaintext.specs.declared.reader.Head.{Head}
use Rattle.chaintext.specs.declared.reader.Stage.TheVariants as stage
use Rattle.chaintext.specs.Writing.{part_text, parts_text}
use Rattle.chaintext.proofs.Lines.{Ended, Ends}
use Rattle.chaintext.proofs.Parts.{Good, Tail, behind_part, part_begun, part_goes, reader}

module _ (h : Head) (few : h.count ≤ max_parts) (last : ChainReader) (after : List ℕ) where
  -- behind a part comes the next one
  next_part : (o : ℕ) → o < h.count → behind_part h o ≡ stage.Part
  next_part o l = cond-true _ _ _ (lt-ltb o h.count l)

  -- and behind the last the arcs
  last_part : (o : ℕ) → o ≡ h.count → behind_part h o ≡ stage.Arc
  last_part o e = cond-false _ _ _ (le-ltb o h.count (omega arith))

  -- a reading that ended began with the lines of these parts
  pub record PartsBegun (before : List Part) (many : ℕ) (text : List ℕ) : Type 0 where
    pub parts : List Part
    pub rest : List ℕ
    pub long : length parts ≡ many
    pub whole : text ≡ parts_text (length before + 1) parts ++ rest
    pub good : All Good parts
    pub ended : Ended (reader stage.Arc h h.count (before ++ parts) []) rest last after

  begun_last : (before : List Part) (text : List ℕ) → length before + 1 ≡ h.count → (room : length before < max_parts) → Tail h before room (part_text (length before + 1)) Good text last after → PartsBegun before 1 text
  begun_last before text e room t = record {
    parts = t.part ∷ [];
    rest = t.rest;
    long = refl;
    whole = t.whole ∙ ap (λ l. l ++ t.rest) (sym (append-nil (part_text (length before + 1) t.part)));
    good = (t.known, tt);
    ended = subst (λ o. Ended (reader stage.Arc h o (before ++ (t.part ∷ [])) []) t.rest last after) e (subst (λ s. Ended (reader s h (length before + 1) (before ++ (t.part ∷ [])) []) t.rest last after) (last_part (length before + 1) e) t.ended);
  }

  begun_more : (before : List Part) (text : List ℕ) (many : ℕ) (room : length before < max_parts) (t : Tail h before room (part_text (length before + 1)) Good text last after) → PartsBegun (before ++ (t.part ∷ [])) many t.rest → PartsBegun before (suc many) text
  begun_more before text many room t b = record {
    parts = t.part ∷ b.parts;
    rest = b.rest;
    long = ap suc b.long;
    whole = t.whole ∙ ap (λ l. part_text (length before + 1) t.part ++ l) (b.whole ∙ ap (λ n. parts_text (n + 1) b.parts ++ b.rest) (length_push before t.part)) ∙ sym (append_assoc (part_text (length before + 1) t.part) (parts_text (length before + 1 + 1) b.parts) b.rest);
    good = (t.known, b.good);
    ended = subst (λ ps. Ended (reader stage.Arc h h.count ps []) b.rest last after) (append_assoc before (t.part ∷ []) b.parts) b.ended;
  }

  going_on : (before : List Part) (p : Part) (text : List ℕ) → length before + 1 < h.count → Ended (reader (behind_part h (length before + 1)) h (length before + 1) (before ++ (p ∷ [])) []) text last after → Ended (reader stage.Part h (length (before ++ (p ∷ []))) (before ++ (p ∷ [])) []) text last after
  going_on before p text more ended =
      subst (λ o. Ended (reader stage.Part h o (before ++ (p ∷ [])) []) text last after) (sym (length_push before p)) (subst (λ s. Ended (reader s h (length before + 1) (before ++ (p ∷ [])) []) text last after) (next_part (length before + 1) more) ended)

  pub parts_begun : (j : ℕ) (before : List Part) (text : List ℕ) → length before + suc j ≡ h.count → Ended (reader stage.Part h (length before) before []) text last after → PartsBegun before (suc j) text
  parts_begun zero before text e ended =
      let room : length before < max_parts = omega arith in
      begun_last before text (omega arith) room (part_begun h before room last after text ended)
  parts_begun (suc j) before text e ended =
      let room : length before < max_parts = omega arith in
      let t = part_begun h before room last after text ended in
      begun_more before text (suc j) room t (parts_begun j (before ++ (t.part ∷ [])) t.rest (omega (arith, length_push before t.part)) (going_on before t.part t.rest (omega arith) t.ended))

  -- all parts are written so, and the reading goes on behind them
  pub parts_go : (p : Part) (ps : List Part) (before : List Part) (text : List ℕ) → length before + suc (length ps) ≡ h.count → All Good (p ∷ ps) → Ends (reader stage.Arc h h.count (before ++ (p ∷ ps)) []) text last after → Ends (reader stage.Part h (length before) before []) (parts_text (length before + 1) (p ∷ ps) ++ text) last after
  parts_go p [] before text e good ends =
      let room : length before < max_parts = omega arith in
      let all : length before + 1 ≡ h.count = omega arith in
      let ends1 = subst (λ s. Ends (reader s h (length before + 1) (before ++ (p ∷ [])) []) text last after) (sym (last_part (length before + 1) all)) (subst (λ o. Ends (reader stage.Arc h o (before ++ (p ∷ [])) []) text last after) (sym all) ends) in
      subst (λ l. Ends (reader stage.Part h (length before) before []) (l ++ text) last after) (sym (append-nil (part_text (length before + 1) p))) (part_goes h before room p text last after good.0 ends1)
  parts_go p (q ∷ ps) before text e good ends =
      let room : length before < max_parts = omega arith in
      let more : length before + 1 < h.count = omega arith in
      let long : length (before ++ (p ∷ [])) ≡ length before + 1 = length_push before p in
      let ends1 = parts_go q ps (before ++ (p ∷ [])) text (omega arith) good.1 (subst (λ l. Ends (reader stage.Arc h h.count l []) text last after) (sym (append_assoc before (p ∷ []) (q ∷ ps))) ends) in
      let ends2 = subst (λ o. Ends (reader stage.Part h o (before ++ (p ∷ [])) []) (parts_text (o + 1) (q ∷ ps) ++ text) last after) long ends1 in
      let ends3 = subst (λ s. Ends (reader s h (length before + 1) (before ++ (p ∷ [])) []) (parts_text (length before + 1 + 1) (q ∷ ps) ++ text) last after) (sym (next_part (length before + 1) more)) ends2 in
      subst (λ l. Ends (reader stage.Part h (length before) before []) l last after) (sym (append_assoc (part_text (length before + 1) p) (parts_text (length before + 1 + 1) (q ∷ ps)) text)) (part_goes h before room p (parts_text (length before + 1 + 1) (q ∷ ps) ++ text) last after good.0 ends3)
