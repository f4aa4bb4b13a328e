-- The lines of one part, read and written.
use Rattle.std.proofs.Common.{◌≡◌, ℕ, ◌+◌, ◌-◌, ◌<◌, ◌≤◌, Bool, true, false, cond, ltb, List, [], ◌∷◌, ◌++◌, map, length, get_or, take, set, replicate, Some, None, Ok, decimal, Option, sym, refl, ap, ◌∙◌, subst, arith}
use Rattle.std.specs.List.{AllByRecursion as All}
use Rattle.std.proofs.ByRecursion.{All-get_or, All-from_get_or}
use Rattle.std.proofs.lemmas.List.{append_assoc, get_or-take}
use Rattle.std.proofs.lemmas.Bool.{and_from, cond-true, le-leb, lt-ltb, true≢false}
use Rattle.lines.specs.Fields.{joined}
use Rattle.reading.specs.Values.{number_between, list_of}
use Rattle.reading.specs.Written.{line_of, number_line, list_line}
use Rattle.reading.specs.declared.keys.Key.TheVariants as key
use Rattle.reading.proofs.ValueLaws.{list_law}
use Rattle.reading.proofs.WrittenLaws.{widest_value, list_printable, list_short}
use Rattle.workorder.specs.Orders.{max_parts}
use Rattle.workorder.specs.declared.Arc.{Arc}
use Rattle.chain.specs.Limits.{most_life, most_hazard, most_charge, most_dark, most_arcs}
use Rattle.chain.specs.Parts.{LawfulPart, blank}
use Rattle.chain.specs.declared.numbers.Part.{Part}
use Rattle.chaintext.specs.declared.reader.ChainReader.{ChainReader}
use Rattle.chaintext.specs.declared.reader.Head.{Head}
use Rattle.chaintext.specs.declared.reader.Stage.{Stage}
use Rattle.chaintext.specs.declared.reader.Stage.TheVariants as stage
use Rattle.chaintext.specs.Reads.{new_part}
use Rattle.chaintext.specs.Steps.{Step, due, filled, hazards_of, no_arc, padded, place_of, with_list, with_number, with_part}
use Rattle.chaintext.specs.Writing.{UsedUpTo, part_text}
use Rattle.chaintext.proofs.Lines.{Ended, Ends, Takes, TakesNumber, before_lines, begun, goes_due, number_begun, number_goes}
use Rattle.chaintext.proofs.Tables.{get_d_last, get_d_next, get_d_used, laid, laid_front, laid_last, laid_next, laid_used, used_laid}

abbrev not_done : Stage → Bool
not_done stage.Kind = true
not_done stage.Parts = true
not_done stage.Threshold = true
not_done stage.Setup = true
not_done stage.Alarm = true
not_done stage.Part = true
not_done stage.Life = true
not_done stage.Hazard = true
not_done stage.Surplus = true
not_done stage.Dark = true
not_done stage.Arc = true
not_done stage.Done = false

-- a reader with this table of parts
abbrev with_table : Stage → Head → ℕ → List Part → List Arc → ChainReader
with_table s h o table arcs = record { stage = s; head = h; opened = o; parts = table; arc_count = length arcs; arcs = laid most_arcs no_arc arcs }

-- a reader that has read these parts and these arcs
abbrev pub reader : Stage → Head → ℕ → List Part → List Arc → ChainReader
reader s h o ps arcs = with_table s h o (laid max_parts new_part ps) arcs

-- a part in range, with zeros beyond its life
abbrev pub Good : Part → Type 0
Good p = LawfulPart p × UsedUpTo p.life most_life 0 p.hazards

-- the hazards of a part, read and written
abbrev HazardsWithin : ℕ → List ℕ → Type 0
HazardsWithin life hs = ((age : ℕ) → age < life → get_or hs age 0 ≤ most_hazard) × UsedUpTo life most_life 0 hs

record HazardsRead (v : List ℕ) (life : ℕ) (hs : List ℕ) : Type 0 where
  is : v ≡ joined (map decimal (take life hs))
  within : (age : ℕ) → age < life → get_or hs age 0 ≤ most_hazard
  used : UsedUpTo life most_life 0 hs

hazards_read : (v : List ℕ) (life : ℕ) (hs : List ℕ) → life ≤ most_life → hazards_of v life ≡ Some hs → HazardsRead v life hs
hazards_read v life hs few e = found (list_of v most_hazard life) refl (sym (cond-true _ _ _ (le-leb life most_life few)) ∙ e)
  where
    found : (o : Option (List ℕ)) → list_of v most_hazard life ≡ o → padded life o ≡ Some hs → HazardsRead v life hs
    found None q e = let z : ◌≡◌ {A = ℕ} 0 1 = cc in absurd (omega arith)
    found (Some ns) q e =
        let law = (list_law v most_hazard life (omega arith) ns).0 q in
        let same : ns ++ replicate (most_life - life) 0 ≡ hs = cc in
        let is : laid most_life 0 ns ≡ hs = ap (λ m. ns ++ replicate (most_life - m) 0) law.2 ∙ same in
        let front : take life hs ≡ ns = ap (take life) (sym is) ∙ laid_front most_life 0 ns life law.2 in
        let some : length ns ≤ most_life = omega (arith, law.2) in
        record {
          is = law.0 ∙ ap (λ l. joined (map decimal l)) (sym front);
          within = λ age low. let inside : age < length ns = omega (arith, law.2) in subst (λ l. get_or l age 0 ≤ most_hazard) is (subst (λ x. x ≤ most_hazard) (sym (get_d_used most_life 0 ns age 0 inside)) (All-get_or (λ x. x ≤ most_hazard) ns age 0 inside law.3));
          used = subst (UsedUpTo life most_life 0) is (subst (λ m. UsedUpTo m most_life 0 (laid most_life 0 ns)) law.2 (laid_used most_life 0 ns some));
        }

module _ (p : Part) (good : Good p) where
  front_long : length (take p.life p.hazards) ≡ p.life
  front_long = (used_laid most_life 0 p.hazards p.life good.0.0.1 good.1).1

  front_within : All (λ x. x ≤ most_hazard) (take p.life p.hazards)
  front_within = All-from_get_or (λ x. x ≤ most_hazard) (take p.life p.hazards) 0 (λ i l. let low : i < p.life = omega (arith, front_long) in subst (λ x. x ≤ most_hazard) (sym (get_or-take p.life p.hazards i 0 low)) (good.0.2 i low))

  hazards_back : hazards_of (joined (map decimal (take p.life p.hazards))) p.life ≡ Some p.hazards
  hazards_back =
      let listed : list_of (joined (map decimal (take p.life p.hazards))) most_hazard p.life ≡ Some (take p.life p.hazards) = (list_law (joined (map decimal (take p.life p.hazards))) most_hazard p.life (omega arith) (take p.life p.hazards)).1 (refl, good.0.0.0, front_long, front_within) in
      cond-true _ _ _ (le-leb p.life most_life good.0.0.1) ∙ ap (padded p.life) listed ∙ ap Some (ap (λ m. take p.life p.hazards ++ replicate (most_life - m) 0) (sym front_long) ∙ sym (used_laid most_life 0 p.hazards p.life good.0.0.1 good.1).0)

list_came : (o : Option (List ℕ)) (f : List ℕ → ChainReader) (next : ChainReader) → with_list o f ≡ Ok next → (hs : List ℕ) × ((o ≡ Some hs) × (f hs ≡ next))
list_came None f next e = let z : ◌≡◌ {A = ℕ} 0 1 = cc in absurd (omega arith)
list_came (Some hs) f next e = (hs, (refl, cc))

-- a stage at which a line is due
pub no_stage : {s : Stage} → not_done s ≡ true → s ≡ stage.Done → ⊥
no_stage e q = true≢false (sym e ∙ ap not_done q)

-- what is due after a part
abbrev pub behind_part : Head → ℕ → Stage
behind_part h o = cond (ltb o h.count) stage.Part stage.Arc

module _ (h : Head) (before : List Part) (room : length before < max_parts) where
  abbrev here : ℕ
  here = length before + 1

  abbrev mid : Stage → Part → ChainReader
  mid s p = reader s h here (before ++ (p ∷ [])) []

  -- the part opened last stands at its place
  in_part : (s : Stage) (table : List Part) (p : Part) (F : Part → Step) → get_or table (length before) blank ≡ p → with_part (with_table s h here table []) (place_of (with_table s h here table [])) F ≡ F p
  in_part s table p F is =
      let back : here - 1 ≡ length before = omega arith in
      let place : place_of (with_table s h here table []) ≡ Some (length before) = cond-true _ _ _ (and_from _ _ (lt-ltb 0 here (omega arith)) (le-leb here max_parts (omega arith))) ∙ ap Some back in
      ap (λ o. with_part (with_table s h here table []) o F) place ∙ ap F is

  -- and is filled there
  filled_is : (s t : Stage) (table next : List Part) (p : Part) → set table (length before) p ≡ next → filled (with_table s h here table []) t p ≡ with_table t h here next []
  filled_is s t table next p is =
      let back : here - 1 ≡ length before = omega arith in
      ap (λ k. with_table t h here (set table k p) []) back ∙ ap (λ l. with_table t h here l []) is

  mid_part : (s : Stage) (p : Part) (F : Part → Step) → with_part (mid s p) (place_of (mid s p)) F ≡ F p
  mid_part s p F = in_part s (laid max_parts new_part (before ++ (p ∷ []))) p F (get_d_last max_parts new_part before p (length before) blank refl)

  mid_filled : (s t : Stage) (p q : Part) → filled (mid s p) t q ≡ mid t q
  mid_filled s t p q = filled_is s t (laid max_parts new_part (before ++ (p ∷ []))) (laid max_parts new_part (before ++ (q ∷ []))) q (laid_last max_parts new_part before p q (length before) refl)

  abbrev aged : ℕ → Part
  aged n = record { life = n; hazards = new_part.hazards; surplus = 0; dark = 0 }

  part_due : TakesNumber (reader stage.Part h (length before) before []) key.Part here here (λ n. reader stage.Life h n before [])
  part_due k v = ap (due key.Part k) (cond-true _ _ _ (lt-ltb (length before) max_parts room))

  life_due : TakesNumber (reader stage.Life h here before []) key.Life 1 most_life (λ n. mid stage.Hazard (aged n))
  life_due k v =
      ap (due key.Life k) (in_part stage.Life (laid max_parts new_part before) new_part _ (get_d_next max_parts new_part before (length before) blank refl room) ∙ (λ i. with_number (number_between v 1 most_life) (λ n. filled_is stage.Life stage.Hazard (laid max_parts new_part before) (laid max_parts new_part (before ++ (aged n ∷ []))) (aged n) (laid_next max_parts new_part before (aged n) (length before) refl room) i)))

  abbrev hazarded : Part → List ℕ → Part
  hazarded p hs = record { life = p.life; hazards = hs; surplus = p.surplus; dark = p.dark }

  hazard_due : (p : Part) → Takes (mid stage.Hazard p) key.Hazard (λ v. with_list (hazards_of v p.life) (λ hs. mid stage.Surplus (hazarded p hs)))
  hazard_due p k v = ap (due key.Hazard k) (mid_part stage.Hazard p _ ∙ (λ i. with_list (hazards_of v p.life) (λ hs. mid_filled stage.Hazard stage.Surplus p (hazarded p hs) i)))

  abbrev paid : Part → ℕ → Part
  paid p n = record { life = p.life; hazards = p.hazards; surplus = n; dark = p.dark }

  surplus_due : (p : Part) → TakesNumber (mid stage.Surplus p) key.Surplus 0 most_charge (λ n. mid stage.Dark (paid p n))
  surplus_due p k v = ap (due key.Surplus k) (mid_part stage.Surplus p _ ∙ (λ i. with_number (number_between v 0 most_charge) (λ n. mid_filled stage.Surplus stage.Dark p (paid p n) i)))

  abbrev darkened : Part → ℕ → Part
  darkened p n = record { life = p.life; hazards = p.hazards; surplus = p.surplus; dark = n }

  dark_due : (p : Part) → TakesNumber (mid stage.Dark p) key.Dark 0 most_dark (λ n. mid (behind_part h here) (darkened p n))
  dark_due p k v = ap (due key.Dark k) (mid_part stage.Dark p _ ∙ (λ i. with_number (number_between v 0 most_dark) (λ n. mid_filled stage.Dark (behind_part h here) p (darkened p n) i)))

  abbrev hazard_value : Part → List ℕ
  hazard_value p = joined (map decimal (take p.life p.hazards))

  regroup : (a b c d e m : List ℕ) → (a ++ (b ++ (c ++ (d ++ e)))) ++ m ≡ a ++ (b ++ (c ++ (d ++ (e ++ m))))
  regroup a b c d e m = simp append_assoc

  -- all lines of a part are written so, and the reading goes on behind it
  pub part_goes : (p : Part) (text : List ℕ) (last : ChainReader) (after : List ℕ) → Good p → Ends (mid (behind_part h here) p) text last after → Ends (reader stage.Part h (length before) before []) (part_text here p ++ text) last after
  part_goes p text last after good ends =
      let bare : Part = aged p.life in
      let some : Part = hazarded bare p.hazards in
      let most : Part = paid some p.surplus in
      let dark : List ℕ = number_line key.Dark p.dark ++ text in
      let surplus : List ℕ = number_line key.Surplus p.surplus ++ dark in
      let hazard : List ℕ = list_line key.Hazard (take p.life p.hazards) ++ surplus in
      let short : length (hazard_value p) ≤ widest_value = omega (arith, list_short most_hazard 5 (omega arith) (omega arith) (omega arith) (take p.life p.hazards) (front_within p good), front_long p good, good.0.0.1) in
      let e4 : Ends (mid stage.Dark most) dark last after = number_goes (mid stage.Dark most) (no_stage refl) key.Dark refl 0 most_dark (omega arith) (λ n. mid (behind_part h here) (darkened most n)) (dark_due most) p.dark text last after (omega arith) good.0.1.1 ends in
      let e3 : Ends (mid stage.Surplus some) surplus last after = number_goes (mid stage.Surplus some) (no_stage refl) key.Surplus refl 0 most_charge (omega arith) (λ n. mid stage.Dark (paid some n)) (surplus_due some) p.surplus dark last after (omega arith) good.0.1.0 e4 in
      let e2 : Ends (mid stage.Hazard bare) hazard last after = goes_due (mid stage.Hazard bare) (no_stage refl) key.Hazard refl (λ v. with_list (hazards_of v p.life) (λ hs. mid stage.Surplus (hazarded bare hs))) (mid stage.Surplus some) (hazard_value p) surplus last after (hazard_due bare) (list_printable most_hazard 5 (omega arith) (omega arith) (omega arith) (take p.life p.hazards) (front_within p good)) short (ap (λ o. with_list o (λ hs. mid stage.Surplus (hazarded bare hs))) (hazards_back p good)) e3 in
      let e1 : Ends (reader stage.Life h here before []) (number_line key.Life p.life ++ hazard) last after = number_goes (reader stage.Life h here before []) (no_stage refl) key.Life refl 1 most_life (omega arith) (λ n. mid stage.Hazard (aged n)) life_due p.life hazard last after good.0.0.0 good.0.0.1 e2 in
      let e0 : Ends (reader stage.Part h (length before) before []) (number_line key.Part here ++ (number_line key.Life p.life ++ hazard)) last after = number_goes (reader stage.Part h (length before) before []) (no_stage refl) key.Part refl here here (omega arith) (λ n. reader stage.Life h n before []) part_due here (number_line key.Life p.life ++ hazard) last after (omega arith) (omega arith) e1 in
      subst (λ t. Ends (reader stage.Part h (length before) before []) t last after) (sym (regroup (number_line key.Part here) (number_line key.Life p.life) (list_line key.Hazard (take p.life p.hazards)) (number_line key.Surplus p.surplus) (number_line key.Dark p.dark) text)) e0

  -- a reading that ended in the middle of a part: the lines that were left, the part, and what is known of it
  pub record Tail (lines : Part → List ℕ) (Known : Part → Type 0) (text : List ℕ) (last : ChainReader) (after : List ℕ) : Type 0 where
    pub part : Part
    pub rest : List ℕ
    pub whole : text ≡ lines part ++ rest
    pub known : Known part
    pub ended : Ended (mid (behind_part h here) part) rest last after

  abbrev dark_lines : Part → List ℕ
  dark_lines p = number_line key.Dark p.dark

  abbrev surplus_lines : Part → List ℕ
  surplus_lines p = number_line key.Surplus p.surplus ++ dark_lines p

  abbrev hazard_lines : Part → List ℕ
  hazard_lines p = list_line key.Hazard (take p.life p.hazards) ++ surplus_lines p

  abbrev life_lines : Part → List ℕ
  life_lines p = number_line key.Life p.life ++ hazard_lines p

  module _ (last : ChainReader) (after : List ℕ) where
    dark_tail : (p : Part) (text : List ℕ) → Ended (mid stage.Dark p) text last after → Tail dark_lines (λ q. (q.life ≡ p.life) × (q.hazards ≡ p.hazards) × (q.surplus ≡ p.surplus) × (q.dark ≤ most_dark)) text last after
    dark_tail p text ended =
        let b = number_begun (mid stage.Dark p) (no_stage refl) key.Dark refl 0 most_dark (omega arith) (λ n. mid (behind_part h here) (darkened p n)) (dark_due p) text last after ended in
        record { part = darkened p b.number; rest = b.rest; whole = b.whole; known = (refl, refl, refl, b.high); ended = b.ended }

    surplus_tail : (p : Part) (text : List ℕ) → Ended (mid stage.Surplus p) text last after → Tail surplus_lines (λ q. (q.life ≡ p.life) × (q.hazards ≡ p.hazards) × (q.surplus ≤ most_charge) × (q.dark ≤ most_dark)) text last after
    surplus_tail p text ended =
        let b = number_begun (mid stage.Surplus p) (no_stage refl) key.Surplus refl 0 most_charge (omega arith) (λ n. mid stage.Dark (paid p n)) (surplus_due p) text last after ended in
        let t = dark_tail (paid p b.number) b.rest b.ended in
        record {
          part = t.part;
          rest = t.rest;
          whole = before_lines (number_line key.Surplus t.part.surplus) b.rest text (dark_lines t.part) t.rest (b.whole ∙ ap (λ n. number_line key.Surplus n ++ b.rest) (sym t.known.2)) t.whole;
          known = (t.known.0, t.known.1, omega (arith, b.high, t.known.2), t.known.3);
          ended = t.ended;
        }

    hazard_lines_left : (life : ℕ) (text v hs rest : List ℕ) → text ≡ line_of key.Hazard v ++ rest → HazardsRead v life hs → Tail surplus_lines (λ q. (q.life ≡ life) × (q.hazards ≡ hs) × (q.surplus ≤ most_charge) × (q.dark ≤ most_dark)) rest last after → Tail hazard_lines (λ q. (q.life ≡ life) × HazardsWithin life q.hazards × (q.surplus ≤ most_charge) × (q.dark ≤ most_dark)) text last after
    hazard_lines_left life text v hs rest whole read t =
        let is : v ≡ joined (map decimal (take t.part.life t.part.hazards)) = read.is ∙ (λ i. joined (map decimal (take (sym t.known.0 i) (sym t.known.1 i)))) in
        record {
          part = t.part;
          rest = t.rest;
          whole = before_lines (list_line key.Hazard (take t.part.life t.part.hazards)) rest text (surplus_lines t.part) t.rest (whole ∙ ap (λ l. line_of key.Hazard l ++ rest) is) t.whole;
          known = (t.known.0, subst (HazardsWithin life) (sym t.known.1) (read.within, read.used), t.known.2, t.known.3);
          ended = t.ended;
        }

    hazard_tail : (life : ℕ) (text : List ℕ) → life ≤ most_life → Ended (mid stage.Hazard (aged life)) text last after → Tail hazard_lines (λ q. (q.life ≡ life) × HazardsWithin life q.hazards × (q.surplus ≤ most_charge) × (q.dark ≤ most_dark)) text last after
    hazard_tail life text few ended =
        let b = begun (mid stage.Hazard (aged life)) (no_stage refl) key.Hazard refl (λ v. with_list (hazards_of v life) (λ hs. mid stage.Surplus (hazarded (aged life) hs))) text last after (hazard_due (aged life)) ended in
        let came = list_came (hazards_of b.value life) (λ hs. mid stage.Surplus (hazarded (aged life) hs)) b.next b.step in
        hazard_lines_left life text b.value came.0 b.rest b.whole (hazards_read b.value life came.0 few came.1.0) (surplus_tail (hazarded (aged life) came.0) b.rest (subst (λ (e : ChainReader). Ended e b.rest last after) (sym came.1.1) b.ended))

    life_tail : (text : List ℕ) → Ended (reader stage.Life h here before []) text last after → Tail life_lines Good text last after
    life_tail text ended =
        let b = number_begun (reader stage.Life h here before []) (no_stage refl) key.Life refl 1 most_life (omega arith) (λ n. mid stage.Hazard (aged n)) life_due text last after ended in
        let t = hazard_tail b.number b.rest b.high b.ended in
        let hazards = subst (λ n. HazardsWithin n t.part.hazards) (sym t.known.0) t.known.1 in
        record {
          part = t.part;
          rest = t.rest;
          whole = before_lines (number_line key.Life t.part.life) b.rest text (hazard_lines t.part) t.rest (b.whole ∙ ap (λ n. number_line key.Life n ++ b.rest) (sym t.known.0)) t.whole;
          known = (((omega (arith, b.low, t.known.0), omega (arith, b.high, t.known.0)), (t.known.2, t.known.3), hazards.0), hazards.1);
          ended = t.ended;
        }

    -- it began with all lines of the part
    pub part_begun : (text : List ℕ) → Ended (reader stage.Part h (length before) before []) text last after → Tail (part_text here) Good text last after
    part_begun text ended =
        let b = number_begun (reader stage.Part h (length before) before []) (no_stage refl) key.Part refl here here (omega arith) (λ n. reader stage.Life h n before []) part_due text last after ended in
        let number : b.number ≡ here = omega (arith, b.low, b.high) in
        let t = life_tail b.rest (subst (λ n. Ended (reader stage.Life h n before []) b.rest last after) number b.ended) in
        record {
          part = t.part;
          rest = t.rest;
          whole = before_lines (number_line key.Part here) b.rest text (life_lines t.part) t.rest (b.whole ∙ ap (λ n. number_line key.Part n ++ b.rest) number) t.whole;
          known = t.known;
          ended = t.ended;
        }
