-- The lines of the arcs up to the end, read and written.
use Rattle.std.proofs.Common.{◌≡◌, ℕ, zero, suc, ◌+◌, ◌-◌, ◌<◌, ◌≤◌, Bool, true, false, cond, ◌&&◌, leb, ◌⊎◌, List, [], ◌∷◌, ◌++◌, map, length, get_or, Some, None, Ok, Err, codes, decimal, Decides, Option, sym, refl, ap, ◌∙◌, subst, inl, inr, ⊎_elim, arith}
use Rattle.std.specs.List.{AllByRecursion as All}
use Rattle.std.specs.Str.{bytes_eq}
use Rattle.std.proofs.lemmas.List.{append_assoc, append-nil, get_or_append_left, get_or_at, get_or_push, length-append, length_push}
use Rattle.std.proofs.lemmas.Bool.{and_from, and_parts, cases_lt, cond-true, eq-eqb, eqb-true, le-leb, leb-true, lt-ltb, ltb-true, or_cases, or_left, or_right}
use Rattle.std.proofs.lemmas.Bool.Decides.{Decides-and, Decides-eqb, Decides-ltb, Decides-not, Decides-or}
use Rattle.lines.specs.Fields.{joined}
use Rattle.reading.specs.Keys.{name_of, key_of}
use Rattle.reading.specs.Values.{list_of}
use Rattle.reading.specs.Written.{line_of}
use Rattle.reading.specs.declared.keys.Key.TheVariants as key
use Rattle.reading.specs.declared.rules.Rule.TheVariants.{WrongArc}
use Rattle.reading.proofs.ValueLaws.{list_law}
use Rattle.reading.proofs.WrittenLaws.{widest_value, list_printable, list_short, plain_bytes}
use Rattle.workorder.specs.Orders.{max_parts}
use Rattle.workorder.specs.declared.Arc.{Arc}
use Rattle.chain.specs.Limits.{most_charge, most_arcs}
use Rattle.chain.specs.declared.numbers.Part.{Part}
use Rattle.chaintext.specs.declared.reader.ChainReader.{ChainReader}
use Rattle.chaintext.specs.declared.reader.Head.{Head}
use Rattle.chaintext.specs.declared.reader.Stage.TheVariants as stage
use Rattle.chaintext.specs.Counted.{done_at}
use Rattle.chaintext.specs.Steps.{add_arc, arc_by, arc_of, arc_step, behind, due, end_step, no_arc, rising, room, straight, with_arc}
use Rattle.chaintext.specs.Writing.{ArcWithin, Before, arc_text, arcs_text}
use Rattle.chaintext.proofs.Lines.{Begun, Ended, Ends, LineRead, begun_with, done_ended, due_came, goes, line_read, word_came}
use Rattle.chaintext.proofs.Parts.{no_stage, reader}
use Rattle.chaintext.proofs.Tables.{get_d_used, laid, laid_next}

-- an arc of a chain of so many parts, with its cents in range
abbrev pub GoodArc : ℕ → Arc → Type 0
GoodArc count a = ArcWithin count a × (a.cents ≤ most_charge)

-- arcs in range and in order
pub record Orderly (count : ℕ) (arcs : List Arc) : Type 0 where
  pub within : (k : ℕ) → k < length arcs → GoodArc count (get_or arcs k no_arc)
  pub rising : (k : ℕ) → k + 1 < length arcs → Before (get_or arcs k no_arc) (get_or arcs (k + 1) no_arc)

-- an arc that may follow these
abbrev Follows : List Arc → Arc → Type 0
Follows arcs a = 0 < length arcs → Before (get_or arcs (length arcs - 1) no_arc) a

pub orderly_none : (count : ℕ) → Orderly count []
orderly_none count = record { within = λ k l. absurd (omega arith); rising = λ k l. absurd (omega arith) }

orderly_more : (count : ℕ) (arcs : List Arc) (a : Arc) → Orderly count arcs → GoodArc count a → Follows arcs a → Orderly count (arcs ++ (a ∷ []))
orderly_more count arcs a o good follows = record { within = within; rising = after }
  where
    left : (k : ℕ) → k < length arcs → get_or arcs k no_arc ≡ get_or (arcs ++ (a ∷ [])) k no_arc
    left k l = sym (get_or_append_left arcs (a ∷ []) no_arc k l)

    within : (k : ℕ) → k < length (arcs ++ (a ∷ [])) → GoodArc count (get_or (arcs ++ (a ∷ [])) k no_arc)
    within k l = ⊎_elim
        (λ (m : k < length arcs). subst (GoodArc count) (left k m) (o.within k m))
        (λ (m : length arcs ≤ k).
        let last : length arcs ≡ k = omega (arith, length_push arcs a) in
        subst (GoodArc count) (sym (get_or_push arcs a no_arc k last)) good)
        (cases_lt k (length arcs))

    after : (k : ℕ) → k + 1 < length (arcs ++ (a ∷ [])) → Before (get_or (arcs ++ (a ∷ [])) k no_arc) (get_or (arcs ++ (a ∷ [])) (k + 1) no_arc)
    after k l =
        let here : k < length arcs = omega (arith, length_push arcs a) in
        ⊎_elim
        (λ (m : k + 1 < length arcs). subst (λ x. Before x (get_or (arcs ++ (a ∷ [])) (k + 1) no_arc)) (left k here) (subst (Before (get_or arcs k no_arc)) (left (k + 1) m) (o.rising k m)))
        (λ (m : length arcs ≤ k + 1).
        let last : length arcs ≡ k + 1 = omega arith in
        let back : length arcs - 1 ≡ k = omega arith in
        subst (λ x. Before x (get_or (arcs ++ (a ∷ [])) (k + 1) no_arc)) (left k here) (subst (Before (get_or arcs k no_arc)) (sym (get_or_push arcs a no_arc (k + 1) last)) (subst (λ j. Before (get_or arcs j no_arc) a) back (follows (omega arith)))))
        (cases_lt (k + 1) (length arcs))

-- an arc in the middle of such arcs
orderly_at : (count : ℕ) (arcs : List Arc) (a : Arc) (more : List Arc) → Orderly count (arcs ++ (a ∷ more)) → GoodArc count a × Follows arcs a
orderly_at count arcs a more o = (
  subst (GoodArc count) (get_or_at arcs a more no_arc (length arcs) refl) (o.within (length arcs) (omega (arith, length-append arcs (a ∷ more)))),
  (λ some.
      let next : (length arcs - 1) + 1 ≡ length arcs = omega arith in
      let here : get_or (arcs ++ (a ∷ more)) (length arcs - 1 + 1) no_arc ≡ a = ap (λ k. get_or (arcs ++ (a ∷ more)) k no_arc) next ∙ get_or_at arcs a more no_arc (length arcs) refl in
      let before : get_or (arcs ++ (a ∷ more)) (length arcs - 1) no_arc ≡ get_or arcs (length arcs - 1) no_arc = get_or_append_left arcs (a ∷ more) no_arc (length arcs - 1) (omega arith) in
      let r = o.rising (length arcs - 1) (omega (arith, length-append arcs (a ∷ more))) in
      subst (λ x. Before x a) before (subst (Before (get_or (arcs ++ (a ∷ more)) (length arcs - 1) no_arc)) here r)),
)

-- the tests of the reader say the same
behind_decides : (a b : Arc) → Decides (behind a b) (Before a b)
behind_decides a b = Decides-or _ _ (Decides-ltb a.from b.from) (Decides-and _ _ (Decides-eqb a.from b.from) (Decides-ltb a.to b.to))

straight_decides : (a : Arc) → Decides (straight a) ((0 < a.to) × (a.from ≡ a.to → ⊥))
straight_decides a = Decides-and _ _ (Decides-ltb 0 a.to) (Decides-not _ (Decides-eqb a.from a.to))

-- a list of three numbers
three_of : (ns : List ℕ) → length ns ≡ 3 → ns ≡ get_or ns 0 0 ∷ (get_or ns 1 0 ∷ (get_or ns 2 0 ∷ []))
three_of [] e = absurd (omega arith)
three_of (x ∷ []) e = absurd (omega arith)
three_of (x ∷ (y ∷ [])) e = absurd (omega arith)
three_of (x ∷ (y ∷ (z ∷ []))) e = refl
three_of (x ∷ (y ∷ (z ∷ (w ∷ ns)))) e = absurd (omega arith)

abbrev numbers : Arc → List ℕ
numbers a = a.from ∷ (a.to ∷ (a.cents ∷ []))

-- an arc that was read
record ArcRead (v : List ℕ) (most : ℕ) (a : Arc) : Type 0 where
  is : v ≡ joined (map decimal (numbers a))
  from : a.from ≤ most
  to : a.to ≤ most
  cents : a.cents ≤ most_charge

arc_read : (v : List ℕ) (most : ℕ) (a : Arc) → arc_of v most ≡ Some a → ArcRead v most a
arc_read v most a e = found (list_of v most_charge 3) refl e
  where
    found : (o : Option (List ℕ)) → list_of v most_charge 3 ≡ o → arc_by most o ≡ Some a → ArcRead v most a
    found None q e = let z : ◌≡◌ {A = ℕ} 0 1 = cc in absurd (omega arith)
    found (Some ns) q e = tested (leb (get_or ns 0 0) most && leb (get_or ns 1 0) most) refl e
      where
        tested : (t : Bool) → (leb (get_or ns 0 0) most && leb (get_or ns 1 0) most) ≡ t → cond t (Some (record { from = get_or ns 0 0; to = get_or ns 1 0; cents = get_or ns 2 0 })) None ≡ Some a → ArcRead v most a
        tested false p e = let z : ◌≡◌ {A = ℕ} 0 1 = cc in absurd (omega arith)
        tested true p e =
            let law = (list_law v most_charge 3 (omega arith) ns).0 q in
            let parts = and_parts (leb (get_or ns 0 0) most) (leb (get_or ns 1 0) most) p in
            let three : ns ≡ get_or ns 0 0 ∷ (get_or ns 1 0 ∷ (get_or ns 2 0 ∷ [])) = three_of ns law.2 in
            let each = subst (All (λ n. n ≤ most_charge)) three law.3 in
            let same : record { from = get_or ns 0 0; to = get_or ns 1 0; cents = get_or ns 2 0 } ≡ a = cc in
            subst (ArcRead v most) same (record { is = law.0 ∙ ap (λ l. joined (map decimal l)) three; from = leb-true _ _ parts.0; to = leb-true _ _ parts.1; cents = each.1.1.0 })

module _ (count : ℕ) (few : count ≤ max_parts) (a : Arc) (good : GoodArc count a) where
  numbers_within : All (λ n. n ≤ most_charge) (numbers a)
  numbers_within = (omega (arith, good.0.from), (omega (arith, good.0.to), (good.1, tt)))

  arc_back : arc_of (joined (map decimal (numbers a))) count ≡ Some a
  arc_back =
      ap (arc_by count) ((list_law (joined (map decimal (numbers a))) most_charge 3 (omega arith) (numbers a)).1 (refl, omega arith, refl, numbers_within)) ∙ cond-true _ _ _ (and_from _ _ (le-leb a.from count good.0.from) (le-leb a.to count good.0.to))

-- the arcs of a chain with this head and these parts
module _ (h : Head) (few : h.count ≤ max_parts) (o : ℕ) (ps : List Part) where
  abbrev at : List Arc → ChainReader
  at arcs = reader stage.Arc h o ps arcs

  arc_added : (arcs : List Arc) (a : Arc) → length arcs < most_arcs → with_arc (at arcs) a ≡ at (arcs ++ (a ∷ []))
  arc_added arcs a free = (λ i. record { stage = stage.Arc; head = h; opened = o; parts = (at arcs).parts; arc_count = sym (length_push arcs a) i; arcs = laid_next most_arcs no_arc arcs a (length arcs) refl free i })

  -- what the reader has found, where it took an arc
  record Added (arcs : List Arc) (v : List ℕ) (next : ChainReader) : Type 0 where
    arc : Arc
    read : ArcRead v h.count arc
    free : length arcs < most_arcs
    fit : straight arc ≡ true
    follows : rising (at arcs) arc ≡ true
    is : at (arcs ++ (arc ∷ [])) ≡ next

  added : (arcs : List Arc) (v : List ℕ) (next : ChainReader) → arc_step (at arcs) v ≡ Ok next → Added arcs v next
  added arcs v next e = found (arc_of v h.count) refl e
    where
      found : (p : Option Arc) → arc_of v h.count ≡ p → add_arc (at arcs) p ≡ Ok next → Added arcs v next
      found None q e = let z : ◌≡◌ {A = ℕ} 0 1 = cc in absurd (omega arith)
      found (Some a) q e = tested (room (at arcs) && (straight a && rising (at arcs) a)) refl e
        where
          tested : (t : Bool) → (room (at arcs) && (straight a && rising (at arcs) a)) ≡ t → cond t (Ok (with_arc (at arcs) a)) (Err WrongArc) ≡ Ok next → Added arcs v next
          tested false p e = let z : ◌≡◌ {A = ℕ} 0 1 = cc in absurd (omega arith)
          tested true p e =
              let first = and_parts (room (at arcs)) (straight a && rising (at arcs) a) p in
              let second = and_parts (straight a) (rising (at arcs) a) first.1 in
              let free : length arcs < most_arcs = ltb-true _ _ first.0 in
              let made : with_arc (at arcs) a ≡ next = cc in
              record { arc = a; read = arc_read v h.count a q; free = free; fit = second.0; follows = second.1; is = sym (arc_added arcs a free) ∙ made }

  -- the test of the order says what it should
  follows_read : (arcs : List Arc) (a : Arc) → rising (at arcs) a ≡ true → Follows arcs a
  follows_read arcs a e some =
      let last : get_or (laid most_arcs no_arc arcs) (length arcs - 1) no_arc ≡ get_or arcs (length arcs - 1) no_arc = get_d_used most_arcs no_arc arcs (length arcs - 1) no_arc (omega arith) in
      ⊎_elim
      (λ z. let none : length arcs ≡ 0 = eqb-true (length arcs) 0 z in absurd (omega arith))
      (λ b. subst (λ x. Before x a) last ((behind_decides (get_or (laid most_arcs no_arc arcs) (length arcs - 1) no_arc) a).0 (and_parts _ _ b).1))
      (or_cases _ _ e)

  follows_back : (arcs : List Arc) (a : Arc) → length arcs ≤ most_arcs → Follows arcs a → rising (at arcs) a ≡ true
  follows_back arcs a fits follows = ⊎_elim
      (λ (some : 0 < length arcs).
      let last : get_or (laid most_arcs no_arc arcs) (length arcs - 1) no_arc ≡ get_or arcs (length arcs - 1) no_arc = get_d_used most_arcs no_arc arcs (length arcs - 1) no_arc (omega arith) in
      or_right _ _ (and_from _ _ (le-leb (length arcs) most_arcs fits) ((behind_decides (get_or (laid most_arcs no_arc arcs) (length arcs - 1) no_arc) a).1 (subst (λ x. Before x a) (sym last) (follows some)))))
      (λ (none : length arcs ≤ 0). or_left _ _ (eq-eqb (length arcs) 0 (omega arith)))
      (cases_lt 0 (length arcs))

  -- a reading that ended began with an arc or with the end
  module _ (last : ChainReader) (after : List ℕ) where
    arc_or_end : (arcs : List Arc) (text : List ℕ) → Ended (at arcs) text last after → Begun key.Arc (arc_step (at arcs)) text last after ⊎ Begun key.End (end_step (at arcs)) text last after
    arc_or_end arcs text (place, (count, reads)) = by_key (line_read last after count (no_stage refl) reads refl)
      where
        by_key : LineRead (at arcs) text last after → Begun key.Arc (arc_step (at arcs)) text last after ⊎ Begun key.End (end_step (at arcs)) text last after
        by_key l = tested (bytes_eq (name_of (key_of l.name)) (name_of key.Arc)) refl l.step
          where
            tested : (t : Bool) → bytes_eq (name_of (key_of l.name)) (name_of key.Arc) ≡ t → cond t (arc_step (at arcs) l.value) (due key.End (key_of l.name) (end_step (at arcs) l.value)) ≡ Ok l.next → Begun key.Arc (arc_step (at arcs)) text last after ⊎ Begun key.End (end_step (at arcs)) text last after
            tested true q e = inl (begun_with (at arcs) (no_stage refl) key.Arc refl (arc_step (at arcs)) text last after l q e)
            tested false q e =
                let came = due_came (bytes_eq (name_of (key_of l.name)) (name_of key.End)) (end_step (at arcs) l.value) l.next e in
                inr (begun_with (at arcs) (no_stage refl) key.End refl (end_step (at arcs)) text last after l came.0 came.1)

    -- all arcs that were left, up to the end
    pub record ArcsBegun (arcs : List Arc) (text : List ℕ) : Type 0 where
      pub more : List Arc
      pub whole : text ≡ arcs_text more ++ (line_of key.End (codes "plant") ++ after)
      pub is : last ≡ reader stage.Done h o ps (arcs ++ more)
      pub orderly : Orderly h.count (arcs ++ more)
      pub fits : length (arcs ++ more) ≤ most_arcs

    end_begun : (arcs : List Arc) (text : List ℕ) → length arcs ≤ most_arcs → Orderly h.count arcs → Begun key.End (end_step (at arcs)) text last after → ArcsBegun arcs text
    end_begun arcs text fits orderly b =
        let came = word_came b.value (codes "plant") (reader stage.Done h o ps arcs) b.next b.step in
        let here = subst (λ (d : ChainReader). Ended d b.rest last after) (sym came.1) b.ended in
        let end = done_ended last after here.1.0 refl here.1.1 refl in
        let same : arcs ≡ arcs ++ [] = sym (append-nil arcs) in
        record {
          more = [];
          whole = b.whole ∙ (λ i. line_of key.End (came.0 i) ++ end.1 i);
          is = sym end.0 ∙ ap (λ l. reader stage.Done h o ps l) same;
          orderly = subst (Orderly h.count) same orderly;
          fits = subst (λ l. length l ≤ most_arcs) same fits;
        }

    arc_begun : (arcs : List Arc) (text : List ℕ) (a : Arc) (rest : List ℕ) → text ≡ arc_text a ++ rest → ArcsBegun (arcs ++ (a ∷ [])) rest → ArcsBegun arcs text
    arc_begun arcs text a rest whole b =
        let same : (arcs ++ (a ∷ [])) ++ b.more ≡ arcs ++ (a ∷ b.more) = append_assoc arcs (a ∷ []) b.more in
        record {
          more = a ∷ b.more;
          whole = whole ∙ ap (λ t. arc_text a ++ t) b.whole ∙ sym (append_assoc (arc_text a) (arcs_text b.more) (line_of key.End (codes "plant") ++ after));
          is = b.is ∙ ap (λ l. reader stage.Done h o ps l) same;
          orderly = subst (Orderly h.count) same b.orderly;
          fits = subst (λ l. length l ≤ most_arcs) same b.fits;
        }

    good_read : (v : List ℕ) (a : Arc) → ArcRead v h.count a → straight a ≡ true → GoodArc h.count a
    good_read v a r fit = let s = (straight_decides a).0 fit in (record { from = r.from; some = s.0; to = r.to; apart = s.1 }, r.cents)

    pub arcs_begun : (j : ℕ) (arcs : List Arc) (text : List ℕ) → length arcs + j ≡ most_arcs → Orderly h.count arcs → Ended (at arcs) text last after → ArcsBegun arcs text
    arcs_begun zero arcs text e orderly ended = ⊎_elim
        (λ b. let a = added arcs b.value b.next b.step in absurd (omega (arith, a.free)))
        (λ b. end_begun arcs text (omega arith) orderly b)
        (arc_or_end arcs text ended)
    arcs_begun (suc j) arcs text e orderly ended = ⊎_elim
        (λ b.
        let a = added arcs b.value b.next b.step in
        let more = orderly_more h.count arcs a.arc orderly (good_read b.value a.arc a.read a.fit) (follows_read arcs a.arc a.follows) in
        arc_begun arcs text a.arc b.rest (b.whole ∙ ap (λ v. line_of key.Arc v ++ b.rest) a.read.is) (arcs_begun j (arcs ++ (a.arc ∷ [])) b.rest (omega (arith, length_push arcs a.arc)) more (subst (λ (d : ChainReader). Ended d b.rest last after) (sym a.is) b.ended)))
        (λ b. end_begun arcs text (omega arith) orderly b)
        (arc_or_end arcs text ended)

  -- an arc is written so, and the reading goes on behind it
  arc_goes : (arcs : List Arc) (a : Arc) (text : List ℕ) (last : ChainReader) (after : List ℕ) → length arcs < most_arcs → GoodArc h.count a → Follows arcs a → Ends (at (arcs ++ (a ∷ []))) text last after → Ends (at arcs) (arc_text a ++ text) last after
  arc_goes arcs a text last after free good follows ends =
      let within = numbers_within h.count few a good in
      let short : length (joined (map decimal (numbers a))) ≤ widest_value = omega (arith, list_short most_charge 7 (omega arith) (omega arith) (omega arith) (numbers a) within) in
      let fit : straight a ≡ true = (straight_decides a).1 (good.0.some, good.0.apart) in
      let tests : (room (at arcs) && (straight a && rising (at arcs) a)) ≡ true = and_from _ _ (lt-ltb (length arcs) most_arcs free) (and_from _ _ fit (follows_back arcs a (omega arith) follows)) in
      let step : arc_step (at arcs) (joined (map decimal (numbers a))) ≡ Ok (at (arcs ++ (a ∷ []))) = ap (add_arc (at arcs)) (arc_back h.count few a good) ∙ cond-true _ _ _ tests ∙ ap Ok (arc_added arcs a free) in
      goes (at arcs) (no_stage refl) key.Arc refl (at (arcs ++ (a ∷ []))) (joined (map decimal (numbers a))) text last after (list_printable most_charge 7 (omega arith) (omega arith) (omega arith) (numbers a) within) short step ends

  -- all arcs and the end
  pub arcs_go : (more arcs : List Arc) (after : List ℕ) → Orderly h.count (arcs ++ more) → length (arcs ++ more) ≤ most_arcs → Ends (at arcs) (arcs_text more ++ (line_of key.End (codes "plant") ++ after)) (reader stage.Done h o ps (arcs ++ more)) after
  arcs_go [] arcs after orderly fits =
      subst (λ l. Ends (at arcs) (line_of key.End (codes "plant") ++ after) (reader stage.Done h o ps l) after) (sym (append-nil arcs)) (goes (at arcs) (no_stage refl) key.End refl (reader stage.Done h o ps arcs) (codes "plant") after (reader stage.Done h o ps arcs) after (plain_bytes (codes "plant") refl).1 (leb-true (length (codes "plant")) widest_value refl) refl (λ place. (place, done_at refl)))
  arcs_go (a ∷ more) arcs after orderly fits =
      let here = orderly_at h.count arcs a more orderly in
      let free : length arcs < most_arcs = omega (arith, length-append arcs (a ∷ more)) in
      let same : (arcs ++ (a ∷ [])) ++ more ≡ arcs ++ (a ∷ more) = append_assoc arcs (a ∷ []) more in
      let rest : List ℕ = line_of key.End (codes "plant") ++ after in
      let ends = arcs_go more (arcs ++ (a ∷ [])) after (subst (Orderly h.count) (sym same) orderly) (subst (λ l. length l ≤ most_arcs) (sym same) fits) in
      let goal = arc_goes arcs a (arcs_text more ++ rest) (reader stage.Done h o ps (arcs ++ (a ∷ more))) after free here.0 here.1 (subst (λ l. Ends (at (arcs ++ (a ∷ []))) (arcs_text more ++ rest) (reader stage.Done h o ps l) after) same ends) in
      subst (λ t. Ends (at arcs) t (reader stage.Done h o ps (arcs ++ (a ∷ more))) after) (sym (append_assoc (arc_text a) (arcs_text more) rest)) goal
