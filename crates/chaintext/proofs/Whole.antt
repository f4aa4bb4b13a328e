-- The whole text of a chain, read and written.
use Rattle.std.proofs.Common.{◌≡◌, ℕ, suc, ◌+◌, ◌-◌, ◌<◌, ◌≤◌, List, [], ◌∷◌, ◌++◌, length, get_or, take, codes, sym, refl, ap, ◌∙◌, subst, ⊎_elim, arith}
use mathlib.Core.List.Memᴰ
use Rattle.std.specs.List.{AllByRecursion as All}
use Rattle.std.proofs.ByRecursion.{All-from_get_or, All-get_or}
use Rattle.std.proofs.lemmas.List.{append_assoc, get_or-take}
use Rattle.reading.specs.Written.{line_of, number_line}
use Rattle.reading.specs.declared.keys.Key.TheVariants as key
use Rattle.workorder.specs.Orders.{NoneDearer, max_parts}
use Rattle.workorder.specs.declared.Arc.{Arc}
use Rattle.chain.specs.Limits.{most_arcs, most_charge}
use Rattle.chain.specs.Parts.{LawfulNumbers, arcs_of, blank, part_of}
use Rattle.chain.specs.declared.numbers.ChainNumbers.{ChainNumbers}
use Rattle.chain.specs.declared.numbers.Part.{Part}
use Rattle.chaintext.specs.declared.reader.ChainReader.{ChainReader}
use Rattle.chaintext.specs.declared.reader.Head.{Head}
use Rattle.chaintext.specs.declared.reader.Stage.TheVariants as stage
use Rattle.chaintext.specs.Reads.{fresh, new_part, numbers_of}
use Rattle.chaintext.specs.Counted.{CountedReads, complete_at}
use Rattle.chaintext.specs.Steps.{no_arc}
use Rattle.chaintext.specs.Writing.{ArcWithin, ArcsInOrder, Before, UsedUpTo, ZeroBeyond, arc_at, arcs_text, chain_text, parts_text}
use Rattle.chaintext.proofs.AllParts.{PartsBegun, parts_begun, parts_go}
use Rattle.chaintext.proofs.Arcs.{ArcsBegun, Orderly, arcs_begun, arcs_go, orderly_none}
use Rattle.chaintext.proofs.Heads.{GoodHead, HeadTail, head_begun, head_goes, head_lines}
use Rattle.chaintext.proofs.Lines.{Ends}
use Rattle.chaintext.proofs.Parts.{Good, reader}
use Rattle.chaintext.proofs.Tables.{get_d_used, laid, laid_front, laid_used, used_laid}

-- the text begins with that of these numbers, all in range, and this follows
pub record Wrote (text : List ℕ) (n : ChainNumbers) (after : List ℕ) : Type 0 where
  pub whole : text ≡ chain_text n ++ after
  pub lawful : LawfulNumbers n
  pub arcs : ArcsInOrder n
  pub zero : ZeroBeyond n

-- the cents of each arc
dearer_none : (m : ℕ) (arcs : List Arc) → All (λ a. a.cents ≤ m) arcs → NoneDearer m arcs
dearer_none m [] h a i = absurd (Memᴰ.not-nil i)
dearer_none m (b ∷ arcs) h a i = ⊎_elim (λ (e : a ≡ b). subst (λ (x : Arc). x.cents ≤ m) (sym e) h.0) (dearer_none m arcs h.1 a) (Memᴰ.cases_cons i)

none_dearer : (m : ℕ) (arcs : List Arc) → NoneDearer m arcs → All (λ a. a.cents ≤ m) arcs
none_dearer m [] h = tt
none_dearer m (b ∷ arcs) h = (h b (Memᴰ.head refl), none_dearer m arcs (λ a i. h a (Memᴰ.tail i)))

-- all that was read
record ChainRead (h : Head) (ps : List Part) (arcs : List Arc) : Type 0 where
  good : GoodHead h
  counted : length ps ≡ h.count
  fit : All Good ps
  orderly : Orderly h.count arcs
  fits : length arcs ≤ most_arcs

abbrev text_of : Head → List Part → List Arc → List ℕ → List ℕ
text_of h ps arcs after = head_lines h ++ (parts_text 1 ps ++ (arcs_text arcs ++ (line_of key.End (codes "plant") ++ after)))

regroup : (a b c d e f g k m : List ℕ) → (a ++ (b ++ (c ++ (d ++ (e ++ (f ++ (g ++ k))))))) ++ m ≡ (a ++ (b ++ (c ++ (d ++ e)))) ++ (f ++ (g ++ (k ++ m)))
regroup a b c d e f g k m = simp append_assoc

module _ (h : Head) (ps : List Part) (arcs : List Arc) (r : ChainRead h ps arcs) where
  abbrev n : ChainNumbers
  n = numbers_of (reader stage.Done h h.count ps arcs)

  parts_front : take h.count (laid max_parts new_part ps) ≡ ps
  parts_front = laid_front max_parts new_part ps h.count r.counted

  arcs_front : arcs_of n ≡ arcs
  arcs_front = laid_front most_arcs no_arc arcs (length arcs) refl

  chain_text_is : (after : List ℕ) → chain_text n ++ after ≡ text_of h ps arcs after
  chain_text_is after = ap (λ t. t ++ after) (λ i. line_of key.Kind (codes "chain") ++ (number_line key.Parts h.count ++ (number_line key.Threshold h.threshold ++ (number_line key.Setup h.setup ++ (number_line key.Alarm h.alarm ++ (parts_text 1 (parts_front i) ++ (arcs_text (arcs_front i) ++ line_of key.End (codes "plant")))))))) ∙ regroup (line_of key.Kind (codes "chain")) (number_line key.Parts h.count) (number_line key.Threshold h.threshold) (number_line key.Setup h.setup) (number_line key.Alarm h.alarm) (parts_text 1 ps) (arcs_text arcs) (line_of key.End (codes "plant")) after

  part_good : (i : ℕ) → 1 ≤ i → i ≤ h.count → Good (part_of n i)
  part_good i low high =
      let inside : i - 1 < length ps = omega (arith, r.counted) in
      subst Good (sym (get_d_used max_parts new_part ps (i - 1) blank inside)) (All-get_or Good ps (i - 1) blank inside r.fit)

  read_lawful : LawfulNumbers n
  read_lawful = record {
    terms = ((r.good.some, r.good.count), r.good.threshold, (r.good.setup, r.good.alarm), r.fits);
    parts = λ i low high. (part_good i low high).0;
    arcs = subst (NoneDearer most_charge) (sym arcs_front) (dearer_none most_charge arcs (All-from_get_or (λ a. a.cents ≤ most_charge) arcs no_arc (λ k l. (r.orderly.within k l).1)));
  }

  arc_is : (k : ℕ) → k < length arcs → get_or arcs k no_arc ≡ get_or (laid most_arcs no_arc arcs) k no_arc
  arc_is k l = sym (get_d_used most_arcs no_arc arcs k no_arc l)

  read_order : ArcsInOrder n
  read_order = record {
    within = λ k l. subst (ArcWithin h.count) (arc_is k l) (r.orderly.within k l).0;
    rising = λ k l. let here : k < length arcs = omega arith in subst (λ a. Before a (arc_at n (k + 1))) (arc_is k here) (subst (Before (get_or arcs k no_arc)) (arc_is (k + 1) l) (r.orderly.rising k l));
  }

  read_zero : ZeroBeyond n
  read_zero = record {
    parts = subst (λ k. UsedUpTo k max_parts new_part (laid max_parts new_part ps)) r.counted (laid_used max_parts new_part ps (omega (arith, r.counted, r.good.count)));
    hazards = λ i low high. (part_good i low high).1;
    arcs = laid_used most_arcs no_arc arcs r.fits;
  }

  read_wrote : (after : List ℕ) → Wrote (text_of h ps arcs after) n after
  read_wrote after = record { whole = sym (chain_text_is after); lawful = read_lawful; arcs = read_order; zero = read_zero }

-- from the lines that were read to the whole
module _ (last : ChainReader) (after : List ℕ) where
  whole_wrote : (text : List ℕ) (h : Head) (ps : List Part) (arcs : List Arc) → ChainRead h ps arcs → text ≡ text_of h ps arcs after → last ≡ reader stage.Done h h.count ps arcs → Wrote text (numbers_of last) after
  whole_wrote text h ps arcs r whole is =
      subst (λ t. Wrote t (numbers_of last) after) (sym whole) (subst (λ (d : ChainReader). Wrote (text_of h ps arcs after) (numbers_of d) after) (sym is) (read_wrote h ps arcs r after))

  arcs_wrote : (text rest : List ℕ) (h : Head) (good : GoodHead h) (ps : List Part) → length ps ≡ h.count → All Good ps → text ≡ head_lines h ++ (parts_text 1 ps ++ rest) → ArcsBegun h good.count h.count ps last after [] rest → Wrote text (numbers_of last) after
  arcs_wrote text rest h good ps counted fit whole a =
      whole_wrote text h ps a.more (record { good = good; counted = counted; fit = fit; orderly = a.orderly; fits = a.fits }) (whole ∙ ap (λ t. head_lines h ++ (parts_text 1 ps ++ t)) a.whole) a.is

  parts_wrote : (text rest : List ℕ) (h : Head) (good : GoodHead h) → text ≡ head_lines h ++ rest → PartsBegun h good.count last after [] (suc (h.count - 1)) rest → Wrote text (numbers_of last) after
  parts_wrote text rest h good whole p =
      let counted : length p.parts ≡ h.count = omega (arith, p.long, good.some) in
      arcs_wrote text p.rest h good p.parts counted p.good (whole ∙ ap (λ t. head_lines h ++ t) p.whole) (arcs_begun h good.count h.count p.parts last after most_arcs [] p.rest refl (orderly_none h.count) p.ended)

  head_wrote : (text : List ℕ) → HeadTail head_lines GoodHead text last after → Wrote text (numbers_of last) after
  head_wrote text t = parts_wrote text t.rest t.head t.known t.whole (parts_begun t.head t.known.count last after (t.head.count - 1) [] t.rest (omega (arith, t.known.some)) t.ended)

-- a text that was read up to the end begins with that of the numbers that were read
pub complete_wrote : (text : List ℕ) (place : ℕ) (d : ChainReader) (rest : List ℕ) (count : ℕ) → CountedReads fresh text place (complete_at d rest count) → Wrote text (numbers_of d) rest
complete_wrote text place d rest count reads = head_wrote d rest text (head_begun d rest text (place, (count, reads)))

-- and such a text is read up to the end
module _ (n : ChainNumbers) (lawful : LawfulNumbers n) (order : ArcsInOrder n) (zeros : ZeroBeyond n) where
  abbrev head_of : Head
  head_of = record { count = n.count; threshold = n.threshold; setup = n.setup; alarm = n.alarm }

  abbrev parts_of : List Part
  parts_of = take n.count n.parts

  abbrev last_of : ChainReader
  last_of = reader stage.Done head_of n.count parts_of (arcs_of n)

  parts_used : (n.parts ≡ laid max_parts new_part parts_of) × (length parts_of ≡ n.count)
  parts_used = used_laid max_parts new_part n.parts n.count lawful.terms.0.1 zeros.parts

  arcs_used : (n.arcs ≡ laid most_arcs no_arc (arcs_of n)) × (length (arcs_of n) ≡ n.arc_count)
  arcs_used = used_laid most_arcs no_arc n.arcs n.arc_count lawful.terms.3 zeros.arcs

  numbers_back : numbers_of last_of ≡ n
  numbers_back = (λ i. record { count = n.count; threshold = n.threshold; setup = n.setup; alarm = n.alarm; parts = sym parts_used.0 i; arc_count = arcs_used.1 i; arcs = sym arcs_used.0 i })

  parts_good : All Good parts_of
  parts_good = All-from_get_or Good parts_of blank good
    where
      good : (k : ℕ) → k < length parts_of → Good (get_or parts_of k blank)
      good k l =
          let low : k < n.count = omega (arith, parts_used.1) in
          let back : (k + 1) - 1 ≡ k = omega arith in
          subst Good (ap (λ j. get_or n.parts j blank) back ∙ sym (get_or-take n.count n.parts k blank low)) (lawful.parts (k + 1) (omega arith) (omega arith), zeros.hazards (k + 1) (omega arith) (omega arith))

  arcs_good : Orderly n.count (arcs_of n)
  arcs_good = record {
    within = λ k l. (subst (ArcWithin n.count) (arc_back k l) (order.within k (omega (arith, arcs_used.1))), All-get_or (λ a. a.cents ≤ most_charge) (arcs_of n) k no_arc l (none_dearer most_charge (arcs_of n) lawful.arcs));
    rising = λ k l. let here : k < length (arcs_of n) = omega arith in subst (λ a. Before a (get_or (arcs_of n) (k + 1) no_arc)) (arc_back k here) (subst (Before (arc_at n k)) (arc_back (k + 1) l) (order.rising k (omega (arith, arcs_used.1))));
  }
    where
      arc_back : (k : ℕ) → k < length (arcs_of n) → arc_at n k ≡ get_or (arcs_of n) k no_arc
      arc_back k l = sym (get_or-take n.arc_count n.arcs k no_arc (omega (arith, arcs_used.1)))

  good_head : GoodHead head_of
  good_head = record { some = lawful.terms.0.0; count = lawful.terms.0.1; threshold = lawful.terms.1; setup = lawful.terms.2.0; alarm = lawful.terms.2.1 }

  -- the arcs, then the parts before them, and then the head before these
  arcs_read : (after : List ℕ) → Ends (reader stage.Arc head_of n.count parts_of []) (arcs_text (arcs_of n) ++ (line_of key.End (codes "plant") ++ after)) last_of after
  arcs_read after = arcs_go head_of lawful.terms.0.1 n.count parts_of (arcs_of n) [] after arcs_good (omega (arith, arcs_used.1, lawful.terms.3))

  parts_read : (after text : List ℕ) (ps : List Part) → length ps ≡ n.count → All Good ps → Ends (reader stage.Arc head_of n.count ps []) text last_of after → Ends (reader stage.Part head_of 0 [] []) (parts_text 1 ps ++ text) last_of after
  parts_read after text [] long good ends = absurd (omega (arith, lawful.terms.0.0))
  parts_read after text (p ∷ ps) long good ends = parts_go head_of lawful.terms.0.1 last_of after p ps [] text (omega arith) good ends

  text_back : (after : List ℕ) → chain_text n ++ after ≡ text_of head_of parts_of (arcs_of n) after
  text_back after = regroup (line_of key.Kind (codes "chain")) (number_line key.Parts n.count) (number_line key.Threshold n.threshold) (number_line key.Setup n.setup) (number_line key.Alarm n.alarm) (parts_text 1 parts_of) (arcs_text (arcs_of n)) (line_of key.End (codes "plant")) after

  pub wrote_complete : (after : List ℕ) → Ends fresh (chain_text n ++ after) last_of after
  wrote_complete after =
      subst (λ t. Ends fresh t last_of after) (sym (text_back after)) (head_goes last_of after head_of (parts_text 1 parts_of ++ (arcs_text (arcs_of n) ++ (line_of key.End (codes "plant") ++ after))) good_head (parts_read after (arcs_text (arcs_of n) ++ (line_of key.End (codes "plant") ++ after)) parts_of parts_used.1 parts_good (arcs_read after)))

-- the reader with these numbers, which reading such a text comes to
pub record Completed (text : List ℕ) (n : ChainNumbers) (after : List ℕ) (place : ℕ) : Type 0 where
  pub reader : ChainReader
  pub count : ℕ
  pub reads : CountedReads fresh text place (complete_at reader after count)
  pub numbers : numbers_of reader ≡ n

pub completed : (text : List ℕ) (n : ChainNumbers) (after : List ℕ) (place : ℕ) → Wrote text n after → Completed text n after place
completed text n after place w =
    let ends = wrote_complete n w.lawful w.arcs w.zero after place in
    record {
      reader = last_of n w.lawful w.arcs w.zero;
      count = ends.0;
      reads = subst (λ t. CountedReads fresh t place (complete_at (last_of n w.lawful w.arcs w.zero) after ends.0)) (sym w.whole) ends.1;
      numbers = numbers_back n w.lawful w.arcs w.zero;
    }
