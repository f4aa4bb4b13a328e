-- The laws of the line at the front of a text.
use Rattle.std.proofs.Common.{◌≡◌, ℕ, ◌+◌, ◌<◌, ◌≤◌, Bool, true, false, cond, ◌&&◌, eqb, leb, ◌⊎◌, List, [], ◌∷◌, ◌++◌, length, Some, None, Decides, Option, sym, refl, ap, ◌∙◌, subst, inl, inr, ⊎_elim, arith}
use Rattle.std.specs.List.{AllByRecursion, list_all}
use Rattle.std.proofs.ByRecursion.{All-append, All-weaker, Decides-by_and}
use Rattle.std.proofs.lemmas.List.{append_assoc, length-append}
use Rattle.std.proofs.lemmas.Bool.{leb-true, le-leb, ne_eqb, eqb-false, and_from, and_parts, cond-true, cond-false}
use Rattle.std.proofs.lemmas.Bool.Decides.{Decides-and}
use Rattle.lines.specs.Cuts.{cut_at, Free, CutFirst}
use Rattle.lines.specs.Line.{line_end, equals_sign, longest_line, lowest_byte, highest_byte, bad_line, ends_early, Said, pair, fault, printable, all_printable, keyed, line_of, line_before, line_at, behind, left_by, rest_at, Printable, Begins, ReadsAs}
use Rattle.lines.proofs.CutLaws.{cut_law, cut_none, cut_some}

-- the test of each byte of a line
pub printable_all : (xs : List ℕ) → list_all printable xs ≡ all_printable xs
printable_all [] = refl
printable_all (x ∷ xs) = ap (λ t. printable x && t) (printable_all xs)

printable_decides : (b : ℕ) → Decides (printable b) (Printable b)
printable_decides b = Decides-and _ _ (leb-true lowest_byte b, le-leb lowest_byte b) (leb-true b highest_byte, le-leb b highest_byte)

all_decides : (bs : List ℕ) → Decides (all_printable bs) (AllByRecursion Printable bs)
all_decides bs = Decides-by_and printable Printable all_printable printable_decides refl (λ _ _. refl) bs

free_printable : (bs : List ℕ) → AllByRecursion Printable bs → Free line_end bs
free_printable bs h = All-weaker Printable (λ x. x ≡ line_end → ⊥) (λ x p e. omega (arith, p.0)) bs h

-- from the parts of a line to what is read
module _ (text k v rest : List ℕ) (b : Begins text k v rest) where
  line_bytes : AllByRecursion Printable (k ++ (equals_sign ∷ v))
  line_bytes = All-append Printable k (equals_sign ∷ v) b.key ((omega arith, omega arith), b.value)

  line_cut : cut_at line_end text ≡ Some (k ++ (equals_sign ∷ v), rest)
  line_cut = ap (cut_at line_end) (b.whole ∙ sym (append_assoc k (equals_sign ∷ v) (line_end ∷ rest))) ∙ cut_some line_end _ rest (free_printable _ line_bytes)

  line_fits : (leb (length (k ++ (equals_sign ∷ v))) longest_line && all_printable (k ++ (equals_sign ∷ v))) ≡ true
  line_fits =
      let short : length (k ++ (equals_sign ∷ v)) ≤ longest_line = omega (arith, length-append k (equals_sign ∷ v), b.short) in
      and_from _ _ (le-leb _ _ short) ((all_decides _).1 line_bytes)

  line_said : line_of (k ++ (equals_sign ∷ v)) ≡ pair k v
  line_said = cond-true _ _ _ line_fits ∙ ap keyed (cut_some equals_sign k v b.first) ∙ cond-false _ _ _ (ne_eqb (length k) 0 (λ e. omega (arith, b.named)))

  pub begins_line : line_at text ≡ pair k v
  begins_line = ap line_before line_cut ∙ line_said

  pub begins_rest : rest_at text ≡ rest
  begins_rest = ap (λ s. left_by s text) begins_line ∙ ap (λ c. behind c text) line_cut

-- from what is read to the parts of a line
record Parts (l k v : List ℕ) : Type 0 where
  whole : l ≡ k ++ (equals_sign ∷ v)
  named : 0 < length k
  first : Free equals_sign k
  bytes : AllByRecursion Printable l
  short : length l ≤ longest_line

never : {P : Type 0} (n : ℕ) (k v : List ℕ) → fault n ≡ pair k v → P
never n k v e = let z : ◌≡◌ {A = ℕ} 0 1 = cc in absurd (omega arith)

keyed_back : (l k v : List ℕ) (c : Option (List ℕ × List ℕ)) → CutFirst equals_sign l c → keyed c ≡ pair k v → (l ≡ k ++ (equals_sign ∷ v)) × (0 < length k) × Free equals_sign k
keyed_back l k v None h e = never bad_line k v e
keyed_back l k v (Some c) h e = sided (eqb (length c.0) 0) refl e
  where
    sided : (t : Bool) → eqb (length c.0) 0 ≡ t → cond t (fault bad_line) (pair c.0 c.1) ≡ pair k v → (l ≡ k ++ (equals_sign ∷ v)) × (0 < length k) × Free equals_sign k
    sided true q e = never bad_line k v e
    sided false q e =
        let front : c.0 ≡ k = cc in
        let back : c.1 ≡ v = cc in
        let cut : l ≡ c.0 ++ (equals_sign ∷ c.1) = h.1 in
        let some : (length c.0 ≡ 0 → ⊥) = eqb-false _ 0 q in
        (cc, omega (arith, ap length front), subst (Free equals_sign) front h.0)

line_back : (l k v : List ℕ) → line_of l ≡ pair k v → Parts l k v
line_back l k v e = judged (leb (length l) longest_line && all_printable l) refl e
  where
    judged : (t : Bool) → (leb (length l) longest_line && all_printable l) ≡ t → cond t (keyed (cut_at equals_sign l)) (fault bad_line) ≡ pair k v → Parts l k v
    judged false q e = never bad_line k v e
    judged true q e =
        let tests = and_parts _ _ q in
        let sides = keyed_back l k v (cut_at equals_sign l) (cut_law equals_sign l) e in
        record { whole = sides.0; named = sides.1; first = sides.2; bytes = (all_decides l).0 tests.1; short = leb-true _ _ tests.0 }

all_left : (xs ys : List ℕ) → AllByRecursion Printable (xs ++ ys) → AllByRecursion Printable xs × AllByRecursion Printable ys
all_left [] ys h = (tt, h)
all_left (x ∷ xs) ys h = let rest = all_left xs ys h.1 in ((h.0, rest.0), rest.1)

cut_back : (text k v : List ℕ) (c : Option (List ℕ × List ℕ)) → CutFirst line_end text c → line_before c ≡ pair k v → Begins text k v (behind c text)
cut_back text k v None h e = never ends_early k v e
cut_back text k v (Some c) h e =
    let p = line_back c.0 k v e in
    let bytes = all_left k (equals_sign ∷ v) (subst (AllByRecursion Printable) p.whole p.bytes) in
    record {
      whole = h.1 ∙ ap (λ l. l ++ (line_end ∷ c.1)) p.whole ∙ append_assoc k (equals_sign ∷ v) (line_end ∷ c.1);
      named = p.named;
      first = p.first;
      key = bytes.0;
      value = bytes.1.1;
      short = omega (arith, p.short, ap length p.whole, length-append k (equals_sign ∷ v));
    }

pub line_begins : (text k v : List ℕ) → line_at text ≡ pair k v → Begins text k v (rest_at text)
line_begins text k v e = subst (Begins text k v) (sym (ap (λ s. left_by s text) e)) (cut_back text k v (cut_at line_end text) (cut_law line_end text) e)

-- a line that ended is a pair, or it is bad
abbrev Ended : Said → Type 0
Ended s = (s ≡ fault bad_line) ⊎ ((k : List ℕ) × ((v : List ℕ) × (s ≡ pair k v)))

ended_keyed : (c : Option (List ℕ × List ℕ)) → Ended (keyed c)
ended_keyed None = inl refl
ended_keyed (Some c) = elim (eqb (length c.0) 0) as (λ t. Ended (cond t (fault bad_line) (pair c.0 c.1))) [ true ↦ inl refl | false ↦ inr (c.0, (c.1, refl)) ]

ended : (l : List ℕ) → Ended (line_of l)
ended l = elim (leb (length l) longest_line && all_printable l) as (λ t. Ended (cond t (keyed (cut_at equals_sign l)) (fault bad_line))) [ true ↦ ended_keyed (cut_at equals_sign l) | false ↦ inl refl ]

apart : {P : Type 0} (s : Said) → s ≡ fault ends_early → s ≡ fault bad_line → P
apart s p q = let z : ◌≡◌ {A = ℕ} ends_early bad_line = cc in absurd (omega arith)

module _ (text : List ℕ) where
  early_if : Free line_end text → line_at text ≡ fault ends_early
  early_if h = ap line_before (cut_none line_end text h)

  early_only : (c : Option (List ℕ × List ℕ)) → CutFirst line_end text c → line_before c ≡ fault ends_early → Free line_end text
  early_only None h e = h
  early_only (Some c) h e = ⊎_elim (λ bad. apart (line_of c.0) e bad) (λ p. never ends_early p.0 p.1.0 (sym e ∙ p.1.1)) (ended c.0)

  bad_if : (c : Option (List ℕ × List ℕ)) → CutFirst line_end text c → (Free line_end text → ⊥) → ((k v : List ℕ) → line_before c ≡ pair k v → ⊥) → line_before c ≡ fault bad_line
  bad_if None h some none = absurd (some h)
  bad_if (Some c) h some none = ⊎_elim (λ bad. bad) (λ p. absurd (none p.0 p.1.0 p.1.1)) (ended c.0)

  -- the first line of each text is as the relation says
  pub line_law : ReadsAs text (line_at text) (rest_at text)
  line_law = record {
    line = λ k v after. ((λ h. subst (Begins text k v) h.1 (line_begins text k v h.0)), λ b. (begins_line text k v after b, begins_rest text k v after b));
    early = (early_only (cut_at line_end text) (cut_law line_end text), early_if);
    bad = ((λ e. ((λ h. apart (line_at text) (early_if h) e), λ k v after b. never bad_line k v (sym e ∙ begins_line text k v after b))), λ h. bad_if (cut_at line_end text) (cut_law line_end text) h.0 (λ k v e. h.1 k v (rest_at text) (line_begins text k v e)));
    stays = λ n e. ap (λ s. left_by s text) e;
  }

-- a pair takes three bytes or more
pub pair_bytes : (text k v rest : List ℕ) → Begins text k v rest → length rest + 3 ≤ length text
pair_bytes text k v rest b = omega (arith, b.named, ap length b.whole, length-append k (equals_sign ∷ (v ++ (line_end ∷ rest))), length-append v (line_end ∷ rest))

-- the law, at the line and the rest that were found
pub found_law : (text rest : List ℕ) (s : Said) → s ≡ line_at text → rest ≡ rest_at text → ReadsAs text s rest
found_law text rest s e f = subst (λ z. ReadsAs text z rest) (sym e) (subst (ReadsAs text (line_at text)) (sym f) (line_law text))

-- what a pair leaves of a text is shorter, so a loop over the lines ends
pub rest_shorter : (text k v : List ℕ) → line_at text ≡ pair k v → length (rest_at text) + 3 ≤ length text
rest_shorter text k v e = pair_bytes text k v (rest_at text) (line_begins text k v e)
