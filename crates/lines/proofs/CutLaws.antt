-- The laws of a cut at the first of a byte.
use Rattle.std.proofs.Common.{◌≡◌, ℕ, ◌+◌, ◌-◌, ◌<◌, Bool, true, false, cond, eqb, List, [], ◌∷◌, ◌++◌, length, get_or, take, drop, Some, None, Option, ◌≢◌, sym, refl, ap, ◌∙◌, subst, arith}
use Rattle.std.specs.List.{AllWithin, HoldsAt}
use Rattle.std.specs.Option.{MatchOption}
use Rattle.std.proofs.lemmas.Bool.{eq-eqb, ne_eqb, eqb-true, eqb-false, cond-true, cond-false}
use Rattle.std.proofs.ByRecursion.{All-from_get_or}
use Rattle.std.proofs.lemmas.List.{drop_more, get_or-take, length-take-le, take-append-drop, take_rest}
use Rattle.lines.specs.Cuts.{onto, cut_at, Free, FoundFirst, CutFirst}

onto_law : (b x : ℕ) (xs : List ℕ) (c : Option (List ℕ × List ℕ)) → (x ≡ b → ⊥) → CutFirst b xs c → CutFirst b (x ∷ xs) (onto x c)
onto_law b x xs None ne h = (ne, h)
onto_law b x xs (Some c) ne h = ((ne, h.0), ap (λ l. x ∷ l) h.1)

cut_step : (b x : ℕ) (xs : List ℕ) (t : Bool) → eqb x b ≡ t → CutFirst b xs (cut_at b xs) → CutFirst b (x ∷ xs) (cond t (Some ([], xs)) (onto x (cut_at b xs)))
cut_step b x xs true e h = (tt, ap (λ y. y ∷ xs) (eqb-true x b e))
cut_step b x xs false e h = onto_law b x xs (cut_at b xs) (eqb-false x b e) h

-- the cut of every text is a cut at the first b
pub cut_law : (b : ℕ) (xs : List ℕ) → CutFirst b xs (cut_at b xs)
cut_law b [] = tt
cut_law b (x ∷ xs) = cut_step b x xs (eqb x b) refl (cut_law b xs)

-- and there is no other
pub cut_none : (b : ℕ) (xs : List ℕ) → Free b xs → cut_at b xs ≡ None
cut_none b [] h = refl
cut_none b (x ∷ xs) h = cond-false _ _ _ (ne_eqb x b h.0) ∙ ap (onto x) (cut_none b xs h.1)

pub cut_some : (b : ℕ) (p q : List ℕ) → Free b p → cut_at b (p ++ (b ∷ q)) ≡ Some (p, q)
cut_some b [] q h = cond-true _ _ _ (eq-eqb b b refl)
cut_some b (x ∷ p) q h = cond-false _ _ _ (ne_eqb x b h.0) ∙ ap (onto x) (cut_some b p q h.1)

-- what a search for the first b finds
pub found_from : (b : ℕ) (xs : List ℕ) (r : Option ℕ) → MatchOption r (AllWithin (λ x. x ≢ b) xs 0 (length xs)) (λ i. (i < length xs) × HoldsAt (λ x. x ≡ b) xs i × AllWithin (λ x. x ≢ b) xs 0 i) → FoundFirst b xs r
found_from b xs None h = λ k l. h k 0 (omega arith) l
found_from b xs (Some i) h = (h.0, h.1 0, λ k l. h.2 k 0 (omega arith) l)

-- b stands at no place of a text
pub free_places : (b : ℕ) (xs : List ℕ) → FoundFirst b xs None → Free b xs
free_places b xs h = All-from_get_or (λ x. x ≡ b → ⊥) xs 0 h

-- b stands at no place before i
free_before : (b : ℕ) (xs : List ℕ) (i : ℕ) → i < length xs → ((k : ℕ) → k < i → get_or xs k 0 ≡ b → ⊥) → Free b (take i xs)
free_before b xs i l h =
    free_places b (take i xs) (λ k m e. let low : k < i = omega (arith, length-take-le i xs (omega arith)) in h k low (sym (get_or-take i xs k 0 low) ∙ e))

-- a cut at the place of the first b
pub cut_here : (b : ℕ) (xs : List ℕ) (i : ℕ) → FoundFirst b xs (Some i) → cut_at b xs ≡ Some (take i xs, drop (i + 1) xs)
cut_here b xs i h =
    let whole : xs ≡ take i xs ++ (b ∷ drop (i + 1) xs) = sym (take-append-drop i xs) ∙ ap (λ t. take i xs ++ t) (drop_more xs i 0 h.0 ∙ ap (λ y. y ∷ drop (i + 1) xs) h.1) in
    ap (cut_at b) whole ∙ cut_some b (take i xs) (drop (i + 1) xs) (free_before b xs i h.0 h.2)

-- the parts, as slices of the text
pub parts_here : (b : ℕ) (xs : List ℕ) (i : ℕ) → FoundFirst b xs (Some i) → Some (take i xs, take (length xs - (i + 1)) (drop (i + 1) xs)) ≡ cut_at b xs
parts_here b xs i h =
    let back : take (length xs - (i + 1)) (drop (i + 1) xs) ≡ drop (i + 1) xs = take_rest xs (i + 1) in
    let here = cut_here b xs i h in
    cc

-- what was found to be the cut is a cut at the first b
pub cut_found : (b : ℕ) (xs : List ℕ) (c : Option (List ℕ × List ℕ)) → c ≡ cut_at b xs → CutFirst b xs c
cut_found b xs c e = subst (CutFirst b xs) (sym e) (cut_law b xs)
