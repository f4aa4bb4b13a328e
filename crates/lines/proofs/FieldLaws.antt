-- The laws of fields between commas.
use Rattle.std.proofs.Common.{◌≡◌, ℕ, ◌<◌, Bool, true, false, cond, eqb, List, [], ◌∷◌, ◌++◌, length, Some, None, Option, sym, refl, ap, ◌∙◌, subst, arith, Bor}
use Rattle.std.specs.List.{AllByRecursion}
use Rattle.std.proofs.lemmas.List.{append-nil}
use Rattle.std.proofs.lemmas.Bool.{ne_eqb, eqb-true, eqb-false, cond-false}
use Rattle.lines.specs.declared.cutting.FirstField.{FirstField}
use Rattle.lines.specs.Cuts.{Free}
use Rattle.lines.specs.Fields.{comma, widened, fields, joined, further, right_behind, FirstOf, FieldsOf}

-- a text without a comma is one field
pub fields_one : (p : List ℕ) → Free comma p → fields p ≡ p ∷ []
fields_one [] h = refl
fields_one (x ∷ p) h = cond-false _ _ _ (ne_eqb x comma h.0) ∙ ap (widened x) (fields_one p h.1)

-- the first comma ends the first field
pub fields_more : (p q : List ℕ) → Free comma p → fields (p ++ (comma ∷ q)) ≡ p ∷ fields q
fields_more [] q h = refl
fields_more (x ∷ p) q h = cond-false _ _ _ (ne_eqb x comma h.0) ∙ ap (widened x) (fields_more p q h.1)

-- what is known of the fields of each text
record Known (text : List ℕ) (fs : List (List ℕ)) : Type 0 where
  some : 0 < length fs
  joins : joined fs ≡ text
  free : AllByRecursion (Free comma) fs

known_comma : (xs : List ℕ) (fs : List (List ℕ)) → Known xs fs → Known (comma ∷ xs) ([] ∷ fs)
known_comma xs [] k = absurd (omega (arith, k.some))
known_comma xs (f ∷ fs) k = record { some = omega arith; joins = ap (λ l. comma ∷ l) k.joins; free = (tt, k.free) }

joined_widened : (x : ℕ) (f : List ℕ) (fs : List (List ℕ)) → joined ((x ∷ f) ∷ fs) ≡ x ∷ joined (f ∷ fs)
joined_widened x f [] = refl
joined_widened x f (g ∷ fs) = refl

known_widened : (x : ℕ) (xs : List ℕ) (fs : List (List ℕ)) → (x ≡ comma → ⊥) → Known xs fs → Known (x ∷ xs) (widened x fs)
known_widened x xs [] ne k = absurd (omega (arith, k.some))
known_widened x xs (f ∷ fs) ne k = record {
  some = omega arith;
  joins = joined_widened x f fs ∙ ap (λ l. x ∷ l) k.joins;
  free = ((ne, k.free.0), k.free.1);
}

known_step : (x : ℕ) (xs : List ℕ) (t : Bool) → eqb x comma ≡ t → Known xs (fields xs) → Known (x ∷ xs) (cond t ([] ∷ fields xs) (widened x (fields xs)))
known_step x xs true e k = subst (λ y. Known (y ∷ xs) ([] ∷ fields xs)) (sym (eqb-true x comma e)) (known_comma xs (fields xs) k)
known_step x xs false e k = known_widened x xs (fields xs) (eqb-false x comma e) k

known : (text : List ℕ) → Known text (fields text)
known [] = record { some = omega arith; joins = refl; free = (tt, tt) }
known (x ∷ xs) = known_step x xs (eqb x comma) refl (known xs)

-- fields without commas, joined, are read back
pub fields_joined : (fs : List (List ℕ)) → 0 < length fs → AllByRecursion (Free comma) fs → fields (joined fs) ≡ fs
fields_joined [] some h = absurd (omega arith)
fields_joined (f ∷ []) some h = fields_one f h.0
fields_joined (f ∷ (g ∷ fs)) some h = fields_more f (joined (g ∷ fs)) h.0 ∙ ap (λ l. f ∷ l) (fields_joined (g ∷ fs) (omega arith) h.1)

-- the fields of a text, joined, are the text
pub joined_fields : (text : List ℕ) → joined (fields text) ≡ text
joined_fields text = (known text).joins

pub fields_law : (text : List ℕ) → FieldsOf text (fields text)
fields_law text = record {
  joins = (known text).joins;
  free = (known text).free;
  only = λ gs some h e. sym (fields_joined gs some h) ∙ ap fields e;
}

-- the fields from the first one and what follows it
pub first_fields : (text : List ℕ) (f : FirstField) → FirstOf text f → fields text ≡ f.first.now ∷ further f.rest
first_fields text f h = ap fields h.1 ∙ goes_on f.rest
  where
    goes_on : (o : Option (Bor (List ℕ))) → fields (f.first.now ++ right_behind o) ≡ f.first.now ∷ further o
    goes_on None = ap fields (append-nil f.first.now) ∙ fields_one f.first.now h.0
    goes_on (Some t) = fields_more f.first.now t.now h.0
