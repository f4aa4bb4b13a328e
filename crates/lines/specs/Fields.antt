-- The fields of a text: what its commas separate.
use Rattle.std.specs.Prelude.{◌≡◌, ℕ, ◌<◌, cond, List, [], ◌∷◌, ◌++◌, length, Some, None, Option, ◌==◌}
use Rattle.std.specs.Borrow.{Bor}
use Rattle.std.specs.List.{AllByRecursion}
use Rattle.std.specs.Option.{MatchOption}
use Rattle.lines.specs.declared.cutting.FirstField.{FirstField}
use Rattle.lines.specs.Cuts.{Free}

abbrev pub comma : ℕ
comma = 44

-- one byte more in front of the first field
abbrev pub widened : ℕ → List (List ℕ) → List (List ℕ)
widened x [] = (x ∷ []) ∷ []
widened x (f ∷ fs) = (x ∷ f) ∷ fs

-- the fields of a text, in order: always one more than it has commas
abbrev pub fields : List ℕ → List (List ℕ)
fields [] = [] ∷ []
fields (x ∷ xs) = cond (x == comma) ([] ∷ fields xs) (widened x (fields xs))

-- fields with a comma between each two
abbrev pub joined : List (List ℕ) → List ℕ
joined [] = []
joined (f ∷ []) = f
joined (f ∷ (g ∷ fs)) = f ++ (comma ∷ joined (g ∷ fs))

-- the fields of what is still to be read, if anything is
abbrev pub further : Option (Bor (List ℕ)) → List (List ℕ)
further None = []
further (Some t) = fields t.now

-- what follows the first field: nothing, or a comma and the rest
abbrev pub right_behind : Option (Bor (List ℕ)) → List ℕ
right_behind None = []
right_behind (Some t) = comma ∷ t.now

-- the first field has no comma, and is followed by the end or by a comma
abbrev pub FirstOf : List ℕ → FirstField → Type 0
FirstOf text f = Free comma f.first.now × (text ≡ f.first.now ++ right_behind f.rest)

-- the fields of a text as a relation: free of commas, joined they are the text, and no other fields are
pub record FieldsOf (text : List ℕ) (fs : List (List ℕ)) : Type 0 where
  pub joins : joined fs ≡ text
  pub free : AllByRecursion (Free comma) fs
  pub only : (gs : List (List ℕ)) → 0 < length gs → AllByRecursion (Free comma) gs → joined gs ≡ text → gs ≡ fs

-- the first of the fields is given and taken away, where there is one
abbrev pub NextOf : List (List ℕ) → Option (Bor (List ℕ)) → List (List ℕ) → Type 0
NextOf fs first gs = MatchOption first ((fs ≡ []) × (gs ≡ [])) (λ f. fs ≡ f.now ∷ gs)
