-- The lines of a request, as they are heard.
use Rattle.std.specs.Prelude.{◌≡◌, ℕ, ◌⊎◌, Bool, true, false, List, [], ◌∷◌, ◌++◌, ⊤, codes, nat_eq}
use Rattle.std.specs.List.{starts_with}

-- How the line begins that ends a request.
abbrev pub last_key : List ℕ
last_key = codes "sweeps="

-- The text of some lines, of which the newest comes first.
abbrev pub text_of : List (List ℕ) → List ℕ
text_of [] = []
text_of (l ∷ ls) = text_of ls ++ l

-- None of some lines ends a request.
abbrev pub NoneLast : List (List ℕ) → Type 0
NoneLast [] = ⊤
NoneLast (l ∷ ls) = (starts_with nat_eq l last_key ≡ false) × NoneLast ls

-- The newest of some lines ends a request, and none before it; or nothing more is heard.
abbrev pub Ends : List (List ℕ) → Bool → Type 0
Ends [] ended = ended ≡ true
Ends (l ∷ ls) ended = NoneLast ls × ((starts_with nat_eq l last_key ≡ true) ⊎ (ended ≡ true))

-- Some lines more were heard, the newest first, that end a request, and this is their text.
pub record HeardText (old new : List (List ℕ)) (ended : Bool) (text : List ℕ) : Type 0 where
  pub lines : List (List ℕ)
  pub heard : new ≡ lines ++ old
  pub ends : Ends lines ended
  pub whole : text ≡ text_of lines

-- So far none of them ends it.
pub record HeardSoFar (old new : List (List ℕ)) (text : List ℕ) : Type 0 where
  pub lines : List (List ℕ)
  pub heard : new ≡ lines ++ old
  pub none_last : NoneLast lines
  pub whole : text ≡ text_of lines
