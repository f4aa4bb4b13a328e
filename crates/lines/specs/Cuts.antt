-- Texts are lists of bytes. What it means to cut one at the first of a byte.
use Rattle.std.specs.Prelude.{◌≡◌, ℕ, ◌<◌, cond, List, [], ◌∷◌, ◌++◌, length, Some, None, Option, ◌==◌, ◌≢◌, slice_index}
use Rattle.std.specs.Borrow.{Bor}
use Rattle.std.specs.List.{AllByRecursion}

-- one byte more in front of a cut
abbrev pub onto : ℕ → Option (List ℕ × List ℕ) → Option (List ℕ × List ℕ)
onto x None = None
onto x (Some c) = Some (x ∷ c.0, c.1)

-- what stands before the first b and what stands behind it, where there is a b
abbrev pub cut_at : ℕ → List ℕ → Option (List ℕ × List ℕ)
cut_at b [] = None
cut_at b (x ∷ xs) = cond (x == b) (Some ([], xs)) (onto x (cut_at b xs))

-- b stands nowhere in the text
abbrev pub Free : ℕ → List ℕ → Type 0
Free b xs = AllByRecursion (λ x. x ≢ b) xs

-- the place of the first b, absent where there is none
abbrev pub FoundFirst : ℕ → List ℕ → Option ℕ → Type 0
FoundFirst b xs None = (k : ℕ) → k < length xs → slice_index xs k ≢ b
FoundFirst b xs (Some i) = (i < length xs) × (slice_index xs i ≡ b) × ((k : ℕ) → k < i → slice_index xs k ≢ b)

-- a cut as a relation: the front has no b, and the parts joined by b are the text
abbrev pub CutFirst : ℕ → List ℕ → Option (List ℕ × List ℕ) → Type 0
CutFirst b xs None = Free b xs
CutFirst b xs (Some c) = Free b c.0 × (xs ≡ c.0 ++ (b ∷ c.1))

-- the bytes of two borrowed parts
abbrev pub parts : Option (Bor (List ℕ) × Bor (List ℕ)) → Option (List ℕ × List ℕ)
parts None = None
parts (Some p) = Some (p.0.now, p.1.now)
