-- Histories that only proofs read.
use Rattle.std.specs.Prelude.{List, [], ◌∷◌, ◌++◌}

-- All that was entered, the oldest first.
abbrev pub History : Type 0 → Type 0
History T = List (T × Unit {0})

-- All that the entries of a history give, the newest first.
abbrev pub newest : {T A : Type 0} → (T → List A) → History T → List A
newest f [] = []
newest f (t ∷ ts) = newest f ts ++ f t.0
