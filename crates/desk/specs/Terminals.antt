-- What a terminal hears.
use Rattle.std.specs.Prelude.{◌≡◌, ℕ, List, ◌∷◌, Option, Some, None}
use Rattle.arrayvec.specs.ArrayVec.{ArrayVec}

-- The lines that were heard before and after a terminal is asked for the next one, the newest first.
abbrev pub Hears : Option (ArrayVec ℕ) → List (List ℕ) → List (List ℕ) → Type 0
Hears None old new = new ≡ old
Hears (Some line) old new = new ≡ line.items ∷ old
