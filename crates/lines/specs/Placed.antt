-- A text written into space at a place.
use Rattle.std.specs.Prelude.{ℕ, ◌+◌, Bool, cond, List, ◌++◌, length, take, drop, Some, None, Option, nat_le}

-- the space has room for the text at this place
abbrev pub fits : List ℕ → ℕ → List ℕ → Bool
fits text at space = nat_le (at + length text) (length space)

-- the place behind the text, where it has room
abbrev pub end_of : List ℕ → ℕ → List ℕ → Option ℕ
end_of text at space = cond (fits text at space) (Some (at + length text)) None

-- the space with the text in it: all before and behind the text is as it was
abbrev pub with_text : List ℕ → ℕ → List ℕ → List ℕ
with_text text at space = take at space ++ (text ++ drop (at + length text) space)

-- the same where the text has room, and else the space as it was
abbrev pub placed : List ℕ → ℕ → List ℕ → List ℕ
placed text at space = cond (fits text at space) (with_text text at space) space
