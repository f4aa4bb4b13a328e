-- The lines of a terminal of two streams.
use Rattle.std.specs.Prelude.{◌≡◌, ℕ, ◌+◌, ◌⊎◌, Bool, Option, List, [], ◌∷◌, ◌++◌, ◌||◌, ◌&&◌, ◌==◌, length, nat_lt, if◌then◌else◌}
use Rattle.std.specs.Io.KnownBytes.{Consumes}
use Rattle.lines.specs.Cuts.{Free}
use Rattle.lines.specs.Line.{line_end}
use Rattle.arrayvec.specs.ArrayVec.{ArrayVec}
use Rattle.plantext.specs.declared.line.LineText.{LineText}

-- Room for a line that is heard: one byte more than the longest line with its line end.
abbrev pub heard_room : ℕ
heard_room = 202

-- A line with a byte more, if that is kept: the beginning of a line is kept, and always its line end.
abbrev pub is_kept : List ℕ → ℕ → Bool
is_kept line b = (b == line_end || nat_lt (length line + 1) heard_room) && nat_lt (length line) heard_room

abbrev pub kept : List ℕ → ℕ → List ℕ
kept line b = if is_kept line b then line ++ b ∷ [] else line

-- What is kept of bytes that come one by one.
abbrev pub kept_of : List ℕ → List ℕ → List ℕ
kept_of line [] = line
kept_of line (b ∷ bs) = kept_of (kept line b) bs

-- The bytes are of one line: no line end stands before the last of them.
abbrev pub IsOneLine : List ℕ → Type 0
IsOneLine bytes = Free line_end bytes ⊎ ((front : List ℕ) × Free line_end front × (bytes ≡ front ++ line_end ∷ []))

-- What is kept of the bytes of one line, with which a stream began, where it is known what it gives.
pub record ReadsLine (stream : Option (List ℕ)) (line : List ℕ) : Type 0 where
  pub bytes : List ℕ
  pub rest : Option (List ℕ)
  pub consumed : Consumes stream rest bytes
  pub one : IsOneLine bytes
  pub kept_all : line ≡ kept_of [] bytes

-- So far no line end came.
pub record ReadsSoFar (stream rest : Option (List ℕ)) (line : List ℕ) : Type 0 where
  pub bytes : List ℕ
  pub consumed : Consumes stream rest bytes
  pub none : Free line_end bytes
  pub kept_all : line ≡ kept_of [] bytes

-- A line that was heard, and one that was said.
abbrev pub heard_line : ArrayVec ℕ → List (List ℕ)
heard_line l = l.items ∷ []

abbrev pub said_line : LineText → List (List ℕ)
said_line l = l.bytes.items ∷ []
