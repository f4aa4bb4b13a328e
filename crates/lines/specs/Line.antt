-- The line at the front of a text. A line is key=value and ends with its line end.
use Rattle.std.specs.Prelude.{◌≡◌, ℕ, ◌+◌, ◌<◌, ◌≤◌, Bool, true, cond, ◌&&◌, List, [], ◌∷◌, ◌++◌, length, Some, None, Option, ◌==◌, nat_le}
use Rattle.std.specs.List.{AllByRecursion}
use Rattle.lines.specs.declared.reading.Line.{Line}
use Rattle.lines.specs.declared.reading.Line.TheVariants.{Pair, Fault}
use Rattle.lines.specs.Cuts.{cut_at, Free}
use Rattle.lines.specs.Exactly.{Iff}

abbrev pub line_end : ℕ
line_end = 10

abbrev pub equals_sign : ℕ
equals_sign = 61

-- how long a line may be, without its line end
abbrev pub longest_line : ℕ
longest_line = 200

-- the bytes that may stand in a line
abbrev pub lowest_byte : ℕ
lowest_byte = 32

abbrev pub highest_byte : ℕ
highest_byte = 126

-- refused: the line is too long, has a byte out of range, or no key with an equals sign behind it
abbrev pub bad_line : ℕ
bad_line = 1

-- refused: the text ends before the line does
abbrev pub ends_early : ℕ
ends_early = 2

-- what a line says: a key with its value, or the number of its refusal
pub data Said : Type 0 where
  pair : List ℕ → List ℕ → Said
  fault : ℕ → Said

-- what a line says that was read
abbrev pub said : Line → Said
said (Pair k v) = pair k.now v.now
said (Fault n) = fault n

abbrev pub printable : ℕ → Bool
printable b = nat_le lowest_byte b && nat_le b highest_byte

abbrev pub all_printable : List ℕ → Bool
all_printable [] = true
all_printable (b ∷ bs) = printable b && all_printable bs

-- the two sides of an equals sign
abbrev pub keyed : Option (List ℕ × List ℕ) → Said
keyed None = fault bad_line
keyed (Some c) = cond (length c.0 == 0) (fault bad_line) (pair c.0 c.1)

-- a line without its line end
abbrev pub line_of : List ℕ → Said
line_of l = cond (nat_le (length l) longest_line && all_printable l) (keyed (cut_at equals_sign l)) (fault bad_line)

-- a text that was cut at its first line end
abbrev pub line_before : Option (List ℕ × List ℕ) → Said
line_before None = fault ends_early
line_before (Some c) = line_of c.0

-- the line at the front of a text
abbrev pub line_at : List ℕ → Said
line_at text = line_before (cut_at line_end text)

-- what stands behind a cut, or the text where there is none
abbrev pub behind : Option (List ℕ × List ℕ) → List ℕ → List ℕ
behind None text = text
behind (Some c) text = c.1

-- what is left of a text whose first line says this: a fault stays to be read
abbrev pub left_by : Said → List ℕ → List ℕ
left_by (pair k v) text = behind (cut_at line_end text) text
left_by (fault n) text = text

-- what is left of a text after its first line
abbrev pub rest_at : List ℕ → List ℕ
rest_at text = left_by (line_at text) text

-- how many lines were taken from the text
abbrev pub taken : Said → ℕ
taken (pair k v) = 1
taken (fault n) = 0

abbrev pub Printable : ℕ → Type 0
Printable b = (lowest_byte ≤ b) × (b ≤ highest_byte)

-- the text begins with the line k=v, and rest follows
pub record Begins (text k v rest : List ℕ) : Type 0 where
  pub whole : text ≡ k ++ (equals_sign ∷ (v ++ (line_end ∷ rest)))
  pub named : 0 < length k
  pub first : Free equals_sign k
  pub key : AllByRecursion Printable k
  pub value : AllByRecursion Printable v
  pub short : length k + 1 + length v ≤ longest_line

-- the first line of a text and what it leaves, as a relation
pub record ReadsAs (text : List ℕ) (s : Said) (rest : List ℕ) : Type 0 where
  pub line : (k v after : List ℕ) → Iff ((s ≡ pair k v) × (rest ≡ after)) (Begins text k v after)
  pub early : Iff (s ≡ fault ends_early) (Free line_end text)
  pub bad : Iff (s ≡ fault bad_line) ((Free line_end text → ⊥) × ((k v after : List ℕ) → Begins text k v after → ⊥))
  pub stays : (n : ℕ) → s ≡ fault n → rest ≡ text
