-- Lines as they are written.
use Rattle.std.specs.Prelude.{ℕ, List, [], ◌∷◌, ◌++◌, map, decimal}
use Rattle.lines.specs.Fields.{joined}
use Rattle.lines.specs.Line.{line_end, equals_sign}
use Rattle.reading.specs.Keys.{name_of}
use Rattle.reading.specs.declared.keys.Key.{Key}

-- the line of a key with a value, and its line end
abbrev pub line_of : Key → List ℕ → List ℕ
line_of key value = name_of key ++ (equals_sign ∷ (value ++ (line_end ∷ [])))

-- the line of a number
abbrev pub number_line : Key → ℕ → List ℕ
number_line key n = line_of key (decimal n)

-- the line of a list of numbers
abbrev pub list_line : Key → List ℕ → List ℕ
list_line key ns = line_of key (joined (map decimal ns))
