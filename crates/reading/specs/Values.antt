-- The numbers in the value of a line.
use Rattle.std.specs.Prelude.{◌≡◌, ℕ, zero, suc, ◌<◌, ◌≤◌, cond, List, [], ◌∷◌, ◌++◌, ◌-◌, map, length, replicate, Some, None, decimal, Option, nat_le}
use Rattle.std.specs.Option.{option_map}
use Rattle.std.specs.List.{AllByRecursion}
use Rattle.lines.specs.Exactly.{Iff}
use Rattle.lines.specs.Fields.{fields, joined}
use Rattle.lines.specs.Numeral.{numeral}

-- a number that is at least so much
abbrev pub at_least : ℕ → Option ℕ → Option ℕ
at_least least None = None
at_least least (Some n) = cond (nat_le least n) (Some n) None

-- the number that a value writes, if it is within these bounds
abbrev pub number_between : List ℕ → ℕ → ℕ → Option ℕ
number_between value least most = at_least least (numeral value most)

-- one number more in front of some numbers, where both were read
abbrev pub in_front : Option ℕ → Option (List ℕ) → Option (List ℕ)
in_front None ns = None
in_front (Some n) None = None
in_front (Some n) (Some ns) = Some (n ∷ ns)

-- so many fields, each a number up to a limit
abbrev pub numbers_of : List (List ℕ) → ℕ → ℕ → Option (List ℕ)
numbers_of [] most zero = Some []
numbers_of [] most (suc n) = None
numbers_of (f ∷ fs) most zero = None
numbers_of (f ∷ fs) most (suc n) = in_front (numeral f most) (numbers_of fs most n)

-- a value that is a list of exactly so many numbers
abbrev pub list_of : List ℕ → ℕ → ℕ → Option (List ℕ)
list_of value most count = numbers_of (fields value) most count

-- numbers in a space of so many places, with zeros behind them
abbrev pub padded : ℕ → List ℕ → List ℕ
padded places ns = ns ++ replicate (places - length ns) 0

-- a value that is a list of exactly so many numbers, in a space that has room for them
abbrev pub padded_list : ℕ → List ℕ → ℕ → ℕ → Option (List ℕ)
padded_list places value most count = cond (nat_le count places) (option_map (padded places) (list_of value most count)) None

-- a number is read exactly from its decimal text, and exactly where it is within these bounds
abbrev pub ReadsBetween : List ℕ → ℕ → ℕ → Option ℕ → Type 0
ReadsBetween s least most r = (n : ℕ) → Iff (r ≡ Some n) ((s ≡ decimal n) × (least ≤ n) × (n ≤ most))

-- a list is read exactly from the decimal texts of so many numbers up to a limit, with a comma between each two
abbrev pub ReadsList : List ℕ → ℕ → ℕ → Option (List ℕ) → Type 0
ReadsList s most count r = (ns : List ℕ) → Iff (r ≡ Some ns) ((s ≡ joined (map decimal ns)) × (0 < count) × (length ns ≡ count) × AllByRecursion (λ n. n ≤ most) ns)
