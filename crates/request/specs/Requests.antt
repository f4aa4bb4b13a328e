-- A request around its plant: the kind in its first line, and behind the plant the tariff line, the sweeps line and the end.
use Rattle.std.specs.Prelude.{ℕ, ◌+◌, cond, List, [], ◌∷◌, length, Some, None, Ok, Err, codes, Option, Result, ◌==◌}
use Rattle.std.specs.Str.{bytes_eq}
use Rattle.lines.specs.Fields.{fields}
use Rattle.lines.specs.Line.{Said, pair, fault, line_at}
use Rattle.lines.specs.Numeral.{numeral}
use Rattle.reading.specs.declared.rules.ReadRefusal.{ReadRefusal}
use Rattle.reading.specs.declared.rules.Rule.{Rule}
use Rattle.reading.specs.declared.rules.Rule.TheVariants.{Unexpected, OutOfRange}
use Rattle.reading.specs.Rules.{fault_rule}
use Rattle.planner.specs.Sweeps.{most_sweeps}
use Rattle.tariffs.specs.Priced.{most_rate}
use Rattle.request.specs.declared.kind.Kind.{Kind}
use Rattle.request.specs.declared.kind.Kind.TheVariants.{Chain, Pair}
use Rattle.request.specs.declared.sweeps.SweepsLine.{SweepsLine}
use Rattle.request.specs.declared.tariff.TariffChoice.{TariffChoice}
use Rattle.request.specs.declared.tariff.TariffChoice.TheVariants.{Priced, AirFirst}

-- the value of a line with the key that is due
abbrev pub value_due : List ℕ → Said → Result (List ℕ) Rule
value_due key (pair k v) = cond (bytes_eq k key) (Ok v) (Err Unexpected)
value_due key (fault n) = Err (fault_rule n)

-- a rate, alone behind its word
abbrev pub rate_of : Option ℕ → Result TariffChoice Rule
rate_of None = Err OutOfRange
rate_of (Some n) = Ok (Priced n)

abbrev pub priced_by : List (List ℕ) → Result TariffChoice Rule
priced_by [] = Err OutOfRange
priced_by (r ∷ []) = rate_of (numeral r most_rate)
priced_by (r ∷ (s ∷ fs)) = Err OutOfRange

abbrev pub air_first_by : List (List ℕ) → Result TariffChoice Rule
air_first_by [] = Ok AirFirst
air_first_by (f ∷ fs) = Err OutOfRange

-- the word of a tariff, and what suits it
abbrev pub tariff_by : List (List ℕ) → Result TariffChoice Rule
tariff_by [] = Err Unexpected
tariff_by (word ∷ fs) = cond (bytes_eq word (codes "priced")) (priced_by fs) (cond (bytes_eq word (codes "airfirst")) (air_first_by fs) (Err Unexpected))

abbrev pub tariff_of : List ℕ → Result TariffChoice Rule
tariff_of value = tariff_by (fields value)

abbrev pub sweeps_by : Option ℕ → Result ℕ Rule
sweeps_by None = Err OutOfRange
sweeps_by (Some n) = Ok n

abbrev pub sweeps_of : List ℕ → Result ℕ Rule
sweeps_of value = sweeps_by (numeral value most_sweeps)

-- one line after another
abbrev pub after : {A B : Type 0} → Result A Rule → (A → Result B Rule) → Result B Rule
after (Ok a) f = f a
after (Err e) f = Err e

-- with the line at which it was refused
abbrev pub at_line : {A : Type 0} → ℕ → Result A Rule → Result A ReadRefusal
at_line n (Ok a) = Ok a
at_line n (Err e) = Err (record { rule = e; line = n })

-- the kind of plant with this name
abbrev pub kind_named : List ℕ → Result Kind Rule
kind_named word = cond (bytes_eq word (codes "chain")) (Ok Chain) (cond (bytes_eq word (codes "pair")) (Ok Pair) (Err Unexpected))

abbrev pub read_kind : List ℕ → Result Kind ReadRefusal
read_kind text = at_line 1 (after (value_due (codes "kind") (line_at text)) kind_named)

abbrev pub read_tariff : List ℕ → ℕ → Result TariffChoice ReadRefusal
read_tariff text place = at_line (place + 1) (after (value_due (codes "tariff") (line_at text)) tariff_of)

-- with the line that names it
abbrev pub on_line : ℕ → Result ℕ ReadRefusal → Result SweepsLine ReadRefusal
on_line n (Ok s) = Ok (record { count = s; line = n })
on_line n (Err e) = Err e

abbrev pub read_sweeps : List ℕ → ℕ → Result SweepsLine ReadRefusal
read_sweeps text place = on_line (place + 1) (at_line (place + 1) (after (value_due (codes "sweeps") (line_at text)) sweeps_of))

-- a text that goes on where it should end
abbrev pub goes_on : Said → Rule
goes_on (pair k v) = Unexpected
goes_on (fault n) = fault_rule n

abbrev pub read_end : List ℕ → ℕ → Result (Unit {0}) ReadRefusal
read_end text place = cond (length text == 0) (Ok tt) (Err (record { rule = goes_on (line_at text); line = place + 1 }))
