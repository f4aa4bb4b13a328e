-- The lines of a request as they are written, and what is read of them.
use Rattle.std.specs.Prelude.{◌≡◌, ℕ, ◌≤◌, List, [], ◌∷◌, ◌++◌, Ok, Err, codes, decimal, Result}
use Rattle.lines.specs.Exactly.{Iff}
use Rattle.lines.specs.Fields.{joined}
use Rattle.planner.specs.Sweeps.{most_sweeps}
use Rattle.reading.specs.Written.{line_of, number_line}
use Rattle.reading.specs.declared.keys.Key.TheVariants.{Kind as KindKey, Tariff, Sweeps}
use Rattle.reading.specs.declared.rules.ReadRefusal.{ReadRefusal}
use Rattle.tariffs.specs.Priced.{most_rate}
use Rattle.request.specs.declared.kind.Kind.{Kind}
use Rattle.request.specs.declared.kind.Kind.TheVariants.{Chain, Pair}
use Rattle.request.specs.declared.sweeps.SweepsLine.{SweepsLine}
use Rattle.request.specs.declared.tariff.TariffChoice.{TariffChoice}
use Rattle.request.specs.declared.tariff.TariffChoice.TheVariants.{Priced, AirFirst}

-- the word of a kind
abbrev pub kind_word : Kind → List ℕ
kind_word Chain = codes "chain"
kind_word Pair = codes "pair"

-- a kind is read exactly from a text that begins with its line
abbrev pub ReadsKind : List ℕ → Result Kind ReadRefusal → Type 0
ReadsKind text answer = (k : Kind) → Iff (answer ≡ Ok k) ((after : List ℕ) × (text ≡ line_of KindKey (kind_word k) ++ after))

-- the words of a tariff, with a comma between each two
abbrev pub tariff_words : TariffChoice → List (List ℕ)
tariff_words (Priced rate) = codes "priced" ∷ (decimal rate ∷ [])
tariff_words AirFirst = codes "airfirst" ∷ []

abbrev pub tariff_line : TariffChoice → List ℕ
tariff_line c = line_of Tariff (joined (tariff_words c))

abbrev pub RateInRange : TariffChoice → Type 0
RateInRange (Priced rate) = rate ≤ most_rate
RateInRange AirFirst = Unit {0}

-- a tariff is read exactly from its line, and what follows is left
abbrev pub ReadsTariff : List ℕ → Result TariffChoice ReadRefusal → List ℕ → Type 0
ReadsTariff text answer rest = (c : TariffChoice) (after : List ℕ) → Iff ((answer ≡ Ok c) × (rest ≡ after)) ((text ≡ tariff_line c ++ after) × RateInRange c)

-- the number of sweeps that was read
abbrev pub counted : Result SweepsLine ReadRefusal → Result ℕ ReadRefusal
counted (Ok s) = Ok s.count
counted (Err e) = Err e

-- so is the number of sweeps
abbrev pub ReadsSweeps : List ℕ → Result ℕ ReadRefusal → List ℕ → Type 0
ReadsSweeps text answer rest = (n : ℕ) (after : List ℕ) → Iff ((answer ≡ Ok n) × (rest ≡ after)) ((text ≡ number_line Sweeps n ++ after) × (n ≤ most_sweeps))

-- a text has ended exactly when nothing is left of it
abbrev pub ReadsEnd : List ℕ → Result (Unit {0}) ReadRefusal → Type 0
ReadsEnd text answer = Iff (answer ≡ Ok tt) (text ≡ [])
