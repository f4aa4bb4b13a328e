-- What a line gives whose key is due.
use Rattle.std.specs.Prelude.{◌≡◌, ℕ, List, Ok, Err, Result}
use Rattle.std.specs.Borrow.{Bor}
use Rattle.lines.specs.Line.{Said}
use Rattle.reading.specs.declared.rules.ReadRefusal.{ReadRefusal}
use Rattle.reading.specs.declared.rules.Rule.{Rule}
use Rattle.request.specs.Requests.{value_due, after, at_line}

abbrev pub bytes_of : Result (Bor (List ℕ)) Rule → Result (List ℕ) Rule
bytes_of (Ok v) = Ok v.now
bytes_of (Err e) = Err e

abbrev pub ValueDue : List ℕ → Said → Result (Bor (List ℕ)) Rule → Type 0
ValueDue key line r = bytes_of r ≡ value_due key line

-- what a conversion makes of that value, whatever function the conversion computes
abbrev pub ReadsDue : {A : Type 0} → List ℕ → Said → ℕ → (Bor (List ℕ) → Result A Rule → Type 0) → Result A ReadRefusal → Type 0
ReadsDue {A} key line place post r = (f : List ℕ → Result A Rule) → ((v : Bor (List ℕ)) (q : Result A Rule) → post v q → q ≡ f v.now) → r ≡ at_line place (after (value_due key line) f)
