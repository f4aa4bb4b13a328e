-- What is due is asked exactly by its line.
use Rattle.std.proofs.Common.{◌≡◌, ℕ, ◌≤◌, Bool, true, false, cond, List, Some, None, Ok, Err, codes, decimal, Option, Result, sym, refl, ap, ◌∙◌, subst, arith, lit<}
use Rattle.std.specs.Str.{bytes_eq}
use Rattle.std.proofs.lemmas.Slice.Eq.{bytes_eq-Decides}
use Rattle.lines.specs.Line.{Said, pair, fault, Begins, ReadsAs}
use Rattle.reading.specs.Values.{number_between}
use Rattle.reading.specs.declared.rules.Rule.{Rule}
use Rattle.reading.specs.declared.rules.Rule.TheVariants.{Unexpected}
use Rattle.reading.proofs.ValueLaws.{between_law}
use Rattle.desk.specs.declared.asking.Due.{Due}
use Rattle.desk.specs.declared.asking.Due.TheVariants as due
use Rattle.desk.specs.declared.asking.Ask.{Ask}
use Rattle.desk.specs.declared.asking.Ask.TheVariants as ask
use Rattle.desk.specs.Asking.{most_number, in_range, number_of, asks, key_of, ask_of, asked_by, Suits, value_text, BeginsAsking, AsksExactly}

-- a number that is asked is written in digits and in range
number_asked : (make : ℕ → Ask) (value : List ℕ) (o : Option ℕ) (a : Ask) → number_between value 0 most_number ≡ o → asks make (in_range o) ≡ Ok a → (n : ℕ) × (a ≡ make n) × (value ≡ decimal n) × (n ≤ most_number)
number_asked make value None a q e = let z : ◌≡◌ {A = ℕ} 0 1 = cc in absurd (omega arith)
number_asked make value (Some n) a q e =
    let r = (between_law value 0 most_number (lit< tt) n).0 q in
    (n, (cc), r.0, r.2)

number_read : (make : ℕ → Ask) (n : ℕ) → n ≤ most_number → asks make (number_of (decimal n)) ≡ Ok (make n)
number_read make n h = ap (λ o. asks make (in_range o)) ((between_law (decimal n) 0 most_number (lit< tt) n).1 (refl, omega arith, h))

-- a word that is asked is that word
word_asked : (value word : List ℕ) (b a : Ask) (t : Bool) → bytes_eq value word ≡ t → cond t (Ok b) (Err Unexpected) ≡ Ok a → (value ≡ word) × (b ≡ a)
word_asked value word b a true q e = ((bytes_eq-Decides value word).0 q, (cc))
word_asked value word b a false q e = let z : ◌≡◌ {A = ℕ} 0 1 = cc in absurd (omega arith)

abbrev Written : Due → List ℕ → Ask → Type 0
Written d value a = (value ≡ value_text a) × Suits d a

value_asked : (d : Due) (value : List ℕ) (a : Ask) → ask_of d value ≡ Ok a → Written d value a
value_asked due.State value a e =
    let w = number_asked ask.State value (number_between value 0 most_number) a refl e in
    subst (Written due.State value) (sym w.1) (w.2, w.3)
value_asked due.Order value a e =
    let w = word_asked value (codes "issue") ask.Order a (bytes_eq value (codes "issue")) refl e in
    subst (Written due.Order value) w.1 (w.0, tt)
value_asked due.CarryOut value a e =
    let w = word_asked value (codes "carry-out") ask.CarryOut a (bytes_eq value (codes "carry-out")) refl e in
    subst (Written due.CarryOut value) w.1 (w.0, tt)
value_asked due.Outcome value a e =
    let w = number_asked ask.Outcome value (number_between value 0 most_number) a refl e in
    subst (Written due.Outcome value) (sym w.1) (w.2, w.3)

value_read : (d : Due) (a : Ask) → Suits d a → ask_of d (value_text a) ≡ Ok a
value_read due.State (ask.State n) h = number_read ask.State n h
value_read due.State ask.Order h = absurd h
value_read due.State ask.CarryOut h = absurd h
value_read due.State (ask.Outcome n) h = absurd h
value_read due.Order (ask.State n) h = absurd h
value_read due.Order ask.Order h = refl
value_read due.Order ask.CarryOut h = absurd h
value_read due.Order (ask.Outcome n) h = absurd h
value_read due.CarryOut (ask.State n) h = absurd h
value_read due.CarryOut ask.Order h = absurd h
value_read due.CarryOut ask.CarryOut h = refl
value_read due.CarryOut (ask.Outcome n) h = absurd h
value_read due.Outcome (ask.State n) h = absurd h
value_read due.Outcome ask.Order h = absurd h
value_read due.Outcome ask.CarryOut h = absurd h
value_read due.Outcome (ask.Outcome n) h = number_read ask.Outcome n h

-- the key of a line that was put to use is the one that is due
record Keyed (d : Due) (k value : List ℕ) (a : Ask) : Type 0 where
  key : k ≡ key_of d
  ask : ask_of d value ≡ Ok a

keyed : (d : Due) (k value : List ℕ) (a : Ask) (t : Bool) → bytes_eq k (key_of d) ≡ t → cond t (ask_of d value) (Err Unexpected) ≡ Ok a → Keyed d k value a
keyed d k value a true q e = record { key = (bytes_eq-Decides k (key_of d)).0 q; ask = e }
keyed d k value a false q e = let z : ◌≡◌ {A = ℕ} 0 1 = cc in absurd (omega arith)

key_read : (d : Due) (value : List ℕ) → asked_by d (pair (key_of d) value) ≡ ask_of d value
key_read due.State value = refl
key_read due.Order value = refl
key_read due.CarryOut value = refl
key_read due.Outcome value = refl

to : (d : Due) (text rest : List ℕ) (s : Said) (a : Ask) → ReadsAs text s rest → asked_by d s ≡ Ok a → BeginsAsking d a text × Suits d a
to d text rest (fault n) a law e = let z : ◌≡◌ {A = ℕ} 0 1 = cc in absurd (omega arith)
to d text rest (pair k v) a law e =
    let u = keyed d k v a (bytes_eq k (key_of d)) refl e in
    let w : (v ≡ value_text a) × Suits d a = value_asked d v a u.ask in
    let b = (law.line k v rest).0 (refl, refl) in
    ((rest, subst (λ key. Begins text key (value_text a) rest) u.key (subst (λ value. Begins text k value rest) w.0 b)), w.1)

from : (d : Due) (text rest : List ℕ) (s : Said) (a : Ask) → ReadsAs text s rest → BeginsAsking d a text × Suits d a → asked_by d s ≡ Ok a
from d text rest s a law h =
    let is = (law.line (key_of d) (value_text a) h.0.0).1 h.0.1 in
    ap (asked_by d) is.0 ∙ key_read d (value_text a) ∙ value_read d a h.1

pub asks_exactly : (d : Due) (text rest : List ℕ) (s : Said) (r : Result Ask Rule) → ReadsAs text s rest → r ≡ asked_by d s → AsksExactly d text r
asks_exactly d text rest s r law e a = (
  (λ q. to d text rest s a law (sym e ∙ q)),
  (λ h. e ∙ from d text rest s a law h),
)
