-- What one turn more gives.
use Rattle.std.proofs.Common.{◌≡◌, ℕ, ◌+◌, List, [], ◌∷◌, ◌++◌, length, Result, refl, sym, ap, ◌∙◌, append_assoc, arith}
use Rattle.std.proofs.lemmas.List.{length-append}
use Rattle.std.proofs.lemmas.List.{append-nil}
use Rattle.std.proofs.Math.Logic.{∥∥₁_map}
use Rattle.desk.specs.declared.talk.Turn.{Turn}
use Rattle.desk.specs.declared.talk.Turn.TheVariants.{Heard}
use Rattle.desk.specs.declared.asking.Ask.{Ask}
use Rattle.desk.specs.declared.asking.Due.{Due}
use Rattle.desk.specs.Asking.{asked}
use Rattle.desk.specs.Histories.{newest}
use Rattle.desk.proofs.HistoryLaws.{newest-append}
use Rattle.desk.specs.Talks.{Talk, asks_by, turns_in, hears_in, says_in, heard_after, said_from, IsTalk}
use Rattle.arrayvec.specs.ArrayVec.{ArrayVec}
use Rattle.reading.specs.declared.rules.Rule.{Rule}

-- how many lines were heard after a whole talk and one turn more
after_all : ℕ → Talk → Turn → ℕ
after_all n ts t = n + length (newest hears_in ts) + length (hears_in t)

said-append : (n : ℕ) (ts : Talk) (t : Turn × Unit {0}) → said_from n (ts ++ t ∷ []) ≡ says_in (n + length (newest hears_in ts) + length (hears_in t.0)) t.0 ++ said_from n ts
said-append n [] t =
    let none : n ≡ n + 0 = omega arith in
    ap (λ m. says_in (m + length (hears_in t.0)) t.0) none ∙ sym (append-nil (says_in (n + 0 + length (hears_in t.0)) t.0))
said-append n (x ∷ xs) t =
    let e = length-append (newest hears_in xs) (hears_in x.0) in
    let counts : heard_after n x.0 + length (newest hears_in xs) + length (hears_in t.0) ≡ n + length (newest hears_in (x ∷ xs)) + length (hears_in t.0) = omega arith in
    let more = said-append (heard_after n x.0) xs t ∙ ap (λ m. says_in m t.0 ++ said_from (heard_after n x.0) xs) counts in
    let last = says_in (n + length (newest hears_in (x ∷ xs)) + length (hears_in t.0)) t.0 in
    ap (λ us. us ++ says_in (heard_after n x.0) x.0) more ∙ append_assoc last (said_from (heard_after n x.0) xs) (says_in (heard_after n x.0) x.0)

-- a talk goes on by a turn
went_on : (heard said heard' said' : List (List ℕ)) (ts ts' : Talk) (t : Turn × Unit {0}) → IsTalk heard said ts → heard' ≡ hears_in t.0 ++ heard → said' ≡ says_in (length heard') t.0 ++ said → ts' ≡ ts ++ t ∷ [] → IsTalk heard' said' ts'
went_on heard said heard' said' ts ts' t k heard_it said_it is =
    let all = newest-append hears_in ts t in
    let before = length k.heard_before in
    let total = ap length k.heard_all ∙ length-append (newest hears_in ts) k.heard_before in
    let grown = ap length heard_it ∙ length-append (hears_in t.0) heard in
    let n : length heard' ≡ before + length (newest hears_in ts) + length (hears_in t.0) = omega arith in
    record {
      heard_before = k.heard_before;
      said_before = k.said_before;
      heard_all = heard_it ∙ ap (λ us. hears_in t.0 ++ us) k.heard_all ∙ sym (append_assoc (hears_in t.0) (newest hears_in ts) k.heard_before) ∙ ap (λ us. us ++ k.heard_before) (sym (ap (newest hears_in) is ∙ all));
      said_all = said_it ∙ ap (λ us. says_in (length heard') t.0 ++ us) k.said_all ∙ sym (append_assoc (says_in (length heard') t.0) (said_from before ts) k.said_before)
          ∙ ap (λ us. us ++ k.said_before) (ap (λ m. says_in m t.0 ++ said_from before ts) n ∙ sym (ap (said_from before) is ∙ said-append before ts t));
    }

pub goes_on : (heard said heard' said' : List (List ℕ)) (ts ts' : Talk) (t : Turn × Unit {0}) → ∥ IsTalk heard said ts ∥₁ → heard' ≡ hears_in t.0 ++ heard → said' ≡ says_in (length heard') t.0 ++ said → ts' ≡ ts ++ t ∷ [] → ∥ IsTalk heard' said' ts' ∥₁
goes_on heard said heard' said' ts ts' t k heard_it said_it is =
    ∥∥₁_map k (λ talk. went_on heard said heard' said' ts ts' t talk heard_it said_it is)

-- a talk that begins
pub begins : (heard said : List (List ℕ)) → ∥ IsTalk heard said [] ∥₁
begins heard said = ∣ record { heard_before = heard; said_before = said; heard_all = refl; said_all = refl } ∣₁

-- what is asked and told when a line is heard
pub asks_heard : (ts ts' : Talk) (d : Due) (line : ArrayVec ℕ) (r : Result Ask Rule) → ts' ≡ ts ++ (Heard d line, tt) ∷ [] → r ≡ asked d line.items → newest turns_in ts' ≡ asks_by r ++ newest turns_in ts
asks_heard ts ts' d line r is e = ap (newest turns_in) is ∙ newest-append turns_in ts (Heard d line, tt) ∙ ap (λ a. asks_by a ++ newest turns_in ts) (sym e)
