-- The numbers of a list, written one after the other.
use Rattle.std.proofs.Common.{◌≡◌, ℕ, suc, ◌+◌, ◌-◌, ◌<◌, ◌≤◌, Bool, true, false, cond, not, leb, List, [], ◌∷◌, ◌++◌, length, take, drop, set, replicate, is_some, Some, None, Option, sym, refl, ap, ◌∙◌, arith, Bor}
use Rattle.std.proofs.lemmas.List.{append_assoc, append-nil, take_all, take_more_set, drop-replicate}
use Rattle.std.specs.Bool.{then_some}
use Rattle.std.specs.Option.{option_map}
use Rattle.std.proofs.lemmas.Bool.{le-leb, cond-true, true≢false}
use Rattle.lines.specs.Fields.{NextOf}
use Rattle.lines.specs.Numeral.{numeral}
use Rattle.reading.specs.Values.{at_least, in_front, numbers_of, list_of, padded, padded_list}

-- a limit of 0 from below says nothing
from_zero : (o : Option ℕ) → at_least 0 o ≡ o
from_zero None = refl
from_zero (Some n) = cond-true _ _ _ (le-leb 0 n (omega arith))

-- some numbers that were read already, in front of those that are still to be read
abbrev pub onto : List ℕ → Option (List ℕ) → Option (List ℕ)
onto ns rest = option_map (λ ms. ns ++ ms) rest

module _ (read : Option (List ℕ)) (fs : List (List ℕ)) (most count i : ℕ) (out : List ℕ) (h : read ≡ onto (take i out) (numbers_of fs most (count - i))) where
  module _ (f : List ℕ) (gs : List (List ℕ)) (e : fs ≡ f ∷ gs) where
    -- the fields from the first one on, where a place is left
    at_first : i < count → read ≡ onto (take i out) (in_front (at_least 0 (numeral f most)) (numbers_of gs most (count - (i + 1))))
    at_first inside =
        let more : count - i ≡ suc (count - (i + 1)) = omega arith in
        h ∙ ap (λ l. onto (take i out) (numbers_of l most (count - i))) e ∙ ap (λ m. onto (take i out) (numbers_of (f ∷ gs) most m)) more ∙ ap (λ o. onto (take i out) (in_front o (numbers_of gs most (count - (i + 1))))) (sym (from_zero (numeral f most)))

    pub field_read : (n : ℕ) → i < count → length out ≡ count → Some n ≡ at_least 0 (numeral f most) → read ≡ onto (take (i + 1) (set out i n)) (numbers_of gs most (count - (i + 1)))
    field_read n inside long q =
        at_first inside ∙ ap (λ o. onto (take i out) (in_front o (numbers_of gs most (count - (i + 1))))) (sym q) ∙ moved (numbers_of gs most (count - (i + 1)))
      where
        moved : (o : Option (List ℕ)) → onto (take i out) (in_front (Some n) o) ≡ onto (take (i + 1) (set out i n)) o
        moved None = refl
        moved (Some ns) = ap Some (sym (append_assoc (take i out) (n ∷ []) ns) ∙ ap (λ l. l ++ ns) (sym (take_more_set out i n (omega arith))))

    -- no place is left, but a field
    pub field_over : count ≤ i → read ≡ None
    field_over past =
        let none : count - i ≡ 0 = omega arith in
        h ∙ ap (λ l. onto (take i out) (numbers_of l most (count - i))) e ∙ ap (λ m. onto (take i out) (numbers_of (f ∷ gs) most m)) none

  pub all_read : count ≤ i → length out ≡ count → fs ≡ [] → read ≡ Some out
  all_read past long e =
      let none : count - i ≡ 0 = omega arith in
      let whole : take i out ≡ out = take_all _ _ (omega arith) in
      h ∙ ap (λ l. onto (take i out) (numbers_of l most (count - i))) e ∙ ap (λ m. onto (take i out) (numbers_of [] most m)) none ∙ ap Some (append-nil (take i out) ∙ whole)

-- what was read, with zeros behind it
pub list_refused : (value : List ℕ) (places most count : ℕ) → list_of value most count ≡ None → None ≡ padded_list places value most count
list_refused value places most count e = either (leb count places) ∙ ap (λ o. cond (leb count places) (option_map (padded places) o) None) (sym e)
  where
    either : (t : Bool) → ◌≡◌ {A = Option (List ℕ)} None (cond t None None)
    either true = refl
    either false = refl

pub list_accepted : (value : List ℕ) (places most count : ℕ) (out : List ℕ) → count ≤ places → length out ≡ count → list_of value most count ≡ Some out → Some (out ++ drop count (replicate places 0)) ≡ padded_list places value most count
list_accepted value places most count out room long e =
    let zeros : drop count (replicate places 0) ≡ replicate (places - length out) 0 = drop-replicate count places 0 ∙ ap (λ n. replicate (places - n) 0) (sym long) in
    ap (λ l. Some (out ++ l)) zeros ∙ sym (cond-true (leb count places) _ _ (le-leb count places room) ∙ ap (option_map (padded places)) e)

-- all places are written: the list is accepted exactly where no field is left
pub list_ended : (value : List ℕ) (places most count i : ℕ) (out : List ℕ) (fs gs : List (List ℕ)) (o : Option (Bor (List ℕ))) (b : Bool) → list_of value most count ≡ onto (take i out) (numbers_of fs most (count - i)) → count ≤ i → count ≤ places → length out ≡ count → NextOf fs o gs → is_some o ≡ not b → then_some b (out ++ drop count (replicate places 0)) ≡ padded_list places value most count
list_ended value places most count i out fs gs None true h past room long next q = list_accepted value places most count out room long (all_read _ fs most count i out h past long next.0)
list_ended value places most count i out fs gs (Some f) false h past room long next q = list_refused value places most count (field_over _ fs most count i out h f.now gs next past)
list_ended value places most count i out fs gs None false h past room long next q = absurd (true≢false (sym q))
list_ended value places most count i out fs gs (Some f) true h past room long next q = absurd (true≢false q)
