-- Tables that are used from the front, with blanks behind.
use Rattle.std.proofs.Common.{◌≡◌, ℕ, suc, ◌+◌, ◌-◌, ◌<◌, ◌≤◌, List, [], ◌∷◌, ◌++◌, length, get_or, take, set, replicate, sym, refl, ap, ◌∙◌, ⊎_elim, arith}
use Rattle.std.proofs.lemmas.List.{append_assoc, ext_get_or, get_or_append_left, get_or-append_right, get_or_at, get_or-replicate, get_or-take, length-append, length_push, length-replicate, length-take-le, set_at, take_at}
use Rattle.std.proofs.lemmas.Bool.{cases_lt}
use Rattle.chaintext.specs.Writing.{UsedUpTo}

-- these entries, and blanks up to so many places
abbrev pub laid : {A : Type 0} → ℕ → A → List A → List A
laid places empty xs = xs ++ replicate (places - length xs) empty

module _ {A : Type 0} (places : ℕ) (empty : A) where
  blanks : (k : ℕ) → k < places → replicate (places - k) empty ≡ empty ∷ replicate (places - (k + 1)) empty
  blanks k room = let more : places - k ≡ suc (places - (k + 1)) = omega arith in ap (λ m. replicate m empty) more

  -- one entry more
  pub laid_next : (xs : List A) (x : A) (k : ℕ) → length xs ≡ k → k < places → set (laid places empty xs) k x ≡ laid places empty (xs ++ (x ∷ []))
  laid_next xs x k long room =
      let here : length xs < places = omega arith in
      ap (λ l. set (xs ++ l) k x) (blanks (length xs) here) ∙ set_at xs empty (replicate (places - (length xs + 1)) empty) x k long ∙ sym (append_assoc xs (x ∷ []) (replicate (places - (length xs + 1)) empty)) ∙ ap (λ m. (xs ++ (x ∷ [])) ++ replicate (places - m) empty) (sym (length_push xs x))

  -- another last entry
  pub laid_last : (xs : List A) (x y : A) (k : ℕ) → length xs ≡ k → set (laid places empty (xs ++ (x ∷ []))) k y ≡ laid places empty (xs ++ (y ∷ []))
  laid_last xs x y k long =
      ap (λ l. set l k y) (append_assoc xs (x ∷ []) (replicate (places - length (xs ++ (x ∷ []))) empty)) ∙ set_at xs x (replicate (places - length (xs ++ (x ∷ []))) empty) y k long ∙ sym (append_assoc xs (y ∷ []) (replicate (places - length (xs ++ (x ∷ []))) empty)) ∙ ap (λ m. (xs ++ (y ∷ [])) ++ replicate (places - m) empty) (length_push xs x ∙ sym (length_push xs y))

  pub get_d_next : (xs : List A) (k : ℕ) (d : A) → length xs ≡ k → k < places → get_or (laid places empty xs) k d ≡ empty
  get_d_next xs k d long room =
      let here : length xs < places = omega arith in
      ap (λ l. get_or (xs ++ l) k d) (blanks (length xs) here) ∙ get_or_at xs empty (replicate (places - (length xs + 1)) empty) d k long

  pub get_d_last : (xs : List A) (x : A) (k : ℕ) (d : A) → length xs ≡ k → get_or (laid places empty (xs ++ (x ∷ []))) k d ≡ x
  get_d_last xs x k d long =
      ap (λ l. get_or l k d) (append_assoc xs (x ∷ []) (replicate (places - length (xs ++ (x ∷ []))) empty)) ∙ get_or_at xs x (replicate (places - length (xs ++ (x ∷ []))) empty) d k long

  -- an entry that is used
  pub get_d_used : (xs : List A) (k : ℕ) (d : A) → k < length xs → get_or (laid places empty xs) k d ≡ get_or xs k d
  get_d_used xs k d inside = get_or_append_left xs (replicate (places - length xs) empty) d k inside

  pub laid_length : (xs : List A) → length xs ≤ places → length (laid places empty xs) ≡ places
  laid_length xs few = length-append xs (replicate (places - length xs) empty) ∙ omega (arith, length-replicate (places - length xs) empty)

  -- a table that was laid is used up to its entries
  pub laid_used : (xs : List A) → length xs ≤ places → UsedUpTo (length xs) places empty (laid places empty xs)
  laid_used xs few = record {
    long = laid_length xs few;
    beyond = λ k low high. get_or-append_right xs (replicate (places - length xs) empty) (length xs) k empty refl low ∙ get_or-replicate (places - length xs) (k - length xs) empty empty (omega arith);
  }

  pub laid_front : (xs : List A) (k : ℕ) → length xs ≡ k → take k (laid places empty xs) ≡ xs
  laid_front xs k long = take_at xs (replicate (places - length xs) empty) k long

  -- and a table that is used up to some place was laid
  pub used_laid : (table : List A) (k : ℕ) → k ≤ places → UsedUpTo k places empty table → (table ≡ laid places empty (take k table)) × (length (take k table) ≡ k)
  used_laid table k few used =
      let front : length (take k table) ≡ k = length-take-le k table (omega (arith, used.long)) in
      let same : length table ≡ length (laid places empty (take k table)) = used.long ∙ sym (laid_length (take k table) (omega arith)) in
      (ext_get_or empty table (laid places empty (take k table)) same (at front), front)
    where
      at : length (take k table) ≡ k → (i : ℕ) → i < length table → get_or table i empty ≡ get_or (laid places empty (take k table)) i empty
      at front i inside = ⊎_elim
          (λ (l : i < k). sym (get_d_used (take k table) i empty (omega arith) ∙ get_or-take k table i empty l))
          (λ (l : k ≤ i). used.beyond i l (omega (arith, used.long)) ∙ sym ((laid_used (take k table) (omega arith)).beyond i (omega arith) (omega (arith, used.long))))
          (cases_lt i k)
