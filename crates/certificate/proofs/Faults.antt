-- The first fault, and tests of every number below a bound.
use Rattle.std.proofs.Common.{◌≡◌, ℕ, zero, suc, ◌+◌, ◌<◌, Bool, true, false, ◌&&◌, eqb, List, map, length, get_or, Some, None, Option, ◌⊎◌, inl, inr, sym, refl, ap, ◌∙◌, subst, ⊎_elim, add-one, arith}
use Rattle.std.specs.Option.{IsSome}
use Rattle.std.proofs.lemmas.List.{get_or-map, length-map}
use Rattle.std.proofs.lemmas.Bool.{cases_Bool, cases_eq, and_parts, and_from, and_right}
use Rattle.interface.specs.Rows.{Row, zeros}
use Rattle.interface.specs.Tariffs.{Scale}
use Rattle.lookahead.specs.Gains.{value_of}
use Rattle.interface.specs.Plants.{Model}
use Rattle.certificate.specs.Refusals.{or_else, first_fault, each, level}

pub some_unless : {A : Type 0} (o : Option A) → (o ≡ None → ⊥) → IsSome o
some_unless None h = absurd (h refl)
some_unless (Some a) h = refl

pub or_none : {A : Type 0} (x y : Option A) → or_else x y ≡ None → (x ≡ None) × (y ≡ None)
or_none None y h = (refl, h)
or_none (Some a) y h = let z : ◌≡◌ {A = ℕ} 0 1 = cc in absurd (omega arith)

pub or_some : {A : Type 0} (x y : Option A) (a : A) → or_else x y ≡ Some a → (x ≡ Some a) ⊎ ((x ≡ None) × (y ≡ Some a))
or_some None y a h = inr (refl, h)
or_some (Some b) y a h = inl h

module _ {A : Type 0} (f : ℕ → Option A) where
  pub fault_more : (n : ℕ) → first_fault f n ≡ None → f n ≡ None → first_fault f (n + 1) ≡ None
  fault_more n h e = rw add-one (ap (λ z. or_else z (f n)) h ∙ e)

  pub fault_at : (n i : ℕ) (a : A) → i < n → first_fault f i ≡ None → f i ≡ Some a → first_fault f n ≡ Some a
  fault_at zero i a l h e = absurd (omega arith)
  fault_at (suc n) i a l h e = ⊎_elim
      (λ same. ap (λ z. or_else z (f n)) (subst (λ k. first_fault f k ≡ None) same h) ∙ subst (λ k. f k ≡ Some a) same e)
      (λ other. ap (λ z. or_else z (f n)) (fault_at n i a (omega arith) h e)) (cases_eq i n)

  pub none_below : (n k : ℕ) → first_fault f n ≡ None → k < n → f k ≡ None
  none_below zero k h l = absurd (omega arith)
  none_below (suc n) k h l = ⊎_elim
      (λ same. subst (λ j. f j ≡ None) (sym same) (or_none (first_fault f n) (f n) h).1)
      (λ other. none_below n k (or_none (first_fault f n) (f n) h).0 (omega arith)) (cases_eq k n)

  pub none_from : (n : ℕ) → ((k : ℕ) → k < n → f k ≡ None) → first_fault f n ≡ None
  none_from zero h = refl
  none_from (suc n) h = ap (λ z. or_else z (f n)) (none_from n (λ k l. h k (omega arith))) ∙ h n (omega arith)

  -- the first below n that has a fault, and which
  pub record FirstAt (n : ℕ) (a : A) : Type 0 where
    pub at : ℕ
    pub below : at < n
    pub there : f at ≡ Some a
    pub before : (j : ℕ) → j < at → f j ≡ None

  pub first_at : (n : ℕ) (a : A) → first_fault f n ≡ Some a → FirstAt n a
  first_at zero a h = let z : ◌≡◌ {A = ℕ} 0 1 = cc in absurd (omega arith)
  first_at (suc n) a h = ⊎_elim
      (λ earlier. let found = first_at n a earlier in record { at = found.at; below = omega (arith, found.below); there = found.there; before = found.before })
      (λ last. record { at = n; below = omega arith; there = last.1; before = λ j l. none_below n j last.0 l }) (or_some (first_fault f n) (f n) a h)

module _ (p : ℕ → Bool) where
  pub each_at : (n k : ℕ) → each p n ≡ true → k < n → p k ≡ true
  each_at zero k h l = absurd (omega arith)
  each_at (suc n) k h l = ⊎_elim
      (λ same. subst (λ j. p j ≡ true) (sym same) (and_parts (each p n) (p n) h).1)
      (λ other. each_at n k (and_parts (each p n) (p n) h).0 (omega arith)) (cases_eq k n)

  pub each_from : (n : ℕ) → ((k : ℕ) → k < n → p k ≡ true) → each p n ≡ true
  each_from zero h = refl
  each_from (suc n) h = and_from (each p n) (p n) (each_from n (λ k l. h k (omega arith))) (h n (omega arith))

  -- one that fails
  pub each_not : (n k : ℕ) → k < n → p k ≡ false → each p n ≡ false
  each_not zero k l h = absurd (omega arith)
  each_not (suc n) k l h = ⊎_elim
      (λ same. and_right (each p n) (p n) (subst (λ j. p j ≡ false) same h))
      (λ other. ap (λ z. z && p n) (each_not n k (omega arith) h)) (cases_eq k n)

  -- where not all hold, one fails
  pub each_failed : (n : ℕ) → each p n ≡ false → (k : ℕ) × (p k ≡ false)
  each_failed zero h = let z : ◌≡◌ {A = ℕ} 0 1 = cc in absurd (omega arith)
  each_failed (suc n) h = ⊎_elim (λ before. (n, ap (λ z. z && p n) (sym before) ∙ h)) (λ before. each_failed n before) (cases_Bool (each p n))

-- the value of a state is the row of its amount
pub value_read : {A : Type 0} (row : A → Row) (t : Scale) (xs : List A) (s : ℕ) (x : A) → s < length xs → x ≡ get_or xs s x → value_of t (map row xs) s ≡ row x
value_read row t xs s x l e = get_or-map row xs s x (zeros t.places) l ∙ ap row (sym e)

-- lengths, of amounts or of their rows
pub level_map : {A : Type 0} (row : A → Row) (m : Model) (xs : List A) (ps : List ℕ) → level m (map row xs) ps ≡ (eqb (length xs) m.states && eqb (length ps) m.states)
level_map row m xs ps = ap (λ n. eqb n m.states && eqb (length ps) m.states) (length-map xs row)
