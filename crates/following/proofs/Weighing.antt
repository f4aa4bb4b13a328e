-- Amounts weighed and added up, over the outcomes of a pair and over lists of outcome numbers.
use Rattle.std.proofs.Common.{◌≡◌, ℕ, zero, suc, ◌+◌, ◌*◌, ◌≤◌, true, List, [], ◌∷◌, ◌++◌, map, Some, sym, refl, ap, ◌∙◌, subst, arith}
use Rattle.std.specs.Bool.{⊤}
use Rattle.std.specs.List.{slice_get, sum_by}
use Rattle.std.proofs.lemmas.List.Sums.{sum_by-cons}
use Rattle.interface.specs.declared.plant.Outcome.{Outcome}
use Rattle.interface.specs.Plants.{weights}
use Rattle.following.specs.Rules.{begun}
use Rattle.following.proofs.Groups.{Sums, Ordered, none_plus, swap_middle, times_none, times_plus, times_add, times_mul, times_swap, from_same, plus_both, times_both}

-- Something holds of each outcome with its number, where the first has number k.
abbrev pub Each : (ℕ → Outcome → Type 0) → ℕ → List Outcome → Type 0
Each P k [] = ⊤
Each P k (o ∷ os) = P k o × Each P (suc k) os

each_on : (P : ℕ → Outcome → Type 0) (k : ℕ) (os : List Outcome) → ((i : ℕ) (o : Outcome) → slice_get os i ≡ Some o → P (k + i) o) → Each P k os
each_on P k [] h = tt
each_on P k (o ∷ os) h = (
  subst (λ j. P j o) (let e : k + 0 ≡ k = omega arith in e) (h zero o refl),
  each_on P (suc k) os (λ i o' there. subst (λ j. P j o') (let e : k + suc i ≡ suc k + i = omega arith in e) (h (suc i) o' there)),
)

pub each : (P : ℕ → Outcome → Type 0) (os : List Outcome) → ((i : ℕ) (o : Outcome) → slice_get os i ≡ Some o → P i o) → Each P 0 os
each P os h = each_on P 0 os (λ i o there. subst (λ j. P j o) (let e : i ≡ 0 + i = omega arith in e) (h i o there))

module _ {A : Type 0} (S : Sums A) where
  open S use {none, plus, times, assoc, comm, plus_none, times_zero, times_suc}

  -- Each outcome's amount times its weight, added up.
  abbrev pub over : (ℕ → Outcome → A) → ℕ → List Outcome → A
  over f k [] = none
  over f k (o ∷ os) = plus (times o.weight (f k o)) (over f (suc k) os)

  -- Each list's amount times its weight, added up.
  abbrev pub total : (List ℕ → ℕ) → (List ℕ → A) → List (List ℕ) → A
  total w c [] = none
  total w c (ks ∷ kss) = plus (times (w ks) (c ks)) (total w c kss)

  pub over_plus : (f g : ℕ → Outcome → A) (k : ℕ) (os : List Outcome) → over (λ j o. plus (f j o) (g j o)) k os ≡ plus (over f k os) (over g k os)
  over_plus f g k [] = sym (plus_none none)
  over_plus f g k (o ∷ os) =
      ap (λ z. plus z (over (λ j o. plus (f j o) (g j o)) (suc k) os)) (times_plus S o.weight (f k o) (g k o))
      ∙ ap (plus (plus (times o.weight (f k o)) (times o.weight (g k o)))) (over_plus f g (suc k) os)
      ∙ swap_middle S (times o.weight (f k o)) (times o.weight (g k o)) (over f (suc k) os) (over g (suc k) os)

  pub over_times : (n : ℕ) (f : ℕ → Outcome → A) (k : ℕ) (os : List Outcome) → over (λ j o. times n (f j o)) k os ≡ times n (over f k os)
  over_times n f k [] = sym (times_none S n)
  over_times n f k (o ∷ os) =
      ap (λ z. plus z (over (λ j o. times n (f j o)) (suc k) os)) (times_swap S o.weight n (f k o))
      ∙ ap (plus (times n (times o.weight (f k o)))) (over_times n f (suc k) os)
      ∙ sym (times_plus S n (times o.weight (f k o)) (over f (suc k) os))

  pub over_one : (a : A) (k : ℕ) (os : List Outcome) → over (λ j o. a) k os ≡ times (weights os) a
  over_one a k [] = sym (times_zero a)
  over_one a k (o ∷ os) = ap (plus (times o.weight a)) (over_one a (suc k) os) ∙ sym (times_add S o.weight (weights os) a)

  -- an outcome of weight 0 counts for nothing
  weigh_same : (n : ℕ) (a b : A) → (1 ≤ n → a ≡ b) → times n a ≡ times n b
  weigh_same zero a b h = times_zero a ∙ sym (times_zero b)
  weigh_same (suc n) a b h = ap (times (suc n)) (h (omega arith))

  pub over_same : (f g : ℕ → Outcome → A) (k : ℕ) (os : List Outcome) → Each (λ j o. 1 ≤ o.weight → f j o ≡ g j o) k os → over f k os ≡ over g k os
  over_same f g k [] h = refl
  over_same f g k (o ∷ os) h =
      ap (λ z. plus z (over f (suc k) os)) (weigh_same o.weight (f k o) (g k o) h.0) ∙ ap (plus (times o.weight (g k o))) (over_same f g (suc k) os h.1)

  total_append : (w : List ℕ → ℕ) (c : List ℕ → A) (xs ys : List (List ℕ)) → total w c (xs ++ ys) ≡ plus (total w c xs) (total w c ys)
  total_append w c [] ys = sym (none_plus S (total w c ys))
  total_append w c (x ∷ xs) ys = ap (plus (times (w x) (c x))) (total_append w c xs ys) ∙ sym (assoc (times (w x) (c x)) (total w c xs) (total w c ys))

  -- the lists that begin with k
  total_behind : (w w' : List ℕ → ℕ) (c c' : List ℕ → A) (n k : ℕ) → ((ks : List ℕ) → (w (k ∷ ks) ≡ n * w' ks) × (c (k ∷ ks) ≡ c' ks)) → (kss : List (List ℕ))
      → total w c (map (λ ks. k ∷ ks) kss) ≡ times n (total w' c' kss)
  total_behind w w' c c' n k h [] = sym (times_none S n)
  total_behind w w' c c' n k h (ks ∷ kss) =
      ap (λ z. plus z (total w c (map (λ ks. k ∷ ks) kss))) (ap (λ z. times z (c (k ∷ ks))) (h ks).0 ∙ ap (times (n * w' ks)) (h ks).1 ∙ times_mul S n (w' ks) (c' ks))
      ∙ ap (plus (times n (times (w' ks) (c' ks)))) (total_behind w w' c c' n k h kss)
      ∙ sym (times_plus S n (times (w' ks) (c' ks)) (total w' c' kss))

  -- One outcome first, then the rest: the outcomes' weights may be taken out.
  pub total_begun : (w : List ℕ → ℕ) (w' : ℕ → Outcome → List ℕ → ℕ) (c : List ℕ → A) (c' : ℕ → Outcome → List ℕ → A) (rest : ℕ → Outcome → List (List ℕ)) (k : ℕ) (os : List Outcome)
      → Each (λ j o. (ks : List ℕ) → (w (j ∷ ks) ≡ o.weight * w' j o ks) × (c (j ∷ ks) ≡ c' j o ks)) k os
      → total w c (begun rest k os) ≡ over (λ j o. total (w' j o) (c' j o) (rest j o)) k os
  total_begun w w' c c' rest k [] h = refl
  total_begun w w' c c' rest k (o ∷ os) h =
      total_append w c (map (λ ks. k ∷ ks) (rest k o)) (begun rest (suc k) os)
      ∙ ap (λ z. plus z (total w c (begun rest (suc k) os))) (total_behind w (w' k o) c (c' k o) o.weight k h.0 (rest k o))
      ∙ ap (plus (times o.weight (total (w' k o) (c' k o) (rest k o)))) (total_begun w w' c c' rest (suc k) os h.1)

  -- what comes on top of each list's amount counts as often as all lists weigh
  pub total_plus : (w : List ℕ → ℕ) (a : A) (c : List ℕ → A) (kss : List (List ℕ)) → total w (λ ks. plus a (c ks)) kss ≡ plus (times (sum_by w kss) a) (total w c kss)
  total_plus w a c [] = sym (ap (λ z. plus z none) (times_zero a) ∙ plus_none none)
  total_plus w a c (ks ∷ kss) =
      ap (λ z. plus z (total w (λ ks. plus a (c ks)) kss)) (times_plus S (w ks) a (c ks))
      ∙ ap (plus (plus (times (w ks) a) (times (w ks) (c ks)))) (total_plus w a c kss)
      ∙ swap_middle S (times (w ks) a) (times (w ks) (c ks)) (times (sum_by w kss) a) (total w c kss)
      ∙ ap (λ z. plus z (plus (times (w ks) (c ks)) (total w c kss)))
      (sym (times_add S (w ks) (sum_by w kss) a) ∙ ap (λ z. times z a) (sym (sum_by-cons w ks kss)))

module _ {A : Type 0} (S : Sums A) (O : Ordered S) where
  open S use {none, plus, times, times_zero}
  open O use {at_most}

  weigh_most : (n : ℕ) (a b : A) → (1 ≤ n → at_most a b ≡ true) → at_most (times n a) (times n b) ≡ true
  weigh_most zero a b h = from_same S O (times 0 a) (times 0 b) (times_zero a ∙ sym (times_zero b))
  weigh_most (suc n) a b h = times_both S O (suc n) a b (h (omega arith))

  pub over_most : (f g : ℕ → Outcome → A) (k : ℕ) (os : List Outcome) → Each (λ j o. 1 ≤ o.weight → at_most (f j o) (g j o) ≡ true) k os → at_most (over S f k os) (over S g k os) ≡ true
  over_most f g k [] h = from_same S O none none refl
  over_most f g k (o ∷ os) h =
      plus_both S O (times o.weight (f k o)) (times o.weight (g k o)) (over S f (suc k) os) (over S g (suc k) os)
      (weigh_most o.weight (f k o) (g k o) h.0) (over_most f g (suc k) os h.1)

-- numbers are such amounts
abbrev pub numbers : Sums ℕ
numbers = record {
  none = 0;
  plus = λ a b. a + b;
  times = λ n a. n * a;
  assoc = λ a b c. omega arith;
  comm = λ a b. omega arith;
  plus_none = λ a. omega arith;
  times_zero = λ a. omega arith;
  times_suc = λ n a. omega arith;
}

pub weight_total : (w : List ℕ → ℕ) (kss : List (List ℕ)) → total numbers w (λ ks. 1) kss ≡ sum_by w kss
weight_total w [] = refl
weight_total w (ks ∷ kss) = let ih = weight_total w kss in omega (arith, sum_by-cons w ks kss)
