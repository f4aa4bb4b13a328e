-- How far rows reach, and that no step of a look-ahead or a gain is absent under a table within reach.
use Rattle.std.proofs.Common.{◌≡◌, ℕ, zero, suc, ◌+◌, ◌*◌, ◌<◌, ◌≤◌, max, Bool, true, false, cond, List, [], ◌∷◌, map, length, get_or, ℤ, pos, negsuc, ◌+ℤ◌, ◌-ℤ◌, ◌*ℤ◌, neg_ℤ, nat_abs, Some, None, Option, sym, refl, ap, ◌∙◌, subst, arith}
use lib.IntN.{+ℤ_assoc, +ℤ_idr}
use Rattle.std.proofs.lemmas.Nat.{mul-le}
use Rattle.std.proofs.lemmas.Int.{ints}
use Rattle.std.proofs.lemmas.Bool.Decides.{nat_tests}
use Rattle.std.specs.List.{slice_get}
use Rattle.interface.specs.declared.plant.Bill.{Bill}
use Rattle.interface.specs.declared.plant.Outcome.{Outcome}
use Rattle.interface.specs.Limits.{whole, most_reach, most_factor, most_price, most_value}
use Rattle.interface.specs.Plants.{Model, Lawful, LawfulBill, weights, Inside, bill_of, outcomes_of}
use Rattle.interface.specs.Rows.{Row, zeros, plus, minus, times, reach}
use Rattle.interface.specs.Tariffs.{Scale, LawfulScale, price, summable, multipliable, billable}
use Rattle.lookahead.specs.Gains.{value_of, expected, look_ahead, gain, Near, Within}
use Rattle.lookahead.specs.Steps.{then, summed, lessened, multiplied, priced, add_outcome, add_outcomes, ahead_of, above_own, look_ahead_steps, gain_of, gain_steps}

-- reaches
abs_plus : (x y : ℤ) → nat_abs (x +ℤ y) ≤ nat_abs x + nat_abs y
abs_plus x y = omega (arith, ints)

abs_neg : (n : ℕ) → nat_abs (neg_ℤ (pos n)) ≡ n
abs_neg zero = refl
abs_neg (suc n) = refl

abs_times : (n : ℕ) (x : ℤ) → nat_abs (pos n *ℤ x) ≡ n * nat_abs x
abs_times n (pos m) = refl
abs_times n (negsuc m) = abs_neg (n * suc m)

pub reach_plus : (u v : Row) → reach (plus u v) ≤ reach u + reach v
reach_plus [] v = omega arith
reach_plus (x ∷ u) [] = omega arith
reach_plus (x ∷ u) (y ∷ v) = omega (arith, abs_plus x y, reach_plus u v)

abs_minus : (x y : ℤ) → nat_abs (x -ℤ y) ≤ nat_abs x + nat_abs y
abs_minus x y = omega (arith, ints)

pub reach_minus : (u v : Row) → reach (minus u v) ≤ reach u + reach v
reach_minus [] v = omega arith
reach_minus (x ∷ u) [] = omega arith
reach_minus (x ∷ u) (y ∷ v) = omega (arith, abs_minus x y, reach_minus u v)

pub reach_times : (n : ℕ) (u : Row) → reach (times n u) ≤ n * reach u
reach_times n [] = omega arith
reach_times n (x ∷ u) =
    let same : n ≤ n = omega arith in
    let left = mul-le n (nat_abs x) n (max (nat_abs x) (reach u)) same (omega arith) in
    let right = mul-le n (reach u) n (max (nat_abs x) (reach u)) same (omega arith) in
    omega (arith, abs_times n x, left, right, reach_times n u)

pub zeros_reach : (n : ℕ) → reach (zeros n) ≡ 0
zeros_reach zero = refl
zeros_reach (suc n) = omega (arith, zeros_reach n)

-- lengths
pub length_plus : (n : ℕ) (u v : Row) → length u ≡ n → length v ≡ n → length (plus u v) ≡ n
length_plus n [] v p q = p
length_plus n (x ∷ u) [] p q = absurd (omega arith)
length_plus n (x ∷ u) (y ∷ v) p q = let ih = length_plus (length u) u v refl (omega arith) in omega arith

pub length_times : (n : ℕ) (u : Row) → length (times n u) ≡ length u
length_times n [] = refl
length_times n (x ∷ u) = ap suc (length_times n u)

-- sums
pub plus_assoc : (u v w : Row) → plus (plus u v) w ≡ plus u (plus v w)
plus_assoc [] v w = refl
plus_assoc (x ∷ u) [] w = refl
plus_assoc (x ∷ u) (y ∷ v) [] = refl
plus_assoc (x ∷ u) (y ∷ v) (z ∷ w) = simp (+ℤ_assoc, plus_assoc u v w)

pub plus_zeros : (n : ℕ) (u : Row) → length u ≡ n → plus u (zeros n) ≡ u
plus_zeros n [] p = refl
plus_zeros zero (x ∷ u) p = absurd (omega arith)
plus_zeros (suc n) (x ∷ u) p = simp (+ℤ_idr, plus_zeros n u (omega arith))

-- each step is there
summed_there : (u v : Row) → reach u + reach v ≤ most_reach → summed u v ≡ Some (plus u v)
summed_there u v h = let e : summable u v ≡ true = grind (arith, nat_tests) in ap (λ z. cond z (Some (plus u v)) None) e

lessened_there : (u v : Row) → reach u + reach v ≤ most_reach → lessened u v ≡ Some (minus u v)
lessened_there u v h = let e : summable u v ≡ true = grind (arith, nat_tests) in ap (λ z. cond z (Some (minus u v)) None) e

multiplied_there : (n : ℕ) (u : Row) → n ≤ most_factor → n * reach u ≤ most_reach → multiplied n u ≡ Some (times n u)
multiplied_there n u f h = let e : multipliable n u ≡ true = grind (arith, nat_tests) in ap (λ z. cond z (Some (times n u)) None) e

priced_there : (t : Scale) (b : Bill) → LawfulBill b → priced t b ≡ Some (price t b)
priced_there t b l =
    let d = l.dark in
    let p = l.paid in
    let e : billable b ≡ true = grind (arith, nat_tests) in ap (λ z. cond z (Some (price t b)) None) e

near_at : (vs : List Row) (s : ℕ) → Near vs → s < length vs → (v : Row) → (reach (get_or vs s v) ≤ most_value) × (slice_get vs s ≡ Some (get_or vs s v))
near_at [] s h l v = absurd (omega arith)
near_at (w ∷ vs) zero h l v = (h.0, refl)
near_at (w ∷ vs) (suc s) h l v = near_at vs s h.1 (omega arith) v

-- every value has n places
abbrev pub EachFit : ℕ → List Row → Type 0
EachFit n vs = (s : ℕ) → s < length vs → length (get_or vs s (zeros n)) ≡ n

module _ (t : Scale) (vs : List Row) (near : Near vs) (fit : EachFit t.places vs) where
  -- the value of a next state, weighed
  weighed : ℕ → ℕ → Row
  weighed w s = times w (value_of t vs s)

  weighed_reach : (w s : ℕ) → s < length vs → reach (weighed w s) ≤ w * most_value
  unfolding weighed
  weighed_reach w s l =
      let same : w ≤ w = omega arith in
      let far = mul-le w (reach (value_of t vs s)) w most_value same (near_at vs s near l (zeros t.places)).0 in
      omega (arith, reach_times w (value_of t vs s), far)

  one_there : (u : Row) (o : Outcome) → o.next < length vs → o.weight ≤ most_factor → reach u + o.weight * most_value ≤ most_reach
      → add_outcome vs u o ≡ Some (plus u (times o.weight (value_of t vs o.next)))
  unfolding weighed
  one_there u o l f h =
      let at = near_at vs o.next near l (zeros t.places) in
      let far = weighed_reach o.weight o.next l in
      let same : o.weight ≤ o.weight = omega arith in
      let times-far : o.weight * reach (value_of t vs o.next) ≤ most_reach = omega (arith, mul-le o.weight (reach (value_of t vs o.next)) o.weight most_value same at.0) in
      ap (λ z. then z (λ v. then (multiplied o.weight v) (summed u))) at.1
      ∙ ap (λ z. then z (summed u)) (multiplied_there o.weight (value_of t vs o.next) f times-far)
      ∙ summed_there u (times o.weight (value_of t vs o.next)) (omega arith)

  pub all_there : (os : List Outcome) (u : Row) → Inside (length vs) os → length u ≡ t.places → weights os ≤ most_factor → reach u + weights os * most_value ≤ most_reach
      → add_outcomes vs u os ≡ Some (plus u (expected t vs os))
  unfolding weighed
  all_there [] u i l f h = ap {B = Option Row} Some (sym (plus_zeros t.places u l))
  all_there (o ∷ os) u i l f h =
      let p : Row = times o.weight (value_of t vs o.next) in
      let far = weighed_reach o.weight o.next i.0 in
      let long : length p ≡ t.places = length_times o.weight (value_of t vs o.next) ∙ fit o.next i.0 in
      let one = one_there u o i.0 (omega arith) (omega arith) in
      let rest = all_there os (plus u p) i.1 (length_plus t.places u p l long) (omega arith) (omega (arith, reach_plus u p)) in
      ap (λ z. then z (λ w. add_outcomes vs w os)) one ∙ rest ∙ ap {B = Option Row} Some (plus_assoc u p (expected t vs os))

  pub expected_reach : (os : List Outcome) → Inside (length vs) os → reach (expected t vs os) ≤ weights os * most_value
  unfolding weighed
  expected_reach [] i = omega (arith, zeros_reach t.places)
  expected_reach (o ∷ os) i =
      omega (arith, reach_plus (times o.weight (value_of t vs o.next)) (expected t vs os), weighed_reach o.weight o.next i.0, expected_reach os i.1)

pub fits_map : {A : Type 0} (row : A → Row) (n : ℕ) → ((a : A) → length (row a) ≡ n) → (xs : List A) → EachFit n (map row xs)
fits_map row n f [] s l = absurd (omega arith)
fits_map row n f (x ∷ xs) zero l = f x
fits_map row n f (x ∷ xs) (suc s) l = fits_map row n f xs s (omega arith)

module _ (m : Model) (lawful : Lawful m) (t : Scale) (scaled : LawfulScale t) (vs : List Row) (within : Within m vs) (fit : EachFit t.places vs) where
  module _ (s x : ℕ) (feasible : m.feasible s x ≡ true) where
    paid : Row
    paid = price t (m.bill s x)

    paid_reach : reach (times whole paid) ≤ whole * most_price
    unfolding paid
    paid_reach =
        let same : whole ≤ whole = omega arith in
        let far = mul-le whole (reach (price t (m.bill s x))) whole most_price same (scaled.bounded (m.bill s x) (lawful.billed s x feasible)) in
        omega (arith, reach_times whole (price t (m.bill s x)), far)

    paid_fits : length (times whole paid) ≡ t.places
    unfolding paid
    paid_fits =
        length_times whole (price t (m.bill s x))
        ∙ length_plus t.places (times (m.bill s x).seconds t.second) (times (m.bill s x).cents t.cent)
        (length_times (m.bill s x).seconds t.second ∙ scaled.second_fits) (length_times (m.bill s x).cents t.cent ∙ scaled.cent_fits)

    inside : Inside (length vs) (m.outcomes s x)
    inside = subst (λ n. Inside n (m.outcomes s x)) (sym within.long) (lawful.spread s x feasible).inside

    pub ahead_reach : reach (look_ahead m t vs s x) ≤ 11000000000000000
    unfolding paid
    ahead_reach =
        omega (
          arith,
          reach_plus (times whole (price t (m.bill s x))) (expected t vs (m.outcomes s x)),
          paid_reach,
          expected_reach t vs within.near fit (m.outcomes s x) inside,
          (lawful.spread s x feasible).shared,
        )

    pub ahead_there : look_ahead_steps m t vs s x ≡ Some (look_ahead m t vs s x)
    unfolding paid
    ahead_there =
        let shared = (lawful.spread s x feasible).shared in
        let far = paid_reach in
        let small : whole * reach (price t (m.bill s x)) ≤ most_reach =
        let same : whole ≤ whole = omega arith in
        omega (arith, mul-le whole (reach (price t (m.bill s x))) whole most_price same (scaled.bounded (m.bill s x) (lawful.billed s x feasible))) in
        ap (λ z. cond z (then (priced t (m.bill s x)) (λ p. then (multiplied whole p) (λ u. add_outcomes vs u (m.outcomes s x)))) None) feasible
        ∙ ap (λ z. then z (λ p. then (multiplied whole p) (λ u. add_outcomes vs u (m.outcomes s x)))) (priced_there t (m.bill s x) (lawful.billed s x feasible))
        ∙ ap (λ z. then z (λ u. add_outcomes vs u (m.outcomes s x))) (multiplied_there whole (price t (m.bill s x)) (omega arith) small)
        ∙ all_there t vs within.near fit (m.outcomes s x) (times whole (price t (m.bill s x))) inside paid_fits (omega arith) (omega arith)

    pub gain_there : gain_steps m t vs s x ≡ Some (gain m t vs s x)
    gain_there =
        let l : s < length vs = omega (arith, within.long, (lawful.in_range s x feasible).0) in
        let at = near_at vs s within.near l (zeros t.places) in
        let same : whole ≤ whole = omega arith in
        let far : whole * reach (value_of t vs s) ≤ whole * most_value = mul-le whole (reach (value_of t vs s)) whole most_value same at.0 in
        let near-own = reach_times whole (value_of t vs s) in
        let ahead = ahead_reach in
        ap (λ z. then z (λ l. then (slice_get vs s) (λ v. then (multiplied whole v) (lessened l)))) ahead_there
        ∙ ap (λ z. then z (λ v. then (multiplied whole v) (lessened (look_ahead m t vs s x)))) at.1
        ∙ ap (λ z. then z (lessened (look_ahead m t vs s x))) (multiplied_there whole (value_of t vs s) (omega arith) (omega arith))
        ∙ lessened_there (look_ahead m t vs s x) (times whole (value_of t vs s)) (omega arith)

    pub gain_reach : reach (gain m t vs s x) ≤ 21000000000000000
    gain_reach =
        let l : s < length vs = omega (arith, within.long, (lawful.in_range s x feasible).0) in
        let at = near_at vs s within.near l (zeros t.places) in
        let same : whole ≤ whole = omega arith in
        omega (
          arith,
          reach_minus (look_ahead m t vs s x) (times whole (value_of t vs s)),
          ahead_reach,
          reach_times whole (value_of t vs s),
          mul-le whole (reach (value_of t vs s)) whole most_value same at.0,
        )

  by_feasible : (b : Bool) (s x : ℕ) → m.feasible s x ≡ b → (o : Option Row) (u : Row) → (m.feasible s x ≡ true → o ≡ Some u) → (m.feasible s x ≡ false → o ≡ None) → o ≡ cond b (Some u) None
  by_feasible true s x e o u yes-case no-case = yes-case e
  by_feasible false s x e o u yes-case no-case = no-case e

  pub ahead_answer : (s x : ℕ) → look_ahead_steps m t vs s x ≡ cond (m.feasible s x) (Some (look_ahead m t vs s x)) None
  ahead_answer s x = by_feasible (m.feasible s x) s x refl (look_ahead_steps m t vs s x) (look_ahead m t vs s x) (ahead_there s x)
      (λ e. ap (λ z. cond z (then (priced t (m.bill s x)) (λ p. then (multiplied whole p) (λ u. add_outcomes vs u (m.outcomes s x)))) None) e)

  pub gain_answer : (s x : ℕ) → gain_steps m t vs s x ≡ cond (m.feasible s x) (Some (gain m t vs s x)) None
  gain_answer s x = by_feasible (m.feasible s x) s x refl (gain_steps m t vs s x) (gain m t vs s x) (gain_there s x)
      (λ e. ap (λ z. then (cond z (then (priced t (m.bill s x)) (λ p. then (multiplied whole p) (λ u. add_outcomes vs u (m.outcomes s x)))) None) (λ l. then (slice_get vs s) (λ v. then (multiplied whole v) (lessened l)))) e)

  -- with the bill at hand
  billed_steps : (f : Bool) (own b : Bill) (os : List Outcome) (s : ℕ) → cond f (Some own) None ≡ Some b → gain_of t vs b (cond f os []) s ≡ then (cond f (ahead_of t vs own os) None) (above_own vs s)
  billed_steps true own b os s e = let same : own ≡ b = cc in ap (λ z. gain_of t vs z os s) (sym same)
  billed_steps false own b os s e = let z : ◌≡◌ {A = ℕ} 0 1 = cc in absurd (omega arith)

  pub feasible_billed : (s x : ℕ) (b : Bill) → bill_of m s x ≡ Some b → m.feasible s x ≡ true
  feasible_billed s x b e = by_test (m.feasible s x) e
    where
      by_test : (f : Bool) → cond f (Some (m.bill s x)) None ≡ Some b → f ≡ true
      by_test true h = refl
      by_test false h = let z : ◌≡◌ {A = ℕ} 0 1 = cc in absurd (omega arith)

  pub billed_gain : (s x : ℕ) (b : Bill) → bill_of m s x ≡ Some b → gain_of t vs b (outcomes_of m s x) s ≡ Some (gain m t vs s x)
  billed_gain s x b e = billed_steps (m.feasible s x) (m.bill s x) b (m.outcomes s x) s e ∙ gain_there s x (feasible_billed s x b e)
