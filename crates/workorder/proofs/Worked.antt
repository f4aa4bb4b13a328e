-- The worked figures. A table of floors, tested by computation, shows that no work order costs less. Assumes nothing.
use Rattle.std.proofs.Common.{◌≡◌, ℕ, zero, suc, ◌+◌, ◌-◌, ◌/◌, ◌%◌, ◌^◌, ◌<◌, ◌≤◌, Bool, true, cond, ◌&&◌, ◌||◌, eqb, leb, List, [], ◌∷◌, length, get_or, sym, refl, ap, ◌∙◌, subst, inl, inr, arith}
use Rattle.std.proofs.lemmas.Bool.{and_from, and_parts, cases_lt, cond-true, eq-eqb, leb-true, or_left, or_right}
use Rattle.workorder.proofs.Portfolios.{none_in_zero, without_less}
use Rattle.workorder.proofs.WorkOrders.{order_ind, order_next, order_none}
use Rattle.workorder.specs.Figures.{Figures, arc, circle, closed, row}
use Rattle.workorder.specs.Orders.{Holds, OrderFor}
use Rattle.workorder.specs.Steps.{Leads, without}
use Rattle.workorder.specs.declared.Arc.{Arc}
use mathlib.Core.List.Memᴰ
use mathlib.Core.List.{Memᴰ as In}

abbrev holds : ℕ → ℕ → Bool
holds x i = eqb ((x / 2 ^ (i - 1)) % 2) 1

-- the arc to a part of x, where it leads there, costs at least the rise of the floor
abbrev lifts : List ℕ → ℕ → Arc → Bool
lifts floors x a =
    cond (holds x a.to && (eqb a.from 0 || holds (without x a.to) a.from)) (leb (get_or floors x 0) (get_or floors (without x a.to) 0 + a.cents)) true

abbrev every_arc : (Arc → Bool) → List Arc → Bool
every_arc p [] = true
every_arc p (a ∷ rest) = p a && every_arc p rest

abbrev every_below : (ℕ → Bool) → ℕ → Bool
every_below p zero = true
every_below p (suc n) = p n && every_below p n

at_arc : (p : Arc → Bool) (arcs : List Arc) → every_arc p arcs ≡ true → (a : Arc) → In a arcs → p a ≡ true
at_arc p [] t a m = absurd (Memᴰ.not-nil m)
at_arc p (b ∷ rest) t a m =
    let both = and_parts (p b) (every_arc p rest) t in
    elim (Memᴰ.cases_cons m) [ inl e ↦ ap p e ∙ both.0 | inr n ↦ at_arc p rest both.1 a n ]

at_number : (p : ℕ → Bool) (n : ℕ) → every_below p n ≡ true → (k : ℕ) → k < n → p k ≡ true
at_number p zero t k l = absurd (omega arith)
at_number p (suc n) t k l =
    let both = and_parts (p n) (every_below p n) t in
    elim (cases_lt k n) [ inl h ↦ at_number p n both.1 k h | inr h ↦ (let e : k ≡ n = omega arith in ap p e ∙ both.0) ]

module _ (arcs : List Arc) (floors : List ℕ) where
  -- floors that rise no faster than the arcs cost are below every work order
  floor_under : get_or floors 0 0 ≡ 0 → every_below (λ x. every_arc (lifts floors x) arcs) (length floors) ≡ true → (x c : ℕ) → OrderFor arcs x c → x < length floors → get_or floors x 0 ≤ c
  floor_under zero-floor test = order_ind arcs (λ x c. x < length floors → get_or floors x 0 ≤ c) (λ _. omega arith) step
    where
      step : (x c : ℕ) (a : Arc) → Holds x a.to → In a arcs → Leads (without x a.to) a.to a → OrderFor arcs (without x a.to) c
          → (without x a.to < length floors → get_or floors (without x a.to) 0 ≤ c) → x < length floors → get_or floors x 0 ≤ c + a.cents
      step x c a held m leads o below l =
          let y = without x a.to in
          let from : (eqb a.from 0 || holds y a.from) ≡ true = elim leads.1 [ inl e ↦ or_left _ _ (eq-eqb a.from 0 e) | inr h ↦ or_right _ _ (eq-eqb _ 1 h.1) ] in
          let leads-there = and_from (holds x a.to) (eqb a.from 0 || holds y a.from) (eq-eqb _ 1 held.1) from in
          let lifted = at_arc (lifts floors x) arcs (at_number (λ k. every_arc (lifts floors k) arcs) (length floors) test x l) a m in
          let rise = leb-true (get_or floors x 0) (get_or floors y 0 + a.cents) (sym (cond-true _ _ true leads-there) ∙ lifted) in
          let less = without_less x a.to held in
          omega (arith, below (omega arith))

-- parts 1 and 2, the one after the other
circle_order : OrderFor circle 3 11
circle_order =
    order_next circle 3 10 (arc 1 2 1) (omega arith, refl)
    (order_next circle 1 0 (arc 0 1 10) (omega arith, refl) (order_none circle) (In.head refl) (refl, inl refl))
    (In.tail (In.tail (In.head refl))) (refl, inr (omega arith, refl))

row_first_order : OrderFor row 1 364
row_first_order = order_next row 1 0 (arc 0 1 364) (omega arith, refl) (order_none row) (In.head refl) (refl, inl refl)

row_order : OrderFor row 3 891
row_order =
    order_next row 3 364 (arc 1 2 527) (omega arith, refl) row_first_order (In.tail (In.tail (In.head refl))) (refl, inr (omega arith, refl))

circle_floors : List ℕ
circle_floors = 0 ∷ 10 ∷ 10 ∷ 11 ∷ []

row_floors : List ℕ
row_floors = 0 ∷ 364 ∷ 828 ∷ 891 ∷ []

-- with no arc from the door nothing is done
closed_does_nothing : (x c : ℕ) → OrderFor closed x c → x ≡ 0
closed_does_nothing = order_ind closed (λ x c. x ≡ 0) refl step
  where
    inside : (a : Arc) → In a closed → a.from ≡ 0 → ⊥
    inside a m e =
        elim (Memᴰ.cases_cons m)
        [ inl p ↦ omega (arith, e, ap (λ (b : Arc). b.from) p) | inr n ↦ elim (Memᴰ.cases_cons n) [ inl p ↦ omega (arith, e, ap (λ (b : Arc). b.from) p) | inr k ↦ Memᴰ.not-nil k ] ]

    step : (x c : ℕ) (a : Arc) → Holds x a.to → In a closed → Leads (without x a.to) a.to a → OrderFor closed (without x a.to) c → without x a.to ≡ 0 → x ≡ 0
    step x c a held m leads o z = elim leads.1 [ inl e ↦ absurd (inside a m e) | inr h ↦ absurd (none_in_zero a.from (subst (λ (k : ℕ). Holds k a.from) z h)) ]

pub figures : Figures
unfolding circle_floors row_floors
figures =
    record {
      circle_both = (∣ circle_order ∣₁, λ d o. floor_under circle circle_floors refl refl 3 d o (omega arith));
      row_both = (∣ row_order ∣₁, λ d o. floor_under row row_floors refl refl 3 d o (omega arith));
      row_first = (∣ row_first_order ∣₁, λ d o. floor_under row row_floors refl refl 1 d o (omega arith));
      closed_both = λ c o. omega (arith, closed_does_nothing 3 c o);
    }
