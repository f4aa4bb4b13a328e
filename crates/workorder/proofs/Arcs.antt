-- The cheapest arc of a list. Assumes nothing.
use Rattle.std.proofs.Common.{◌≡◌, ℕ, ◌-◌, ◌/◌, ◌%◌, ◌^◌, ◌⊎◌, List, min, Some, None, Option, refl, inl, inr, arith}
use Rattle.std.proofs.lemmas.Bool.{cases_eq}
use Rattle.std.specs.List.{filter_map, reduce}
use Rattle.workorder.proofs.Leasts.{least_of_list, least_same, least_unique}
use Rattle.workorder.specs.Orders.{Holds, LeastOf}
use Rattle.workorder.specs.Steps.{ArcFor, Leads, Usable}
use Rattle.workorder.specs.declared.Arc.{Arc}

-- whether a portfolio holds a part
pub held_or_not : (x i : ℕ) → Holds x i ⊎ (Holds x i → ⊥)
held_or_not x i =
    elim (cases_eq i 0) [
      | inl z ↦ inr (λ h. let p = h.0 in omega arith)
      | inr p ↦ elim (cases_eq ((x / 2 ^ (i - 1)) % 2) 1) [ inl e ↦ inl (omega arith, e) | inr n ↦ inr (λ h. n h.1) ]
    ]

module _ (done part : ℕ) where
  -- the arc costs c, and leads to the part
  abbrev pub This : Arc → ℕ → Type 0
  This a c = Leads done part a × (a.cents ≡ c)

  leads_or_not : (a : Arc) → Leads done part a ⊎ (Leads done part a → ⊥)
  leads_or_not a =
      elim (cases_eq a.to part) [
        | inr n ↦ inr (λ l. n l.0)
        | inl e ↦ elim (cases_eq a.from 0) [
          | inl z ↦ inl (e, inl z)
          | inr n ↦ elim (held_or_not done a.from) [ inl h ↦ inl (e, inr h) | inr m ↦ inr (λ l. elim l.1 [ inl z ↦ n z | inr h ↦ m h ]) ]
        ]
      ]

  -- the least of one arc
  pub alone : (a : Arc) → (r : Option ℕ) × LeastOf (This a) r
  alone a =
      elim (leads_or_not a) [
        | inl l ↦ (Some a.cents, (∣ (l, refl) ∣₁, λ d t. omega (arith, t.1)))
        | inr n ↦ (None, λ c t. n t.0)
      ]

  -- the cents that are found for one arc are its least
  pub usable_alone : (a : Arc) (r : Option ℕ) → Usable done part a r → r ≡ (alone a).0
  usable_alone a r u = least_unique (This a) r (alone a).0 (found r u) (alone a).1
    where
      found : (s : Option ℕ) → Usable done part a s → LeastOf (This a) s
      found None u = λ c t. u t.0
      found (Some c) u = (∣ u ∣₁, λ d t. omega (arith, u.1, t.1))

  -- the least over a list of arcs
  pub cheapest : (arcs : List Arc) → LeastOf (ArcFor arcs done part) (reduce min (filter_map (λ a. (alone a).0) arcs))
  cheapest arcs = least_same _ _ (λ c e. (e.0, e.1, e.2.0, e.2.1)) (λ c f. (f.0, f.1, (f.2, f.3))) _ (least_of_list This alone arcs)
