-- A work order for a portfolio is one for the portfolio without its last part, and an arc to that part. Assumes nothing.
use Rattle.std.proofs.Common.{◌≡◌, ℕ, ◌+◌, ◌*◌, ◌^◌, ◌<◌, ◌≤◌, ◌⊎◌, List, [], ◌∷◌, min, length, get_or, set, replicate, Some, None, Option, sym, refl, ap, ◌∙◌, subst, inl, inr, mul-le-mul_right, arith}
use Rattle.std.proofs.lemmas.Bool.{cases_eq}
use Rattle.std.specs.List.{filter_map, reduce}
use Rattle.workorder.proofs.Arcs.{alone, cheapest, held_or_not}
use Rattle.workorder.proofs.Leasts.{OfSome, least_same, least_prop, least_sum, least_unique}
use Rattle.workorder.proofs.Portfolios.{holds_without, holds_others, none_in_zero, ones_without, part_within, without_less, zero_from_none}
use Rattle.workorder.specs.Orders.{AtMost, Holds, Least, LeastOf, LeastTable, Lists, NoneDearer, OrderFor, WorkOrder, max_parts, nothing, next, portfolios}
use Rattle.workorder.specs.Steps.{ArcFor, EndsWith, Leads, RightBelow, sum, without}
use Rattle.workorder.specs.declared.Arc.{Arc}
use lib.Count.{ones, ones-le}
use mathlib.Core.List.Memᴰ
use mathlib.Core.List.{Memᴰ as In}
use mathlib.Core.HLevel.{Π_prop}
use mathlib.Core.Logic.{∥∥₁_elim}
use native.Mathlib.Bridge.{le_prop}
use native.Mathlib.Nat.{ℕ_set}

-- ---- lists of a portfolio's parts

-- the rest of a list of x's parts lists the parts of x without the first
rest_lists : (x i : ℕ) (done : List ℕ) → Lists x (i ∷ done) → (In i done → ⊥) → Lists (without x i) done
rest_lists x i done l new j = (there, back)
  where
    held : Holds x i
    held = (l i).0 (In.head refl)

    there : In j done → Holds (without x i) j
    there m = holds_others x i j held ((l j).0 (In.tail m)) (λ e. new (Memᴰ.cast (sym e) m))

    back : Holds (without x i) j → In j done
    back h = elim (Memᴰ.cases_cons ((l j).1 (holds_without x i j held h).1)) [ inl e ↦ absurd ((holds_without x i j held h).0 e) | inr m ↦ m ]

-- a part of x before a list of the other parts lists the parts of x
more_lists : (x i : ℕ) (done : List ℕ) → Holds x i → Lists (without x i) done → (In i done → ⊥) × Lists x (i ∷ done)
more_lists x i done held l = (λ m. (holds_without x i i held ((l i).0 m)).0 refl, λ j. (there j, back j))
  where
    there : (j : ℕ) → In j (i ∷ done) → Holds x j
    there j m = elim (Memᴰ.cases_cons m) [ inl e ↦ rw e held | inr n ↦ (holds_without x i j held ((l j).0 n)).1 ]

    back : (j : ℕ) → Holds x j → In j (i ∷ done)
    back j h = elim (cases_eq j i) [ inl e ↦ In.head e | inr d ↦ In.tail ((l j).1 (holds_others x i j held h d)) ]

module _ (arcs : List Arc) where
  -- the work order that does nothing
  pub order_none : OrderFor arcs 0 0
  order_none = ([], (λ i. (λ m. absurd (Memᴰ.not-nil m), λ h. absurd (none_in_zero i h))), nothing)

  -- one more arc
  pub order_next : (x before : ℕ) (a : Arc) → Holds x a.to → OrderFor arcs (without x a.to) before → In a arcs
      → Leads (without x a.to) a.to a → OrderFor arcs x (before + a.cents)
  order_next x before a held o m leads =
      (a.to ∷ o.0, more.1, next o.2 a m (from leads.1) more.0)
    where
      more : (In a.to o.0 → ⊥) × Lists x (a.to ∷ o.0)
      more = more_lists x a.to o.0 held o.1

      from : (a.from ≡ 0) ⊎ Holds (without x a.to) a.from → (a.from ≡ 0) ⊎ In a.from o.0
      from (inl e) = inl e
      from (inr h) = inr ((o.1 a.from).1 h)

  order_joined : (x i c : ℕ) → EndsWith arcs x i c → OrderFor arcs x c
  order_joined x i c e = at e.1.3.0 e.1.3.2.0 e.1.3.1 e.1.3.2 e.1.3.3
    where
      at : (a : Arc) → a.to ≡ i → In a arcs → Leads (without x i) i a → a.cents ≡ e.1.1 → OrderFor arcs x c
      at a p m leads q =
          let held : Holds x a.to = subst (λ (k : ℕ). Holds x k) (sym p) e.0 in
          let before : OrderFor arcs (without x a.to) e.1.0 = subst (λ (k : ℕ). OrderFor arcs (without x k) e.1.0) (sym p) e.1.2 in
          let leads' : Leads (without x a.to) a.to a = subst (λ (k : ℕ). Leads (without x k) k a) (sym p) leads in
          subst (λ (k : ℕ). OrderFor arcs x k) (ap (λ (k : ℕ). e.1.0 + k) q ∙ sym e.1.4) (order_next x e.1.0 a held before m leads')

  -- What holds of doing nothing, and of each further arc, holds of every work order.
  pub order_ind : (P : ℕ → ℕ → Type 0) → P 0 0
      → ((x c : ℕ) (a : Arc) → Holds x a.to → In a arcs → Leads (without x a.to) a.to a → OrderFor arcs (without x a.to) c → P (without x a.to) c → P x (c + a.cents))
      → (x c : ℕ) → OrderFor arcs x c → P x c
  order_ind P none more x c o = along x o.1 o.2
    where
      along : {done : List ℕ} {c : ℕ} (x : ℕ) → Lists x done → WorkOrder arcs done c → P x c
      along x l nothing = subst (λ (k : ℕ). P k 0) (sym (zero_from_none x (λ i h. Memᴰ.not-nil ((l i).1 h)))) none
      along x l (next {done} {cents} w a m f new) =
          let rest : Lists (without x a.to) done = rest_lists x a.to done l new in
          let from : (a.from ≡ 0) ⊎ Holds (without x a.to) a.from = elim f [ inl e ↦ inl e | inr n ↦ inr ((rest a.from).0 n) ] in
          more x cents a ((l a.to).0 (In.head refl)) m (refl, from) (done, rest, w) (along (without x a.to) rest w)

  -- a work order does nothing, or ends with some part
  order_split : (x c : ℕ) → OrderFor arcs x c → (x ≡ 0) ⊎ ((i : ℕ) × EndsWith arcs x i c)
  order_split =
      order_ind (λ x c. (x ≡ 0) ⊎ ((i : ℕ) × EndsWith arcs x i c)) (inl refl)
      (λ x c a held m leads o _. inr (a.to, (held, (c, a.cents, o, (a, m, leads, refl), refl))))

  -- a work order costs at most the dearest arc for each of its parts
  pub order_at_most : (m n x c : ℕ) → NoneDearer m arcs → x < 2 ^ n → OrderFor arcs x c → c ≤ n * m
  order_at_most m n x c dear l o = let p : ones x * m ≤ n * m = mul-le-mul_right m (ones-le n x l) in omega (arith, for_each x c o)
    where
      for_each : (x c : ℕ) → OrderFor arcs x c → c ≤ ones x * m
      for_each = order_ind (λ x c. c ≤ ones x * m) (omega arith) (λ x c a held i leads o h. let e = ap (λ (k : ℕ). k * m) (ones_without x a.to held) in omega (arith, dear a i))

  -- the least of the work orders that end with part i, from the least of those for the other parts and the cheapest arc
  pub ends_least : (x i y : ℕ) (r s t : Option ℕ) → Holds x i → y ≡ without x i → Least arcs y r → LeastOf (ArcFor arcs y i) s → t ≡ sum r s → LeastOf (EndsWith arcs x i) t
  ends_least x i y r s t held p l m q =
      let l' : Least arcs (without x i) r = subst (λ (k : ℕ). Least arcs k r) p l in
      let m' : LeastOf (ArcFor arcs (without x i) i) s = subst (λ (k : ℕ). LeastOf (ArcFor arcs k i) s) p m in
      rw q (least_same _ _ (λ c e. (held, e)) (λ c e. e.1) (sum r s) (least_sum _ _ r s l' m'))

  -- there is such a least for each part, where the table is right below x
  pub ending : (x : ℕ) (table : List (Option ℕ)) → RightBelow arcs x table → (i : ℕ) → (r : Option ℕ) × LeastOf (EndsWith arcs x i) r
  ending x table right i =
      elim (held_or_not x i) [
        | inl h ↦ (
          sum (get_or table (without x i) None) (reduce min (filter_map (λ a. (alone (without x i) i a).0) arcs)),
          ends_least x i (without x i) _ _ _ h refl (right.least (without x i) (without_less x i h)) (cheapest (without x i) i arcs) refl,
        )
        | inr n ↦ (None, λ c e. n e.0)
      ]

  pub ending_only : (x : ℕ) (table : List (Option ℕ)) (right : RightBelow arcs x table) (i : ℕ) (r : Option ℕ) → LeastOf (EndsWith arcs x i) r → r ≡ (ending x table right i).0
  ending_only x table right i r l = least_unique (EndsWith arcs x i) r (ending x table right i).0 l (ending x table right i).1

  -- the least over all parts, each of which may come last, is the least of all work orders
  pub least_of_endings : (n x : ℕ) (parts : List ℕ) (r : Option ℕ) → 0 < x → x < 2 ^ n → ((i : ℕ) → 1 ≤ i → i ≤ n → In i parts)
      → LeastOf (OfSome (EndsWith arcs x) parts) r → Least arcs x r
  least_of_endings n x parts r p l all = least_same (OfSome (EndsWith arcs x) parts) (OrderFor arcs x) (λ c e. order_joined x e.0 c e.2) split r
    where
      split : (c : ℕ) → OrderFor arcs x c → OfSome (EndsWith arcs x) parts c
      split c o = elim (order_split x c o) [ inl z ↦ absurd (omega arith) | inr e ↦ (e.0, all e.0 e.1.0.0 (part_within n x e.0 l e.1.0), e.1) ]

  -- ---- the table of the least cents

  -- the table of portfolio 0 alone
  pub right_first : (table : List (Option ℕ)) → table ≡ set (replicate portfolios None) 0 (Some 0) → RightBelow arcs 1 table
  right_first table e = record { long = ap length e; least = at_least; small = at_small }
    where
      first : (y : ℕ) → y < 1 → (y ≡ 0) × (get_or table y None ≡ Some 0)
      first y l = let z : y ≡ 0 = omega arith in (z, ap (λ (k : ℕ). get_or table k None) z ∙ ap (λ (t : List (Option ℕ)). get_or t 0 None) e)

      at_least : (y : ℕ) → y < 1 → Least arcs y (get_or table y None)
      at_least y l = rw ((first y l).1, (first y l).0) (∣ order_none ∣₁, λ d o. omega arith)

      at_small : (y : ℕ) → y < 1 → AtMost (y * 2 ^ 32) (get_or table y None)
      at_small y l = rw (first y l).1 (omega arith)

  -- every least number of a portfolio is the table's
  pub table_only : (table : List (Option ℕ)) → LeastTable arcs table → (x : ℕ) (r : Option ℕ) → x < portfolios → Least arcs x r → r ≡ get_or table x None
  table_only table right x r l m = least_unique (OrderFor arcs x) r (get_or table x None) m (right.least x l)

  pub table_bounded : (table : List (Option ℕ)) → LeastTable arcs table → (x m : ℕ) → x < portfolios → NoneDearer m arcs → AtMost (max_parts * m) (get_or table x None)
  table_bounded table right x m l dear = at (get_or table x None) (right.least x l)
    where
      at : (r : Option ℕ) → Least arcs x r → AtMost (max_parts * m) r
      at None h = tt
      at (Some c) h = ∥∥₁_elim h.0 le_prop (order_at_most m max_parts x c dear l)

  table_prop : (table : List (Option ℕ)) → IsProp (LeastTable arcs table)
  table_prop table p q =
      λ i. record { long = ℕ_set _ _ p.long q.long i; least = Π_prop (λ x. Π_prop (λ l. least_prop (OrderFor arcs x) (get_or table x None))) p.least q.least i }

  -- a struct can hold the fact in a ghost field, as `∥ LeastTable arcs table ∥₁`, and have it back
  pub table_held : (table : List (Option ℕ)) → ∥ LeastTable arcs table ∥₁ → LeastTable arcs table
  table_held table h = ∥∥₁_elim h (table_prop table) (λ t. t)
