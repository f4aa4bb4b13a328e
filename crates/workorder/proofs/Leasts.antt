-- The least of the numbers with a property. Assumes nothing.
use Rattle.std.proofs.Common.{◌≡◌, ℕ, ◌+◌, ◌<◌, ◌≤◌, min, ◌⊎◌, List, [], ◌∷◌, fold, Some, None, Option, sym, refl, ap, ◌∙◌, subst, inl, inr, arith}
use Rattle.std.proofs.lemmas.Bool.{cases_lt}
use Rattle.std.proofs.lemmas.Iterator.{YieldsList}
use Rattle.std.proofs.lemmas.Iterator.Adapters.{option_map_id}
use Rattle.std.proofs.lemmas.Iterator.Consumers.{reduce_from_yields_List}
use Rattle.std.specs.Fn.{Called}
use Rattle.std.specs.Iterator.{ActsAsOnTwo, Drains, FoldTurn, ReducesItems}
use Rattle.std.specs.Iterator.Runs.{AnyItem, IsReduceRun, Run, WholeRun}
use Rattle.std.specs.List.{FoldsTo, cons_option, filter_map, reduce}
use Rattle.std.specs.Option.{IsSomeAnd, MatchOption}
use Rattle.std.specs.Prelude.{slice_index_or}
use Rattle.workorder.specs.Orders.{LeastOf}
use Rattle.workorder.specs.Steps.{lesser, sum}
use denote.Param.Members.{Mut}
use mathlib.Core.List.Memᴰ
use mathlib.Core.List.{Memᴰ as In}
use mathlib.Core.HLevel.{Π_prop, ×_prop, ⊥_prop}
use mathlib.Core.Logic.{∥∥₁_elim, ∥∥₁_map, ∥∥₁_map₂, ∥∥₁_prop}
use native.Mathlib.Bridge.{le_prop}

module _ (P Q : ℕ → Type 0) where
  -- the same numbers have the same least
  pub least_same : ((c : ℕ) → P c → Q c) → ((c : ℕ) → Q c → P c) → (r : Option ℕ) → LeastOf P r → LeastOf Q r
  least_same f g None l = λ c q. l c (g c q)
  least_same f g (Some c) l = (∥∥₁_map l.0 (f c), λ d q. l.1 d (g d q))

  -- the least of either kind is the lesser of the least of each
  pub least_either : (r s : Option ℕ) → LeastOf P r → LeastOf Q s → LeastOf (λ c. P c ⊎ Q c) (lesser r s)
  least_either None None l m = λ c e. elim e [ inl p ↦ l c p | inr q ↦ m c q ]
  least_either None (Some b) l m = (∥∥₁_map m.0 inr, λ d e. elim e [ inl p ↦ absurd (l d p) | inr q ↦ m.1 d q ])
  least_either (Some a) None l m = (∥∥₁_map l.0 inl, λ d e. elim e [ inl p ↦ l.1 d p | inr q ↦ absurd (m d q) ])
  least_either (Some a) (Some b) l m = (one (cases_lt a b), λ d e. elim e [ inl p ↦ omega (arith, l.1 d p) | inr q ↦ omega (arith, m.1 d q) ])
    where
      one : (a < b) ⊎ (b ≤ a) → ∥ P (min a b) ⊎ Q (min a b) ∥₁
      one (inl h) = let e : min a b ≡ a = omega arith in ∥∥₁_map l.0 (λ p. inl (rw e p))
      one (inr h) = let e : min a b ≡ b = omega arith in ∥∥₁_map m.0 (λ q. inr (rw e q))

  -- a sum is least where both its numbers are
  pub least_sum : (r s : Option ℕ) → LeastOf P r → LeastOf Q s → LeastOf (λ c. (a b : ℕ) × P a × Q b × (c ≡ a + b)) (sum r s)
  least_sum None s l m = λ c e. l e.0 e.2
  least_sum (Some a) None l m = λ c e. m e.1 e.3
  least_sum (Some a) (Some b) l m = (∥∥₁_map₂ l.0 m.0 (λ p q. (a, b, p, q, refl)), λ d e. omega (arith, l.1 e.0 e.2, m.1 e.1 e.3, e.4))

module _ (P : ℕ → Type 0) where
  -- there is one least
  pub least_unique : (r s : Option ℕ) → LeastOf P r → LeastOf P s → r ≡ s
  least_unique None None l m = refl
  least_unique None (Some b) l m = absurd (∥∥₁_elim m.0 ⊥_prop (l b))
  least_unique (Some a) None l m = absurd (∥∥₁_elim l.0 ⊥_prop (m a))
  least_unique (Some a) (Some b) l m = ap Some (omega (arith, ∥∥₁_elim m.0 le_prop (l.1 b), ∥∥₁_elim l.0 le_prop (m.1 a)))

  pub least_prop : (r : Option ℕ) → IsProp (LeastOf P r)
  least_prop None = Π_prop (λ c. Π_prop (λ p. ⊥_prop))
  least_prop (Some c) = ×_prop ∥∥₁_prop (Π_prop (λ d. Π_prop (λ p. le_prop)))

-- ---- what `filter_map` and `reduce` pick

first_above : (x : ℕ) (xs : List ℕ) → fold min x xs ≤ x
first_above x [] = omega arith
first_above x (z ∷ xs) = omega (arith, first_above (min x z) xs)

-- where each call answers the lesser of its two numbers
module _ {F : Type 0} (g : Mut F (ℕ × (ℕ × Unit {0})) ℕ) {f : F} (lessers : ActsAsOnTwo g f min) where
  turns : (xs : List ℕ) (p q : F × ℕ) → p.0 ≡ f → FoldsTo {P = F × ℕ} (FoldTurn g) p xs q → FoldsTo (λ a x b. b ≡ min a x) p.1 xs q.1
  turns [] p q e t = ap (λ w. w.1) t
  turns (x ∷ xs) p q e t =
      let m = lessers p.1 x t.0.1 t.0.0 (subst (λ w. Called g w (p.1, (x, tt)) t.0.1 t.0.0) e t.1) in
      (t.0.1, m.1, turns xs t.0 q m.0 t.2)

  module _ {S : Type 0} {steps : S → Option ℕ → S → Type 0} (s : S) (r : Option ℕ) where
    pub reduced : {all : List ℕ} → ReducesItems steps g s f r → YieldsList steps (λ x. x) s all → r ≡ reduce min all
    reduced d e = reduce_from_yields_List min s r (picks r d) e
      where
        picks : (r : Option ℕ) → ReducesItems steps g s f r → MatchOption r (Drains steps s []) (λ y. (x : ℕ) × (xs : List ℕ) × Drains steps s (x ∷ xs) × FoldsTo (λ a x b. b ≡ min a x) x xs y)
        picks None d = d
        picks (Some y) d = (d.0, d.1, d.3, turns d.1 (f, d.0) (d.2, y) refl d.4)

    -- the answer is at most some item
    pub reduced_below : WholeRun steps s (λ p. MatchOption r (p.len ≡ 0) (IsReduceRun p g f)) → WholeRun steps s (λ p. MatchOption r (p.len ≡ 0) (λ y. AnyItem p (λ x. y ≤ x)))
    reduced_below w = (w.0, w.1, w.2, below w.0 r w.3)
      where
        below : (p : Run steps) (r : Option ℕ) → MatchOption r (p.len ≡ 0) (IsReduceRun p g f) → MatchOption r (p.len ≡ 0) (λ y. AnyItem p (λ x. y ≤ x))
        below p None e = e
        below p (Some y) e =
            let first : p.at 0 ≡ Some e.1.0 = sym (option_map_id _) ∙ p.reads 0 e.1.0 e.0 ∙ ap (λ l. Some (slice_index_or l 0 e.1.0)) e.1.2 in
            (0, e.0, subst (λ o. IsSomeAnd o (λ x. y ≤ x)) (sym first) (omega (arith, e.1.3 min lessers, first_above e.1.0 e.1.1)))

min_first : (a b : ℕ) (ys : List ℕ) → fold min (min a b) ys ≡ min a (fold min b ys)
min_first a b [] = refl
min_first a b (y ∷ ys) = let e : min (min a b) y ≡ min a (min b y) = omega arith in ap (λ k. fold min k ys) e ∙ min_first a (min b y) ys

lesser_first : (r : Option ℕ) (ys : List ℕ) → reduce min (cons_option r ys) ≡ lesser r (reduce min ys)
lesser_first None ys = refl
lesser_first (Some a) [] = refl
lesser_first (Some a) (b ∷ ys) = ap Some (min_first a b ys)

module _ {A : Type 0} (Q : A → ℕ → Type 0) where
  -- a number of some item of the list
  abbrev pub OfSome : List A → ℕ → Type 0
  OfSome xs c = (x : A) × In x xs × Q x c

  -- where each item's least is known, the least over a list is the least of those
  pub least_of_list : (least : (x : A) → (r : Option ℕ) × LeastOf (Q x) r) (xs : List A) → LeastOf (OfSome xs) (reduce min (filter_map (λ x. (least x).0) xs))
  least_of_list least [] = λ c e. Memᴰ.not-nil e.1
  least_of_list least (x ∷ xs) =
      rw lesser_first (least_same _ _ join split _ (least_either (Q x) (OfSome xs) _ _ (least x).1 (least_of_list least xs)))
    where
      join : (c : ℕ) → Q x c ⊎ OfSome xs c → OfSome (x ∷ xs) c
      join c (inl q) = (x, In.head refl, q)
      join c (inr e) = (e.0, In.tail e.1, e.2)

      split : (c : ℕ) → OfSome (x ∷ xs) c → Q x c ⊎ OfSome xs c
      split c e = elim (Memᴰ.cases_cons e.1) [ inl p ↦ inl (subst (λ y. Q y c) p e.2) | inr m ↦ inr (e.0, m, e.2) ]
