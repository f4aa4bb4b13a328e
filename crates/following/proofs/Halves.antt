-- What a rule's lists weigh together, and one half of the bound: what a rule costs and the value with which it ends, against the
-- value with which it began and a gain for each window. The order may be read either way, so this is both halves.
use Rattle.std.proofs.Common.{◌≡◌, ℕ, zero, suc, ◌*◌, ◌^◌, ◌≤◌, ◌<◌, true, cond, List, [], ◌∷◌, ◌++◌, Some, sym, refl, ap, ◌∙◌, subst, arith}
use Rattle.std.proofs.Math.Nat.{pow-succ'}
use Rattle.std.specs.List.{slice_get, sum_by}
use Rattle.interface.specs.declared.plant.Outcome.{Outcome}
use Rattle.interface.specs.Limits.{whole}
use Rattle.interface.specs.Plants.{Model, Lawful, outcomes_of, weights, Inside}
use Rattle.following.specs.Rules.{Met, Rule, Plays, lists, weigh, weight}
use Rattle.following.proofs.Groups.{Sums, Ordered, none_plus, times_plus, times_mul, times_swap, times_one, plus_right, plus_left, times_both}
use Rattle.following.proofs.Weighing.{each, over, total, over_plus, over_times, over_one, over_same, over_most, total_begun, total_plus, numbers, weight_total}

inside_at : (n : ℕ) (os : List Outcome) (k : ℕ) (o : Outcome) → Inside n os → slice_get os k ≡ Some o → o.next < n
inside_at n [] k o h there = let z : ◌≡◌ {A = ℕ} 0 1 = cc in absurd (omega arith)
inside_at n (p ∷ os) zero o h there = let e : p ≡ o = cc in subst (λ q. q.next < n) e h.0
inside_at n (p ∷ os) (suc k) o h there = inside_at n os k o h.1 there

pub outcomes_there : (m : Model) (s x : ℕ) → m.feasible s x ≡ true → outcomes_of m s x ≡ m.outcomes s x
outcomes_there m s x f = ap (λ z. cond z (m.outcomes s x) []) f

-- every outcome of a feasible pair leads to a state of the plant
pub stays : (m : Model) → Lawful m → (s x k : ℕ) (o : Outcome) → m.feasible s x ≡ true → slice_get (outcomes_of m s x) k ≡ Some o
    → o.next < m.states
stays m lawful s x k o f there =
    inside_at m.states (m.outcomes s x) k o (lawful.spread s x f).inside (ap (λ z. slice_get z k) (sym (outcomes_there m s x f)) ∙ there)

-- What n windows cost, all lists weighed.
abbrev pub all_lists : {A : Type 0} → Sums A → Model → Rule → (Met → ℕ → List ℕ → A) → ℕ → Met → ℕ → A
all_lists S m r spent n met s = total S (weight m r met s) (spent met s) (lists m r n met s)

module _ (m : Model) (lawful : Lawful m) (r : Rule) where
  -- how a rule plays on behind an outcome that can happen
  plays_on : (n : ℕ) (met : Met) (s : ℕ) → Plays m r (suc n) met s → (k : ℕ) (o : Outcome) → slice_get (outcomes_of m s (r met s)) k ≡ Some o → 1 ≤ o.weight
      → Plays m r n (met ++ (s, k) ∷ []) o.next
  unfolding Plays
  plays_on n met s h = h.1

  plays_here : (n : ℕ) (met : Met) (s : ℕ) → Plays m r (suc n) met s → m.feasible s (r met s) ≡ true
  unfolding Plays
  plays_here n met s h = h.0

  all_weigh : (n : ℕ) (met : Met) (s : ℕ) → Plays m r (suc n) met s → weights (outcomes_of m s (r met s)) ≡ whole
  all_weigh n met s h = let f = plays_here n met s h in ap weights (outcomes_there m s (r met s) f) ∙ (lawful.spread s (r met s) f).shared

  weight_more : (met : Met) (s k : ℕ) (o : Outcome) (ks : List ℕ) → slice_get (outcomes_of m s (r met s)) k ≡ Some o
      → weight m r met s (k ∷ ks) ≡ o.weight * weight m r (met ++ (s, k) ∷ []) o.next ks
  unfolding weight
  weight_more met s k o ks there = ap (λ z. weigh z (λ p. weight m r (met ++ (s, k) ∷ []) p.next ks)) there

  -- All lists of n windows that a rule can play weigh 10,000^n together.
  pub together : (n : ℕ) (met : Met) (s : ℕ) → Plays m r n met s → sum_by (weight m r met s) (lists m r n met s) ≡ whole ^ n
  unfolding lists weight
  together zero met s h = refl
  together (suc n) met s h =
      let os = outcomes_of m s (r met s) in
      let w' = λ (k : ℕ) (o : Outcome). weight m r (met ++ (s, k) ∷ []) o.next in
      let one : ℕ → Outcome → List ℕ → ℕ = λ k o ks. 1 in
      let rest = λ (k : ℕ) (o : Outcome). lists m r n (met ++ (s, k) ∷ []) o.next in
      sym (weight_total (weight m r met s) (lists m r (suc n) met s))
      ∙ total_begun numbers (weight m r met s) w' (λ ks. 1) one rest 0 os
      (each (λ j o. (ks : List ℕ) → (weight m r met s (j ∷ ks) ≡ o.weight * w' j o ks) × (1 ≡ one j o ks)) os
      (λ k o there ks. (weight_more met s k o ks there, refl)))
      ∙ over_same numbers (λ k o. total numbers (w' k o) (one k o) (rest k o)) (λ k o. whole ^ n) 0 os
      (each (λ j o. 1 ≤ o.weight → total numbers (w' j o) (one j o) (rest j o) ≡ whole ^ n) os
      (λ k o there some. weight_total (w' k o) (rest k o) ∙ together n (met ++ (s, k) ∷ []) o.next (plays_on n met s h k o there some)))
      ∙ over_one numbers (whole ^ n) 0 os
      ∙ ap (λ z. z * whole ^ n) (all_weigh n met s h) ∙ sym (pow-succ' whole n)

  module _ {A : Type 0} (S : Sums A) (O : Ordered S) (edge g : A) (h : ℕ → A) (c : ℕ → ℕ → A) (spent : Met → ℕ → List ℕ → A)
      (spent_none : (met : Met) (s : ℕ) → spent met s [] ≡ S.none)
      (spent_more : (met : Met) (s k : ℕ) (o : Outcome) (ks : List ℕ) → slice_get (outcomes_of m s (r met s)) k ≡ Some o
      → spent met s (k ∷ ks) ≡ S.plus (c s (r met s)) (spent (met ++ (s, k) ∷ []) o.next ks))
      (base : (s : ℕ) → s < m.states → O.at_most edge (h s) ≡ true)
      (gains : (met : Met) (s : ℕ) → m.feasible s (r met s) ≡ true
      → O.at_most (S.plus (S.times whole (c s (r met s))) (over S (λ k o. h o.next) 0 (outcomes_of m s (r met s)))) (S.plus (S.times whole (h s)) g) ≡ true) where
    open S use {none, plus, times, assoc, comm, plus_none, times_zero, times_suc}
    open O use {at_most, transitive}

    abbrev all : ℕ → Met → ℕ → A
    all n met s = all_lists S m r spent n met s

    -- the first window's cost and what the rest costs behind each outcome
    abbrev behind : ℕ → Met → ℕ → ℕ → Outcome → A
    behind n met s k o = plus (times (whole ^ n) (c s (r met s))) (all n (met ++ (s, k) ∷ []) o.next)

    all_more : (n : ℕ) (met : Met) (s : ℕ) → Plays m r (suc n) met s → all (suc n) met s ≡ over S (behind n met s) 0 (outcomes_of m s (r met s))
    unfolding lists
    all_more n met s p =
        let os = outcomes_of m s (r met s) in
        let price = c s (r met s) in
        let w' = λ (k : ℕ) (o : Outcome). weight m r (met ++ (s, k) ∷ []) o.next in
        let c' = λ (k : ℕ) (o : Outcome) (ks : List ℕ). plus price (spent (met ++ (s, k) ∷ []) o.next ks) in
        let rest = λ (k : ℕ) (o : Outcome). lists m r n (met ++ (s, k) ∷ []) o.next in
        total_begun S (weight m r met s) w' (spent met s) c' rest 0 os
        (each (λ j o. (ks : List ℕ) → (weight m r met s (j ∷ ks) ≡ o.weight * w' j o ks) × (spent met s (j ∷ ks) ≡ c' j o ks)) os
        (λ k o there ks. (weight_more met s k o ks there, spent_more met s k o ks there)))
        ∙ over_same S (λ k o. total S (w' k o) (c' k o) (rest k o)) (behind n met s) 0 os
        (each (λ j o. 1 ≤ o.weight → total S (w' j o) (c' j o) (rest j o) ≡ behind n met s j o) os
        (λ k o there some.
        total_plus S (w' k o) price (spent (met ++ (s, k) ∷ []) o.next) (rest k o)
        ∙ ap (λ z. plus (times z price) (all n (met ++ (s, k) ∷ []) o.next)) (together n (met ++ (s, k) ∷ []) o.next (plays_on n met s p k o there some))))

    -- from what holds behind an outcome to the outcome with the window before it
    one : (n : ℕ) (w : ℕ) (price a v : A) → at_most (times whole (plus a (times w edge))) (times w (plus (times whole v) (times n g))) ≡ true
        → at_most (times whole (plus (plus (times w price) a) (times w edge))) (times w (plus (times whole price) (plus (times whole v) (times n g)))) ≡ true
    one n w price a v q =
        let left : times whole (plus (plus (times w price) a) (times w edge)) ≡ plus (times whole (times w price)) (times whole (plus a (times w edge)))
        = ap (times whole) (assoc (times w price) a (times w edge)) ∙ times_plus S whole (times w price) (plus a (times w edge)) in
        let right : times w (plus (times whole price) (plus (times whole v) (times n g))) ≡ plus (times whole (times w price)) (times w (plus (times whole v) (times n g)))
        = times_plus S w (times whole price) (plus (times whole v) (times n g)) ∙ ap (λ z. plus z (times w (plus (times whole v) (times n g)))) (times_swap S w whole price) in
        ap (λ z. at_most z (times w (plus (times whole price) (plus (times whole v) (times n g))))) left
        ∙ ap (at_most (plus (times whole (times w price)) (times whole (plus a (times w edge))))) right
        ∙ plus_right S O (times whole (plus a (times w edge))) (times w (plus (times whole v) (times n g))) (times whole (times w price)) q

    -- the left side, outcome by outcome
    spread_left : (w : ℕ) (f : ℕ → Outcome → A) (os : List Outcome) → weights os ≡ whole
        → times whole (plus (over S f 0 os) (times (whole * w) edge)) ≡ over S (λ k o. times whole (plus (f k o) (times w edge))) 0 os
    spread_left w f os e =
        let rest : times (whole * w) edge ≡ over S (λ k o. times w edge) 0 os
        = times_mul S whole w edge ∙ ap (λ z. times z (times w edge)) (sym e) ∙ sym (over_one S (times w edge) 0 os) in
        ap (λ z. times whole (plus (over S f 0 os) z)) rest
        ∙ ap (times whole) (sym (over_plus S f (λ k o. times w edge) 0 os))
        ∙ sym (over_times S whole (λ k o. plus (f k o) (times w edge)) 0 os)

    -- the right side, outcome by outcome
    spread_right : (n : ℕ) (w : ℕ) (price : A) (v : ℕ → Outcome → A) (os : List Outcome) → weights os ≡ whole
        → over S (λ k o. times w (plus (times whole price) (plus (times whole (v k o)) (times n g)))) 0 os
        ≡ times w (times whole (plus (plus (times whole price) (over S v 0 os)) (times n g)))
    spread_right n w price v os e =
        let first : over S (λ k o. times whole price) 0 os ≡ times whole (times whole price) = over_one S (times whole price) 0 os ∙ ap (λ z. times z (times whole price)) e in
        let last : over S (λ k o. times n g) 0 os ≡ times whole (times n g) = over_one S (times n g) 0 os ∙ ap (λ z. times z (times n g)) e in
        over_times S w (λ k o. plus (times whole price) (plus (times whole (v k o)) (times n g))) 0 os
        ∙ ap (times w)
        (over_plus S (λ k o. times whole price) (λ k o. plus (times whole (v k o)) (times n g)) 0 os
        ∙ ap (plus (over S (λ k o. times whole price) 0 os)) (over_plus S (λ k o. times whole (v k o)) (λ k o. times n g) 0 os)
        ∙ ap (λ z. plus z (plus (over S (λ k o. times whole (v k o)) 0 os) (over S (λ k o. times n g) 0 os))) first
        ∙ ap (λ z. plus (times whole (times whole price)) (plus z (over S (λ k o. times n g) 0 os))) (over_times S whole v 0 os)
        ∙ ap (λ z. plus (times whole (times whole price)) (plus (times whole (over S v 0 os)) z)) last
        ∙ sym (assoc (times whole (times whole price)) (times whole (over S v 0 os)) (times whole (times n g)))
        ∙ ap (λ z. plus z (times whole (times n g))) (sym (times_plus S whole (times whole price) (over S v 0 os)))
        ∙ sym (times_plus S whole (plus (times whole price) (over S v 0 os)) (times n g)))

    -- one gain more
    gather : (n : ℕ) (w : ℕ) (v : A) → times w (times whole (plus (plus (times whole v) g) (times n g))) ≡ times (whole * w) (plus (times whole v) (times (suc n) g))
    gather n w v =
        times_swap S w whole (plus (plus (times whole v) g) (times n g)) ∙ sym (times_mul S whole w (plus (plus (times whole v) g) (times n g)))
        ∙ ap (times (whole * w)) (assoc (times whole v) g (times n g) ∙ ap (plus (times whole v)) (comm g (times n g) ∙ sym (times_suc n g)))

    -- The half: what n windows cost and the edge of the values at their end, against the value here and the gains.
    pub half : (n : ℕ) (met : Met) (s : ℕ) → s < m.states → Plays m r n met s
        → at_most (times whole (plus (all n met s) (times (whole ^ n) edge))) (times (whole ^ n) (plus (times whole (h s)) (times n g))) ≡ true
    unfolding lists weight
    half zero met s l p =
        let left : times whole (plus (all 0 met s) (times 1 edge)) ≡ times whole edge
        = ap (times whole) (ap (λ z. plus (plus (times 1 z) none) (times 1 edge)) (spent_none met s)
        ∙ ap (λ z. plus (plus z none) (times 1 edge)) (times_one S none) ∙ ap (λ z. plus z (times 1 edge)) (plus_none none) ∙ none_plus S (times 1 edge) ∙ times_one S edge) in
        let right : times 1 (plus (times whole (h s)) (times 0 g)) ≡ times whole (h s)
        = times_one S (plus (times whole (h s)) (times 0 g)) ∙ ap (plus (times whole (h s))) (times_zero g) ∙ plus_none (times whole (h s)) in
        ap (λ z. at_most z (times 1 (plus (times whole (h s)) (times 0 g)))) left ∙ ap (at_most (times whole edge)) right ∙ times_both S O whole edge (h s) (base s l)
    half (suc n) met s l p =
        let os = outcomes_of m s (r met s) in
        let w = whole ^ n in
        let price = c s (r met s) in
        let here = plays_here n met s p in
        let full = all_weigh n met s p in
        let v = λ (k : ℕ) (o : Outcome). h o.next in
        let left : times whole (plus (all (suc n) met s) (times (whole ^ suc n) edge)) ≡ over S (λ k o. times whole (plus (behind n met s k o) (times w edge))) 0 os
        = ap (λ z. times whole (plus z (times (whole ^ suc n) edge))) (all_more n met s p)
        ∙ ap (λ z. times whole (plus (over S (behind n met s) 0 os) (times z edge))) (pow-succ' whole n)
        ∙ spread_left w (behind n met s) os full in
        let each_one = over_most S O (λ k o. times whole (plus (behind n met s k o) (times w edge))) (λ k o. times w (plus (times whole price) (plus (times whole (v k o)) (times n g)))) 0 os
        (each (λ k o. 1 ≤ o.weight → at_most (times whole (plus (behind n met s k o) (times w edge))) (times w (plus (times whole price) (plus (times whole (v k o)) (times n g)))) ≡ true) os
        (λ k o there some.
        one n w price (all n (met ++ (s, k) ∷ []) o.next) (h o.next)
        (half n (met ++ (s, k) ∷ []) o.next
        (stays m lawful s (r met s) k o here there)
        (plays_on n met s p k o there some)))) in
        let gained = times_both S O w _ _ (times_both S O whole _ _ (plus_left S O (plus (times whole price) (over S v 0 os)) (plus (times whole (h s)) g) (times n g) (gains met s here))) in
        ap (λ z. at_most z (times (whole ^ suc n) (plus (times whole (h s)) (times (suc n) g)))) left
        ∙ transitive _ (times w (times whole (plus (plus (times whole price) (over S v 0 os)) (times n g)))) _
        (subst (λ z. at_most (over S (λ k o. times whole (plus (behind n met s k o) (times w edge))) 0 os) z ≡ true) (spread_right n w price v os full) each_one)
        (subst (λ z. at_most (times w (times whole (plus (plus (times whole price) (over S v 0 os)) (times n g)))) z ≡ true) (gather n w (h s) ∙ ap (λ z. times z (plus (times whole (h s)) (times (suc n) g))) (sym (pow-succ' whole n))) gained)
