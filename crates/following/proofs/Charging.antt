-- How a book goes through a list: where it comes to, and that its totals grow by what the list costs.
use Rattle.std.proofs.Common.{◌≡◌, ℕ, suc, ◌+◌, ◌-◌, ◌≤◌, ◌<◌, true, List, [], ◌∷◌, ◌++◌, length, Some, None, Option, sym, refl, ap, ◌∙◌, subst, arith}
use Rattle.std.specs.List.{slice_get}
use Rattle.std.proofs.lemmas.List.{length-append, length-replicate}
use Rattle.interface.specs.declared.plant.Bill.{Bill}
use Rattle.interface.specs.declared.plant.Outcome.{Outcome}
use Rattle.interface.specs.Limits.{most_windows}
use Rattle.interface.specs.Plants.{Model, Lawful, outcomes_of, named}
use Rattle.interface.specs.Rows.{Row, zeros, plus, times}
use Rattle.interface.specs.Tariffs.{Scale, LawfulScale, price}
use Rattle.bookkeeping.specs.Books.{Account, booked, moved}
use Rattle.following.specs.Rules.{Met, CanMeet, cost, cost_behind, weighed}
use Rattle.following.specs.Promises.{Policies, by_policies, GoesThrough, grown}
use Rattle.lookahead.proofs.Bounds.{plus_zeros}
use Rattle.following.proofs.Groups.{swap_middle, times_add}
use Rattle.following.proofs.Halves.{stays}
use Rattle.following.proofs.Sized.{Sized, rows, times_nothing}

-- where a book comes to behind an outcome, or with none
abbrev pub behind : Account → Option Outcome → (Account → Account) → Account
behind b None f = b
behind b (Some o) f = f (moved b o.next)

abbrev pub window : Model → Policies → ℕ → Account → Account
window m ps j a = booked a (m.bill a.state (named (ps j) a.state))

-- what a window can end in
abbrev pub ends : Model → Policies → ℕ → Account → ℕ → Option Outcome
ends m ps j a k = slice_get (outcomes_of m a.state (named (ps j) a.state)) k

abbrev pub run : Model → Policies → ℕ → Account → List ℕ → Account
run m ps j a [] = a
run m ps j a (k ∷ ks) = behind (window m ps j a) (ends m ps j a k) (λ c. run m ps (suc j) c ks)

-- totals never shrink
record Grows (a b : Account) : Type 0 where
  seconds : a.seconds ≤ b.seconds
  cents : a.cents ≤ b.cents

grows_behind : (a b : Account) (e : Option Outcome) (f : Account → Account) → Grows a b → ((c : Account) → Grows a c → Grows a (f c)) → Grows a (behind b e f)
grows_behind a b None f h more = h
grows_behind a b (Some o) f h more = more (moved b o.next) (record { seconds = h.seconds; cents = h.cents })

grows_on : (a b c : Account) → Grows a b → Grows b c → Grows a c
grows_on a b c g h = record { seconds = omega (arith, g.seconds, h.seconds); cents = omega (arith, g.cents, h.cents) }

grows : (m : Model) (ps : Policies) (j : ℕ) (a : Account) (ks : List ℕ) → Grows a (run m ps j a ks)
grows m ps j a [] = record { seconds = omega arith; cents = omega arith }
grows m ps j a (k ∷ ks) =
    grows_behind a (window m ps j a) (ends m ps j a k) (λ c. run m ps (suc j) c ks) (record { seconds = omega arith; cents = omega arith })
    (λ c h. grows_on a c (run m ps (suc j) c ks) h (grows m ps (suc j) c ks))

abbrev bill : ℕ → ℕ → Bill
bill s c = record { seconds = s; cents = c }

same_bill : (s s' c c' : ℕ) → s ≡ s' → c ≡ c' → bill s c ≡ bill s' c'
same_bill s s' c c' e f = ap (λ z. bill z c) e ∙ ap (bill s') f

module _ (t : Scale) (scaled : LawfulScale t) where
  price_sum : (x y : Bill) → price t (bill (x.seconds + y.seconds) (x.cents + y.cents)) ≡ plus (price t x) (price t y)
  price_sum x y =
      let n = t.places in
      let second : Sized t.places = (t.second, scaled.second_fits) in
      let cent : Sized t.places = (t.cent, scaled.cent_fits) in
      let R = rows t.places in
      ap (λ z. plus z (times (x.cents + y.cents) t.cent)) (ap (λ (z : Sized t.places). z.0) (times_add R x.seconds y.seconds second))
      ∙ ap (plus (plus (times x.seconds t.second) (times y.seconds t.second))) (ap (λ (z : Sized t.places). z.0) (times_add R x.cents y.cents cent))
      ∙ ap (λ (z : Sized t.places). z.0) (swap_middle R (R.times x.seconds second) (R.times y.seconds second) (R.times x.cents cent) (R.times y.cents cent))

  price_nothing : price t (bill 0 0) ≡ zeros t.places
  price_nothing =
      ap (λ z. plus z (times 0 t.cent)) (times_nothing t.places t.second scaled.second_fits)
      ∙ ap (plus (zeros t.places)) (times_nothing t.places t.cent scaled.cent_fits)
      ∙ plus_zeros t.places (zeros t.places) (length-replicate t.places _)

  grown_nothing : (a : Account) → price t (grown a a) ≡ zeros t.places
  grown_nothing a = ap (price t) (same_bill (a.seconds - a.seconds) 0 (a.cents - a.cents) 0 (omega arith) (omega arith)) ∙ price_nothing

  -- a window's bill, and then the rest
  grown_more : (a c b : Account) (x : Bill) → c.seconds ≡ a.seconds + x.seconds → c.cents ≡ a.cents + x.cents → Grows c b
      → price t (grown a b) ≡ plus (price t x) (price t (grown c b))
  grown_more a c b x e f h =
      ap (price t) (same_bill (b.seconds - a.seconds) (x.seconds + (b.seconds - c.seconds)) (b.cents - a.cents) (x.cents + (b.cents - c.cents))
      (omega (arith, h.seconds)) (omega (arith, h.cents)))
      ∙ price_sum x (grown c b)

  grown_behind : (a b : Account) (x : Bill) (e : Option Outcome) (f : Account → Account) (g : Outcome → Row)
      → b.seconds ≡ a.seconds + x.seconds → b.cents ≡ a.cents + x.cents
      → ((c : Account) → Grows c (f c)) → ((o : Outcome) → price t (grown (moved b o.next) (f (moved b o.next))) ≡ g o)
      → price t (grown a (behind b e f)) ≡ plus (price t x) (cost_behind t e g)
  grown_behind a b x None f g s c h same =
      grown_more a b b x s c (record { seconds = omega arith; cents = omega arith }) ∙ ap (plus (price t x)) (grown_nothing b)
  grown_behind a b x (Some o) f g s c h same = grown_more a (moved b o.next) (f (moved b o.next)) x s c (h (moved b o.next)) ∙ ap (plus (price t x)) (same o)

  module _ (m : Model) (ps : Policies) where
    -- what a book's totals grow by, priced, is the cost of the list
    pub grown_costs : (ks : List ℕ) (met : Met) (a : Account) → price t (grown a (run m ps (length met) a ks)) ≡ cost m t (by_policies ps) met a.state ks
    unfolding cost
    grown_costs [] met a = grown_nothing a
    grown_costs (k ∷ ks) met a =
        let s = a.state in
        grown_behind a (window m ps (length met) a) (m.bill s (named (ps (length met)) s)) (ends m ps (length met) a k)
        (λ c. run m ps (suc (length met)) c ks) (λ o. cost m t (by_policies ps) (met ++ (s, k) ∷ []) o.next ks)
        refl refl (λ c. grows m ps (suc (length met)) c ks)
        (λ o.
        let c = moved (window m ps (length met) a) o.next in
        let e : length (met ++ (s, k) ∷ []) ≡ suc (length met) = length-append met ((s, k) ∷ []) ∙ (let d : length met + 1 ≡ suc (length met) = omega arith in d) in
        subst (λ j. price t (grown c (run m ps j c ks)) ≡ cost m t (by_policies ps) (met ++ (s, k) ∷ []) o.next ks) e (grown_costs ks (met ++ (s, k) ∷ []) c))

    pub weighed_same : (w : List ℕ → ℕ) (c d : List ℕ → Row) → ((ks : List ℕ) → c ks ≡ d ks) → (kss : List (List ℕ)) → weighed t w c kss ≡ weighed t w d kss
    weighed_same w c d h [] = refl
    weighed_same w c d h (ks ∷ kss) = ap (λ z. plus (times (w ks) z) (weighed t w c kss)) (h ks) ∙ ap (plus (times (w ks) (d ks))) (weighed_same w c d h kss)

module _ (m : Model) (lawful : Lawful m) (ps : Policies) where
  -- what goes through can be met, and leads nowhere else
  pub gone : (ks : List ℕ) (met : Met) (a b : Account) → GoesThrough m ps (length met) a ks b
      → CanMeet m (by_policies ps) met a.state ks × (b ≡ run m ps (length met) a ks)
  gone [] met a b h = (tt, h)
  gone (k ∷ ks) met a b h =
      let c = h.1 in
      let o = (h.2).outcome in
      let s = a.state in
      let there = (h.2).there in
      let e : length (met ++ (s, k) ∷ []) ≡ suc (length met) = length-append met ((s, k) ∷ []) ∙ (let d : length met + 1 ≡ suc (length met) = omega arith in d) in
      let c' = moved (window m ps (length met) a) o.next in
      let same : c ≡ c' = (h.2).moves in
      let rest = subst (λ z. GoesThrough m ps (suc (length met)) z ks b) same h.3 in
      let more = gone ks (met ++ (s, k) ∷ []) c' b (subst (λ j. GoesThrough m ps j c' ks b) (sym e) rest) in (
        (o, there, more.0),
        more.1 ∙ ap (λ j. run m ps j c' ks) e ∙ ap (λ z. behind (window m ps (length met) a) z (λ d. run m ps (suc (length met)) d ks)) (sym there),
      )

  module _ (long : (j : ℕ) → length (ps j) ≡ m.states) (feasible : (j s : ℕ) → s < m.states → m.feasible s (named (ps j) s) ≡ true) where
    -- what can be met, with room for it, is gone through
    pub goes : (ks : List ℕ) (met : Met) (a : Account) → a.state < m.states → a.windows + length ks ≤ most_windows → CanMeet m (by_policies ps) met a.state ks
        → GoesThrough m ps (length met) a ks (run m ps (length met) a ks)
    goes [] met a l room can = refl
    goes (k ∷ ks) met a l room can =
        let o = can.0 in
        let s = a.state in
        let j = length met in
        let here = feasible j s l in
        let c = moved (window m ps j a) o.next in
        let e : length (met ++ (s, k) ∷ []) ≡ suc j = length-append met ((s, k) ∷ []) ∙ (let d : length met + 1 ≡ suc (length met) = omega arith in d) in
        let inside = stays m lawful s (named (ps j) s) k o here can.1 in
        let rest = subst (λ i. GoesThrough m ps i c ks (run m ps i c ks)) e (goes ks (met ++ (s, k) ∷ []) c inside (omega arith) can.2) in (
          record { room = omega arith; state = l; policy = long j; feasible = here },
          c,
          record { outcome = o; there = can.1; moves = refl },
          subst (λ z. GoesThrough m ps (suc j) c ks (behind (window m ps j a) z (λ d. run m ps (suc j) d ks))) (sym can.1) rest,
        )
