-- Rows place by place, for loops that write one place after another and for arrays made place by place.
use Rattle.std.proofs.Common.{◌≡◌, ℕ, zero, suc, ◌+◌, ◌<◌, ◌≤◌, max, [], ◌∷◌, ◌++◌, length, get_or, take, drop, set, pos, ◌+ℤ◌, ◌-ℤ◌, ◌*ℤ◌, nat_abs, true, refl, ap, subst, ◌∙◌, ◌⊎◌, inl, inr, arith, add-one, append-nil, ℤ}
use Rattle.std.specs.List.{fold}
use Rattle.std.proofs.lemmas.Bool.{leb-true}
use Rattle.std.proofs.lemmas.List.{take_all, drop_all, same_lists, get_or_default}
use Rattle.std.proofs.Math.Nat.{eq-or-lt_of_le}
use Rattle.std.specs.Fn.{Called, Mut}
use Rattle.std.specs.Array.{IsFromFnResult, IsFromFnResultFrom}
use Rattle.std.specs.Int.{int_div_euclid}
use Rattle.interface.specs.Limits.{whole, most_reach}
use Rattle.interface.specs.Rows.{Row, plus, minus, times, share, reach}
use Rattle.interface.specs.Tariffs.{summable}

pub reach_at : (u : Row) (k : ℕ) → nat_abs (get_or u k (pos 0)) ≤ reach u
reach_at [] k = omega arith
reach_at (x ∷ u) zero = omega arith
reach_at (x ∷ u) (suc k) = let ih = reach_at u k in omega arith

pub length-plus : (u v : Row) → length u ≡ length v → length (plus u v) ≡ length u
length-plus [] v e = refl
length-plus (x ∷ u) [] e = absurd (omega arith)
length-plus (x ∷ u) (y ∷ v) e = let ih = length-plus u v (omega arith) in omega arith

pub length-minus : (u v : Row) → length u ≡ length v → length (minus u v) ≡ length u
length-minus [] v e = refl
length-minus (x ∷ u) [] e = absurd (omega arith)
length-minus (x ∷ u) (y ∷ v) e = let ih = length-minus u v (omega arith) in omega arith

pub plus_at : (u v : Row) (k : ℕ) → length u ≡ length v → get_or (plus u v) k (pos 0) ≡ get_or u k (pos 0) +ℤ get_or v k (pos 0)
plus_at [] [] k e = refl
plus_at [] (y ∷ v) k e = absurd (omega arith)
plus_at (x ∷ u) [] k e = absurd (omega arith)
plus_at (x ∷ u) (y ∷ v) zero e = refl
plus_at (x ∷ u) (y ∷ v) (suc k) e = plus_at u v k (omega arith)

pub minus_at : (u v : Row) (k : ℕ) → length u ≡ length v → get_or (minus u v) k (pos 0) ≡ get_or u k (pos 0) -ℤ get_or v k (pos 0)
minus_at [] [] k e = refl
minus_at [] (y ∷ v) k e = absurd (omega arith)
minus_at (x ∷ u) [] k e = absurd (omega arith)
minus_at (x ∷ u) (y ∷ v) zero e = refl
minus_at (x ∷ u) (y ∷ v) (suc k) e = minus_at u v k (omega arith)

pub length-times : (n : ℕ) (u : Row) → length (times n u) ≡ length u
length-times n [] = refl
length-times n (x ∷ u) = let ih = length-times n u in omega arith

pub length-share : (u : Row) → length (share u) ≡ length u
length-share [] = refl
length-share (x ∷ u) = let ih = length-share u in omega arith

pub times_at : (n : ℕ) (u : Row) (k : ℕ) → k < length u → get_or (times n u) k (pos 0) ≡ pos n *ℤ get_or u k (pos 0)
times_at n [] k l = absurd (omega arith)
times_at n (x ∷ u) zero l = refl
times_at n (x ∷ u) (suc k) l = times_at n u k (omega arith)

pub share_at : (u : Row) (k : ℕ) → k < length u → get_or (share u) k (pos 0) ≡ int_div_euclid (get_or u k (pos 0)) (pos whole)
share_at [] k l = absurd (omega arith)
share_at (x ∷ u) zero l = refl
share_at (x ∷ u) (suc k) l = share_at u k (omega arith)

-- While the first i places of a row are those of p, and the others still those of u: the next place, one place more, and the end.
none_left : (i : ℕ) → get_or (take i [] ++ drop i []) i (pos 0) ≡ pos 0
none_left zero = refl
none_left (suc i) = refl

next : (p u : Row) (i : ℕ) → length p ≡ length u → get_or (take i p ++ drop i u) i (pos 0) ≡ get_or u i (pos 0)
next [] [] i e = none_left i
next [] (x ∷ u) i e = absurd (omega arith)
next (z ∷ p) [] i e = absurd (omega arith)
next (z ∷ p) (x ∷ u) zero e = refl
next (z ∷ p) (x ∷ u) (suc i) e = next p u i (omega arith)

more : (p u : Row) (i : ℕ) → length p ≡ length u → i < length u → set (take i p ++ drop i u) i (get_or p i (pos 0)) ≡ take (suc i) p ++ drop (suc i) u
more [] [] i e l = absurd (omega arith)
more [] (x ∷ u) i e l = absurd (omega arith)
more (z ∷ p) [] i e l = absurd (omega arith)
more (z ∷ p) (x ∷ u) zero e l = refl
more (z ∷ p) (x ∷ u) (suc i) e l = ap (λ (s : Row). z ∷ s) (more p u i (omega arith) (omega arith))

pub next_place : (p u r : Row) (i : ℕ) → length p ≡ length u → r ≡ take i p ++ drop i u → get_or r i (pos 0) ≡ get_or u i (pos 0)
next_place p u r i e h = rw h (next p u i e)

pub one_more : (p u r : Row) (i : ℕ) (v : ℤ) → length p ≡ length u → i < length u → r ≡ take i p ++ drop i u → v ≡ get_or p i (pos 0) → set r i v ≡ take (i + 1) p ++ drop (i + 1) u
one_more p u r i v e l h w = rw (h, w, add-one) (more p u i e l)

pub all_places : (p u r : Row) (i : ℕ) → length p ≡ length u → length u ≤ i → r ≡ take i p ++ drop i u → r ≡ p
all_places p u r i e l h = rw (h, take_all i p (omega arith), drop_all i u l, append-nil)

-- Places of two rows that may be added or subtracted are together within the limit.
pub together : (u v : Row) → summable u v ≡ true → (k : ℕ) → nat_abs (get_or u k (pos 0)) + nat_abs (get_or v k (pos 0)) ≤ most_reach
together u v s k = let few = leb-true _ _ s in omega (arith, reach_at u k, reach_at v k)

-- What from_fn makes of a closure that gives each place of a row, and keeps what it captured, is the row.
module _ {F : Type 0} (g : Mut F (ℕ × Unit {0}) ℤ) (f : F) (p r : Row) (each : (i : ℕ) (y : ℤ) (q : F) → i < length p → Called g f (i, tt) y q → (y ≡ get_or p i (pos 0)) × (q ≡ f)) where
  made_at : (i n : ℕ) → i + n ≤ length p → IsFromFnResultFrom g f r i n → (k : ℕ) (d : ℤ) → i ≤ k → k < i + n → get_or r k d ≡ get_or p k (pos 0)
  made_at i zero b h k d l m = absurd (omega arith)
  made_at i (suc n) b (q, y, is, called, rest) k d l m =
      let gives = each i y q (omega arith) called in
      by (is.1 d ∙ gives.0) (λ o. made_at (i + 1) n (omega arith) (subst (λ (t : F). IsFromFnResultFrom g t r (i + 1) n) gives.1 rest) k d (omega (arith, o)) (omega arith)) (eq-or-lt_of_le l)
    where
      by : get_or r i d ≡ get_or p i (pos 0) → (i < k → get_or r k d ≡ get_or p k (pos 0)) → (i ≡ k) ⊎ (i < k) → get_or r k d ≡ get_or p k (pos 0)
      by here later (inl e) = subst (λ (j : ℕ). get_or r j d ≡ get_or p j (pos 0)) e here
      by here later (inr o) = later o

pub row_made : {F : Type 0} {g : Mut F (ℕ × Unit {0}) ℤ} {f : F} {r : Row} {n : ℕ} (p : Row) → IsFromFnResult g f r n → length p ≡ n
    → ((i : ℕ) (y : ℤ) (q : F) → i < length p → Called g f (i, tt) y q → (y ≡ get_or p i (pos 0)) × (q ≡ f)) → r ≡ p
row_made {g = g} {f = f} {r = r} {n = n} p h e each = same_lists r p (omega (arith, h.long)) (λ k d l. made_at g f p r each 0 n (omega (arith, e)) h.each k d (omega arith) (omega (arith, h.long)) ∙ get_or_default p k (pos 0) d (omega (arith, h.long)))

most_so_far : (u : Row) (m : ℕ) → fold (λ m x. max m (nat_abs x)) m u ≡ max m (reach u)
most_so_far [] m = omega arith
most_so_far (x ∷ u) m = let ih = most_so_far u (max m (nat_abs x)) in omega arith

pub fold_reach : (u : Row) → fold (λ m x. max m (nat_abs x)) 0 u ≡ reach u
fold_reach u = let h = most_so_far u 0 in omega arith
