-- The first best keeps its law, for any test that is total and transitive on the rows at hand.
use Rattle.std.proofs.Common.{◌≡◌, ℕ, zero, suc, ◌<◌, Bool, true, false, cond, ◌⊎◌, Some, None, Option, sym, refl, subst, ⊎_elim, arith}
use Rattle.std.proofs.lemmas.Bool.{cases_eq, cases_Bool, both_ways}
use Rattle.interface.specs.Rows.{Row}
use Rattle.interface.specs.Tariffs.{Scale, LawfulScale, Fit}
use Rattle.lookahead.specs.Best.{Pick, better, first_best, FirstBest, cheaper, dearer}
use Rattle.lookahead.specs.Choices.{EachFits, good}
use Rattle.lookahead.specs.declared.best.Aim.{Aim}
use Rattle.lookahead.specs.declared.best.Aim.TheVariants.{Least, Greatest}

-- no row is there and absent
clash : {A : Type 0} {X : Type 0} (o : Option A) (a : A) → o ≡ Some a → o ≡ None → X
clash o a p q = let z : ◌≡◌ {A = ℕ} 0 1 = cc in absurd (omega arith)

same : {A : Type 0} (o : Option A) (a b : A) → o ≡ Some a → o ≡ Some b → a ≡ b
same o a b p q = cc

module _ (good : Row → Row → Bool) (Ok : Row → Type 0)
    (total : (u v : Row) → Ok u → Ok v → (good u v ≡ true) ⊎ (good v u ≡ true))
    (trans : (u v w : Row) → Ok u → Ok v → Ok w → good u v ≡ true → good v w ≡ true → good u w ≡ true)
    (f : ℕ → Option Row) (rows : (k : ℕ) (u : Row) → f k ≡ Some u → Ok u) where
  itself : (u : Row) → Ok u → good u u ≡ true
  itself u o = ⊎_elim (λ h. h) (λ h. h) (total u u o o)

  other_way : (u v : Row) → Ok u → Ok v → good u v ≡ false → good v u ≡ true
  other_way u v a b h = ⊎_elim (λ g. absurd (both_ways (good u v) h g)) (λ g. g) (total u v a b)

  -- what holds of each number below n, and of n, holds of each below n + 1
  each_more : (n : ℕ) (P : ℕ → Type 0) → ((k : ℕ) → k < n → P k) → P n → (k : ℕ) → k < suc n → P k
  each_more n P before here k l = ⊎_elim (λ e. subst P (sym e) here) (λ d. before k (omega arith)) (cases_eq k n)

  step : (n : ℕ) (b : Option Pick) (o : Option Row) → f n ≡ o → FirstBest good f n b → FirstBest good f (suc n) (better good b n o)
  step n None None e h = each_more n (λ k. f k ≡ None) h e
  step n (Some p) None e h = record {
    below = omega (arith, h.below);
    there = h.there;
    best = λ k u l q. each_more n (λ j. f j ≡ Some u → good p.row u ≡ true) (λ j lj. h.best j u lj) (λ q'. clash (f n) u q' e) k l q;
    first = h.first;
  }
  step n None (Some u) e h = record {
    below = omega arith;
    there = e;
    best = λ k v l q. each_more n (λ j. f j ≡ Some v → good u v ≡ true) (λ j lj q'. clash (f j) v q' (h j lj)) (λ q'. subst (λ w. good u w ≡ true) (same (f n) u v e q') (itself u (rows n u e))) k l q;
    first = λ k v l q. clash (f k) v q (h k l);
  }
  step n (Some p) (Some u) e h = by_test (good p.row u) refl
    where
      by_test : (b : Bool) → good p.row u ≡ b → FirstBest good f (suc n) (cond b (Some p) (Some (record { at = n; row = u })))
      by_test true g = record {
        below = omega (arith, h.below);
        there = h.there;
        best = λ k v l q. each_more n (λ j. f j ≡ Some v → good p.row v ≡ true) (λ j lj. h.best j v lj) (λ q'. subst (λ w. good p.row w ≡ true) (same (f n) u v e q') g) k l q;
        first = h.first;
      }
      by_test false g =
          let ok-p = rows p.at p.row h.there in
          let ok-u = rows n u e in
          let turned = other_way p.row u ok-p ok-u g in
          record {
            below = omega arith;
            there = e;
            best = λ k v l q. each_more n (λ j. f j ≡ Some v → good u v ≡ true)
                (λ j lj q'. trans u p.row v ok-u ok-p (rows j v q') turned (h.best j v lj q'))
                (λ q'. subst (λ w. good u w ≡ true) (same (f n) u v e q') (itself u ok-u)) k l q;
            first = λ k v l q. ⊎_elim
                (λ back. absurd (both_ways (good p.row u) g (trans p.row v u ok-p (rows k v q) ok-u (h.best k v l q) back)))
                (λ no_way. no_way) (cases_Bool (good v u));
          }

  pub first_best_law : (n : ℕ) → FirstBest good f n (first_best good f n)
  first_best_law zero = λ k l. absurd (omega arith)
  first_best_law (suc n) = step n (first_best good f n) (f n) refl (first_best_law n)

-- the least or the greatest by the order of a lawful scale
pub aim_law : (aim : Aim) (t : Scale) → LawfulScale t → (rows : ℕ → Option Row) → EachFits t rows → (n : ℕ) → FirstBest (good aim t) rows n (first_best (good aim t) rows n)
aim_law Least t scaled rows fits = first_best_law (cheaper t) (Fit t) scaled.total scaled.transitive rows fits
aim_law Greatest t scaled rows fits = first_best_law (dearer t) (Fit t) (λ u v p q. scaled.total v u q p) (λ u v w p q r a b. scaled.transitive w v u r q p b a) rows fits
