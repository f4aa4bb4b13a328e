-- The least look-ahead and the least gain of a state, under a table within reach.
use Rattle.std.proofs.Common.{◌≡◌, ℕ, ◌<◌, Bool, true, false, cond, List, [], ◌∷◌, length, Some, None, sym, refl, ◌∙◌, subst, arith}
use Rattle.std.proofs.lemmas.List.{length-replicate}
use Rattle.interface.specs.declared.plant.Outcome.{Outcome}
use Rattle.interface.specs.Limits.{whole}
use Rattle.interface.specs.Plants.{Model, Lawful, Inside}
use Rattle.interface.specs.Rows.{Row, minus, times}
use Rattle.interface.specs.Tariffs.{Scale, LawfulScale, price}
use Rattle.lookahead.specs.Best.{first_best, FirstBest, cheaper, where_feasible}
use Rattle.lookahead.specs.Gains.{value_of, expected, look_ahead, gain}
use Rattle.lookahead.proofs.Bounds.{EachFit, length_plus, length_times}
use Rattle.lookahead.proofs.Firsts.{first_best_law}

length_minus : (n : ℕ) (u v : Row) → length u ≡ n → length v ≡ n → length (minus u v) ≡ n
length_minus n [] v p q = p
length_minus n (x ∷ u) [] p q = absurd (omega arith)
length_minus n (x ∷ u) (y ∷ v) p q = let ih = length_minus (length u) u v refl (omega arith) in omega arith

module _ (m : Model) (lawful : Lawful m) (t : Scale) (scaled : LawfulScale t) (vs : List Row) (long : length vs ≡ m.states) (fit : EachFit t.places vs) where
  expected_fits : (os : List Outcome) → Inside (length vs) os → length (expected t vs os) ≡ t.places
  expected_fits [] i = length-replicate t.places _
  expected_fits (o ∷ os) i =
      length_plus t.places (times o.weight (value_of t vs o.next)) (expected t vs os)
      (length_times o.weight (value_of t vs o.next) ∙ fit o.next i.0) (expected_fits os i.1)

  pub ahead_fits : (s x : ℕ) → m.feasible s x ≡ true → length (look_ahead m t vs s x) ≡ t.places
  ahead_fits s x feasible =
      let inside = subst (λ n. Inside n (m.outcomes s x)) (sym long) (lawful.spread s x feasible).inside in
      let b = m.bill s x in
      length_plus t.places (times whole (price t b)) (expected t vs (m.outcomes s x))
      (length_times whole (price t b) ∙ length_plus t.places (times b.seconds t.second) (times b.cents t.cent)
      (length_times b.seconds t.second ∙ scaled.second_fits) (length_times b.cents t.cent ∙ scaled.cent_fits))
      (expected_fits (m.outcomes s x) inside)

  pub gain_fits : (s x : ℕ) → m.feasible s x ≡ true → length (gain m t vs s x) ≡ t.places
  gain_fits s x feasible =
      let inside : s < length vs = omega (arith, long, (lawful.in_range s x feasible).0) in
      length_minus t.places (look_ahead m t vs s x) (times whole (value_of t vs s)) (ahead_fits s x feasible)
      (length_times whole (value_of t vs s) ∙ fit s inside)

module _ (m : Model) (t : Scale) (scaled : LawfulScale t) (F : ℕ → ℕ → Row) (fits : (s x : ℕ) → m.feasible s x ≡ true → length (F s x) ≡ t.places) where
  -- a row that is there is one of a feasible portfolio
  pub rows_fit : (s : ℕ) (x : ℕ) (u : Row) → where_feasible m F s x ≡ Some u → length u ≡ t.places
  rows_fit s x u e = by_test (m.feasible s x) refl e
    where
      by_test : (b : Bool) → m.feasible s x ≡ b → cond b (Some (F s x)) None ≡ Some u → length u ≡ t.places
      by_test true f h = let same : F s x ≡ u = cc in subst (λ w. length w ≡ t.places) same (fits s x f)
      by_test false f h = let z : ◌≡◌ {A = ℕ} 0 1 = cc in absurd (omega arith)

  pub least_law : (s n : ℕ) → FirstBest (cheaper t) (where_feasible m F s) n (first_best (cheaper t) (where_feasible m F s) n)
  least_law s n = first_best_law (cheaper t) (λ u. length u ≡ t.places) scaled.total scaled.transitive (where_feasible m F s) (rows_fit s) n
