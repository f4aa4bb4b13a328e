-- The first greatest and the first least value of a table.
use Rattle.std.proofs.Common.{◌≡◌, ℕ, zero, suc, ◌≤◌, List, [], ◌∷◌, map, length, Some, None, Option, sym, subst, arith}
use Rattle.std.specs.List.{slice_get}
use Rattle.std.specs.Option.{option_map}
use Rattle.std.proofs.lemmas.List.{length-map}
use Rattle.interface.specs.Rows.{Row}
use Rattle.interface.specs.Tariffs.{Scale, LawfulScale}
use Rattle.lookahead.specs.Best.{first_best, Chosen, FirstBest}
use Rattle.lookahead.specs.declared.best.Aim.{Aim}
use Rattle.lookahead.specs.declared.best.Choice.{Choice}
use Rattle.lookahead.specs.Choices.{pick, good}
use Rattle.lookahead.proofs.Firsts.{aim_law}
use Rattle.lookahead.proofs.Optional.{nth_there}

rows_fit : {A : Type 0} (row : A → Row) (n : ℕ) → ((a : A) → length (row a) ≡ n) → (xs : List A) (k : ℕ) (u : Row) → slice_get (map row xs) k ≡ Some u → length u ≡ n
rows_fit row n f [] k u h = let z : ◌≡◌ {A = ℕ} 0 1 = cc in absurd (omega arith)
rows_fit row n f (x ∷ xs) zero u h = let e : row x ≡ u = cc in subst (λ w. length w ≡ n) e (f x)
rows_fit row n f (x ∷ xs) (suc k) u h = rows_fit row n f xs k u h

module _ {A : Type 0} (row : A → Row) (t : Scale) (scaled : LawfulScale t) (fits : (a : A) → length (row a) ≡ t.places) (xs : List A) where
  extreme_law : (aim : Aim) (n : ℕ) → FirstBest (good aim t) (slice_get (map row xs)) n (first_best (good aim t) (slice_get (map row xs)) n)
  extreme_law aim = aim_law aim t scaled (slice_get (map row xs)) (rows_fit row t.places fits xs)

  module _ (aim : Aim) (o : Option (Choice A)) (is : option_map (pick row) o ≡ first_best (good aim t) (slice_get (map row xs)) (length xs)) where
    extreme_chosen : FirstBest (good aim t) (slice_get (map row xs)) (length xs) (option_map (pick row) o)
    extreme_chosen = subst (FirstBest (good aim t) (slice_get (map row xs)) (length xs)) (sym is) (extreme_law aim (length xs))

    -- where there is a value there is a best one
    pub extreme_absent : 1 ≤ length xs → o ≡ None → ⊥
    extreme_absent some e =
        let none = subst (λ z. FirstBest (good aim t) (slice_get (map row xs)) (length xs) (option_map (pick row) z)) e extreme_chosen in
        nth_there (map row xs) 0 (simp length-map (omega arith)) (none 0 (omega arith))

    pub extreme_there : (n : ℕ) → length xs ≡ n → (c : Choice A) → o ≡ Some c → Chosen (good aim t) (slice_get (map row xs)) n (pick row c)
    extreme_there n many c e =
        subst (λ k. Chosen (good aim t) (slice_get (map row xs)) k (pick row c)) many
        (subst (λ z. FirstBest (good aim t) (slice_get (map row xs)) (length xs) (option_map (pick row) z)) e extreme_chosen)
