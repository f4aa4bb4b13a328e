-- The order in which the first place decides keeps the laws of a tariff's order, at any number of places.
use Rattle.std.specs.Prelude.{◌≡◌, ℕ, Bool, true, false, ◌⊎◌, [], ◌∷◌, length, ℤ, ◌+ℤ◌, int_lt, refl}
use Rattle.std.proofs.Common.{inl, inr, ⊎_elim, arith}
use Rattle.std.proofs.lemmas.Int.{ints}
use Rattle.interface.specs.Rows.{Row, plus}
use Rattle.tariffs.specs.Orders.{first_decides}

-- both sides of a comparison moved by the same number
lt_z_shift : (x y z : ℤ) → int_lt (x +ℤ z) (y +ℤ z) ≡ int_lt x y
lt_z_shift x y z = grind (arith, ints)

pub first_total : (u v : Row) → (first_decides u v ≡ true) ⊎ (first_decides v u ≡ true)
first_total [] v = inl refl
first_total (x ∷ u) [] = inr refl
first_total (x ∷ u) (y ∷ v) =
    let ih = first_total u v in
    let goes : Type 0 = (first_decides (x ∷ u) (y ∷ v) ≡ true) ⊎ (first_decides (y ∷ v) (x ∷ u) ≡ true) in
    ⊎_elim (λ h. let g : goes = grind (arith, ints) in g) (λ h. let g : goes = grind (arith, ints) in g) ih

pub first_trans : (u v w : Row) → first_decides u v ≡ true → first_decides v w ≡ true → first_decides u w ≡ true
first_trans [] v w p q = refl
first_trans (x ∷ u) [] w p q = let z : ◌≡◌ {A = Bool} false true = p in grind arith
first_trans (x ∷ u) (y ∷ v) [] p q = q
first_trans (x ∷ u) (y ∷ v) (z ∷ w) p q = let ih = first_trans u v w in grind (arith, ints)

pub first_shift : (n : ℕ) (u v w : Row) → length u ≡ n → length v ≡ n → length w ≡ n → first_decides (plus u w) (plus v w) ≡ first_decides u v
first_shift n [] v w p q r = refl
first_shift n (x ∷ u) [] w p q r = absurd (omega arith)
first_shift n (x ∷ u) (y ∷ v) [] p q r = absurd (omega arith)
first_shift n (x ∷ u) (y ∷ v) (z ∷ w) p q r =
    let ih : first_decides (plus u w) (plus v w) ≡ first_decides u v = first_shift (length u) u v w refl (omega arith) (omega arith) in
    simp (lt_z_shift, ih)
