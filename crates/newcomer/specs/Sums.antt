-- Rows compared by the sum of their places keep the laws of an order.
use Rattle.std.specs.Prelude.{◌≡◌, ℕ, true, ◌⊎◌, [], ◌∷◌, length, ℤ, ◌+ℤ◌, int_le, refl}
use Rattle.std.proofs.Common.{arith}
use Rattle.std.proofs.lemmas.Int.{ints}
use Rattle.interface.specs.Rows.{Row, plus}
use Rattle.newcomer.specs.Basket.{contents}

le_z_total : (x y : ℤ) → (int_le x y ≡ true) ⊎ (int_le y x ≡ true)
le_z_total x y = grind (arith, ints)

le_z_trans : (x y z : ℤ) → int_le x y ≡ true → int_le y z ≡ true → int_le x z ≡ true
le_z_trans x y z p q = grind (arith, ints)

le_z_shift : (x y z : ℤ) → int_le (x +ℤ z) (y +ℤ z) ≡ int_le x y
le_z_shift x y z = grind (arith, ints)

contents_plus : (n : ℕ) (u v : Row) → length u ≡ n → length v ≡ n → contents (plus u v) ≡ contents u +ℤ contents v
contents_plus n [] [] p q = refl
contents_plus n [] (y ∷ v) p q = absurd (omega arith)
contents_plus n (x ∷ u) [] p q = absurd (omega arith)
contents_plus n (x ∷ u) (y ∷ v) p q =
    let ih = contents_plus (length u) u v refl (omega arith) in
    omega (arith, ints, ih)

pub sum_total : (u v : Row) → (int_le (contents u) (contents v) ≡ true) ⊎ (int_le (contents v) (contents u) ≡ true)
sum_total u v = le_z_total (contents u) (contents v)

pub sum_trans : (u v w : Row) → int_le (contents u) (contents v) ≡ true → int_le (contents v) (contents w) ≡ true → int_le (contents u) (contents w) ≡ true
sum_trans u v w = le_z_trans (contents u) (contents v) (contents w)

pub sum_shift : (n : ℕ) (u v w : Row) → length u ≡ n → length v ≡ n → length w ≡ n → int_le (contents (plus u w)) (contents (plus v w)) ≡ int_le (contents u) (contents v)
sum_shift n u v w p q r = simp (contents_plus n u w p r, contents_plus n v w q r) (le_z_shift (contents u) (contents v) (contents w))
