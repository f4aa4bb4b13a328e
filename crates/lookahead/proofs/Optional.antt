-- Answers that may be absent, as rows that may be absent.
use Rattle.std.proofs.Common.{◌≡◌, ℕ, zero, suc, ◌+◌, ◌<◌, Bool, true, false, cond, List, [], ◌∷◌, length, drop, Some, None, Option, sym, refl, ap, ◌∙◌, add-one, arith}
use Rattle.std.specs.List.{slice_get}
use Rattle.std.specs.Option.{option_map, IsSomeAnd}
use Rattle.interface.specs.Rows.{Row}
use Rattle.interface.specs.Tariffs.{Answers}

pub answered : {A : Type 0} (row : A → Row) (r : Option A) (b : Bool) (u : Row) → Answers row r b u → option_map row r ≡ cond b (Some u) None
answered row None b u h = sym (ap (λ z. cond z (Some u) None) h)
answered row (Some a) b u h = ap {B = Option Row} Some h.1 ∙ sym (ap (λ z. cond z (Some u) None) h.0)

pub drop_nth : {A : Type 0} (xs : List A) (i : ℕ) (x : A) → slice_get xs i ≡ Some x → drop i xs ≡ x ∷ drop (i + 1) xs
drop_nth [] i x h = let z : ◌≡◌ {A = ℕ} 0 1 = cc in absurd (omega arith)
drop_nth (y ∷ ys) zero x h = let e : y ≡ x = cc in ap (λ w. w ∷ ys) e
drop_nth (y ∷ ys) (suc i) x h = rw add-one (rw add-one at (drop_nth ys i x h))

pub nth_there : {A : Type 0} (xs : List A) (i : ℕ) → i < length xs → slice_get xs i ≡ None → ⊥
nth_there [] i l h = omega arith
nth_there (y ∷ ys) zero l h = let z : ◌≡◌ {A = ℕ} 0 1 = cc in omega arith
nth_there (y ∷ ys) (suc i) l h = nth_there ys i (omega arith) h

-- back from rows that may be absent
pub answers : {A : Type 0} (row : A → Row) (r : Option A) (b : Bool) (u : Row) → option_map row r ≡ cond b (Some u) None → Answers row r b u
answers row None true u h = let z : ◌≡◌ {A = ℕ} 0 1 = cc in absurd (omega arith)
answers row None false u h = refl
answers row (Some a) true u h = (refl, cc)
answers row (Some a) false u h = let z : ◌≡◌ {A = ℕ} 0 1 = cc in absurd (omega arith)

pub some_from : {A : Type 0} (row : A → Row) (r : Option A) (u : Row) → option_map row r ≡ Some u → IsSomeAnd r (λ a. row a ≡ u)
some_from row None u h = let z : ◌≡◌ {A = ℕ} 0 1 = cc in absurd (omega arith)
some_from row (Some a) u h = cc
