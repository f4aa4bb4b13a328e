-- Rows of so many places add up, and those of a scale are ordered: they are amounts of which all laws hold.
use Rattle.std.proofs.Common.{◌≡◌, ℕ, zero, suc, List, [], ◌∷◌, length, get_or, pos, ◌+ℤ◌, ◌*ℤ◌, ⊎_elim, sym, refl, ap, ◌∙◌, subst, arith}
use Rattle.std.proofs.Math.Nat.{ℕ_set}
use Rattle.std.proofs.lemmas.List.{length-replicate}
use lib.IntN.{+ℤ_comm, suc_ℤ-*ℤ, zero-*ℤ, -ℤ-+ℤ_cancel}
use Rattle.interface.specs.declared.plant.Outcome.{Outcome}
use Rattle.interface.specs.Rows.{Row, zeros, plus, minus, times}
use Rattle.interface.specs.Tariffs.{Scale, LawfulScale}
use Rattle.lookahead.specs.Gains.{value_of, expected}
use Rattle.lookahead.proofs.Bounds.{EachFit, length_plus, length_times, plus_assoc, plus_zeros}
use Rattle.following.specs.Rules.{weighed}
use Rattle.following.proofs.Groups.{Sums, Ordered}
use Rattle.following.proofs.Weighing.{over, total}

abbrev pub Sized : ℕ → Type 0
Sized n = (u : Row) × (length u ≡ n)

pub same_rows : (n : ℕ) (u v : Row) → u ≡ v → (p : length u ≡ n) (q : length v ≡ n) → ◌≡◌ {A = Sized n} (u, p) (v, q)
same_rows n u v e =
    subst (λ z. (p : length u ≡ n) (q : length z ≡ n) → ◌≡◌ {A = Sized n} (u, p) (z, q)) e
    (λ p q. ap {B = Sized n} (λ z. (u, z)) (ℕ_set (length u) n p q))

pub plus_comm : (u v : Row) → plus u v ≡ plus v u
plus_comm [] [] = refl
plus_comm [] (y ∷ v) = refl
plus_comm (x ∷ u) [] = refl
plus_comm (x ∷ u) (y ∷ v) = ap (λ z. z ∷ plus u v) (+ℤ_comm x y) ∙ ap (λ z. (y +ℤ x) ∷ z) (plus_comm u v)

pub times_nothing : (n : ℕ) (u : Row) → length u ≡ n → times 0 u ≡ zeros n
times_nothing zero [] e = refl
times_nothing zero (x ∷ u) e = absurd (omega arith)
times_nothing (suc n) [] e = absurd (omega arith)
times_nothing (suc n) (x ∷ u) e = ap (λ z. z ∷ times 0 u) (zero-*ℤ x) ∙ ap (λ z. pos 0 ∷ z) (times_nothing n u (omega arith))

pub times_once_more : (n : ℕ) (u : Row) → times (suc n) u ≡ plus (times n u) u
times_once_more n [] = refl
times_once_more n (x ∷ u) = ap (λ z. z ∷ times (suc n) u) (suc_ℤ-*ℤ (pos n) x) ∙ ap (λ z. (pos n *ℤ x +ℤ x) ∷ z) (times_once_more n u)

pub length_minus : (n : ℕ) (u v : Row) → length u ≡ n → length v ≡ n → length (minus u v) ≡ n
length_minus n [] v p q = p
length_minus n (x ∷ u) [] p q = absurd (omega arith)
length_minus n (x ∷ u) (y ∷ v) p q = let ih = length_minus (length u) u v refl (omega arith) in omega arith

pub minus_plus : (u v : Row) → length u ≡ length v → plus (minus u v) v ≡ u
minus_plus [] v e = refl
minus_plus (x ∷ u) [] e = absurd (omega arith)
minus_plus (x ∷ u) (y ∷ v) e = ap (λ z. z ∷ plus (minus u v) v) (-ℤ-+ℤ_cancel x y) ∙ ap (λ z. x ∷ z) (minus_plus u v (omega arith))

pub value_fits : (n : ℕ) (vs : List Row) → EachFit n vs → (s : ℕ) → length (get_or vs s (zeros n)) ≡ n
value_fits n [] fit s = length-replicate n (pos 0)
value_fits n (v ∷ vs) fit zero = fit zero (omega arith)
value_fits n (v ∷ vs) fit (suc s) = value_fits n vs (λ k l. fit (suc k) (omega arith)) s

abbrev pub rows : (n : ℕ) → Sums (Sized n)
rows n = record {
  none = (zeros n, length-replicate n (pos 0));
  plus = λ a b. (plus a.0 b.0, length_plus n a.0 b.0 a.1 b.1);
  times = λ k a. (times k a.0, length_times k a.0 ∙ a.1);
  assoc = λ a b c. same_rows n (plus (plus a.0 b.0) c.0) (plus a.0 (plus b.0 c.0)) (plus_assoc a.0 b.0 c.0) _ _;
  comm = λ a b. same_rows n (plus a.0 b.0) (plus b.0 a.0) (plus_comm a.0 b.0) _ _;
  plus_none = λ a. same_rows n (plus a.0 (zeros n)) a.0 (plus_zeros n a.0 a.1) _ _;
  times_zero = λ a. same_rows n (times 0 a.0) (zeros n) (times_nothing n a.0 a.1) _ _;
  times_suc = λ k a. same_rows n (times (suc k) a.0) (plus (times k a.0) a.0) (times_once_more k a.0) _ _;
}

abbrev pub ordered_rows : (t : Scale) → LawfulScale t → Ordered (rows t.places)
ordered_rows t scaled = record {
  at_most = λ a b. t.at_most a.0 b.0;
  minus = λ a b. (minus a.0 b.0, length_minus t.places a.0 b.0 a.1 b.1);
  reflexive = λ a. ⊎_elim (λ h. h) (λ h. h) (scaled.total a.0 a.0 a.1 a.1);
  transitive = λ a b c g h. scaled.transitive a.0 b.0 c.0 a.1 b.1 c.1 g h;
  shift = λ a b c. scaled.shift a.0 b.0 c.0 a.1 b.1 c.1;
  back = λ a b. same_rows t.places (plus (minus a.0 b.0) b.0) a.0 (minus_plus a.0 b.0 (a.1 ∙ sym b.1)) _ _;
}

-- back to rows
pub total_rows : (t : Scale) (w : List ℕ → ℕ) (c : List ℕ → Sized t.places) (kss : List (List ℕ)) → (total (rows t.places) w c kss).0 ≡ weighed t w (λ ks. (c ks).0) kss
total_rows t w c [] = refl
total_rows t w c (ks ∷ kss) = ap (plus (times (w ks) (c ks).0)) (total_rows t w c kss)

abbrev pub sized_value : (t : Scale) (vs : List Row) → EachFit t.places vs → ℕ → Sized t.places
sized_value t vs fit s = (value_of t vs s, value_fits t.places vs fit s)

pub expected_rows : (t : Scale) (vs : List Row) (fit : EachFit t.places vs) (k : ℕ) (os : List Outcome)
    → (over (rows t.places) (λ j o. sized_value t vs fit o.next) k os).0 ≡ expected t vs os
expected_rows t vs fit k [] = refl
expected_rows t vs fit k (o ∷ os) = ap (plus (times o.weight (value_of t vs o.next))) (expected_rows t vs fit (suc k) os)
