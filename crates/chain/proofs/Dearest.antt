-- Arcs of which none costs more than a limit.
use Rattle.std.proofs.Common.{ℕ, zero, suc, ◌<◌, ◌≤◌, List, [], ◌∷◌, length, get_or, refl, ap, inl, inr, arith}
use Rattle.std.proofs.lemmas.List.Elements.{All-head, All-tail}
use Rattle.std.specs.List.{All}
use Rattle.workorder.specs.Orders.{NoneDearer}
use Rattle.workorder.specs.declared.Arc.{Arc}
use mathlib.Core.List.Memᴰ
use mathlib.Core.List.{Memᴰ as In}

-- each arc by its place, or each arc of the list
pub none_dearer : (m : ℕ) (arcs : List Arc) → All (λ a. a.cents ≤ m) arcs → NoneDearer m arcs
none_dearer m [] all a i = absurd (Memᴰ.not-nil i)
none_dearer m (b ∷ rest) all a i =
    elim (Memᴰ.cases_cons i) [
      | inl e ↦ (let same = ap (λ (x : Arc). x.cents) e in omega (arith, All-head (λ (x : Arc). x.cents ≤ m) b rest all))
      | inr k ↦ none_dearer m rest (All-tail (λ (x : Arc). x.cents ≤ m) b rest all) a k
    ]

in_at : (arcs : List Arc) (i : ℕ) (d : Arc) → i < length arcs → In (get_or arcs i d) arcs
in_at [] i d inside = absurd (omega arith)
in_at (a ∷ rest) zero d inside = In.head refl
in_at (a ∷ rest) (suc i) d inside = In.tail (in_at rest i d (omega arith))

pub all_from_none_dearer : (m : ℕ) (arcs : List Arc) → NoneDearer m arcs → All (λ a. a.cents ≤ m) arcs
all_from_none_dearer m arcs none i d inside = none (get_or arcs i d) (in_at arcs i d inside)
