-- A table that is filled with one value.
use Rattle.std.proofs.Common.{◌≡◌, List, [], ◌∷◌, map, length, replicate, refl, subst}
use Rattle.std.specs.List.{FoldsTo}

-- each item comes from one call of a function that does not change and gives this value
pub filled : {A B F : Type 0} (f : A → B) (z : B) (R : F → A → F → Type 0) (p : F) → ((x : A) (q : F) → R p x q → (q ≡ p) × (f x ≡ z)) → (xs : List A) (last : F) → FoldsTo R p xs last → map f xs ≡ replicate (length xs) z
filled f z R p step [] last h = refl
filled f z R p step (x ∷ xs) last h =
    let s = step x h.0 h.1 in
    let rest : map f xs ≡ replicate (length xs) z = filled f z R p step xs last (subst (λ k. FoldsTo R k xs last) s.0 h.2) in
    cc
