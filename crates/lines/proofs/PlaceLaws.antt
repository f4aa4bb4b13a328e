-- Texts put into space.
use Rattle.std.proofs.Common.{◌≡◌, ℕ, ◌+◌, ◌-◌, ◌≤◌, Bool, true, false, cond, List, ◌++◌, length, take, drop, Some, None, sym, refl, ap, ◌∙◌, arith}
use borrow.Rule.Slice.PartMut.{put_mid}
use Rattle.std.specs.List.{between}
use Rattle.std.proofs.lemmas.List.{length-take-le, take_at, drop_at, drop-drop}
use Rattle.std.proofs.lemmas.Bool.{leb-true}
use Rattle.lines.specs.Placed.{fits, with_text, end_of, placed}

-- what a write to a part of the space leaves
pub put_mid_here : (text space ys : List ℕ) (at k : ℕ) → ys ≡ text → k ≡ length text → put_mid at k space ys ≡ with_text text at space
put_mid_here text space ys at k same long =
    let back : drop k (drop at space) ≡ drop (at + length text) space = drop-drop k at space ∙ ap (λ m. drop (at + m) space) long in
    ap (λ t. take at space ++ t) (λ i. same i ++ back i)

-- where a text was put, and what that says
fitted : (text space : List ℕ) (at e : ℕ) → end_of text at space ≡ Some e → (e ≡ at + length text) × (e ≤ length space) × (placed text at space ≡ with_text text at space)
fitted text space at e = told (fits text at space) refl
  where
    told : (t : Bool) → fits text at space ≡ t → cond t (Some (at + length text)) None ≡ Some e → (e ≡ at + length text) × (e ≤ length space) × (cond t (with_text text at space) space ≡ with_text text at space)
    told false p q = let z : ◌≡◌ {A = ℕ} 0 1 = cc in absurd (omega arith)
    told true p q =
        let room : at + length text ≤ length space = leb-true _ _ p in
        let end : at + length text ≡ e = cc in
        (sym end, omega arith, refl)

-- what was put into the space stands there
pub placed_between : (text space : List ℕ) (at e : ℕ) → end_of text at space ≡ Some e → between at e (placed text at space) ≡ text
placed_between text space at e q =
    let h = fitted text space at e q in
    let front : length (take at space) ≡ at = length-take-le at space (omega (arith, h.0, h.1)) in
    let size : e - at ≡ length text = omega (arith, h.0) in
    ap (between at e) h.2 ∙ ap (take (e - at)) (drop_at (take at space) _ at front) ∙ ap (λ m. take m (text ++ drop (at + length text) space)) size ∙ take_at text _ (length text) refl
