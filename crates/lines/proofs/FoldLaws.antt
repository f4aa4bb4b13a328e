-- What `try_fold` gives over a slice, where the closure f gives an option and so ends the fold at its first `None`.
use Rattle.std.proofs.Common.{◌≡◌, List, [], ◌∷◌, Bor, Iter, Some, None, Option, refl, sym, ◌∙◌}
use Rattle.std.proofs.iter.Yields.{fronts}
use Rattle.std.proofs.lemmas.List.{nil_from_length}
use Rattle.std.specs.ControlFlow.{continue_value}
use Rattle.std.specs.Fn.{Called}
use Rattle.std.specs.Iterator.{Yields, TryFoldTurn, TryFoldsItems}
use Rattle.std.specs.List.{FoldsTo}
use Rattle.std.specs.Option.{MatchOption, option_and_then}
use denote.Param.Members.{Mut}

abbrev pub tried : {A B : Type 0} → (B → A → Option B) → B → List A → Option B
tried step b [] = Some b
tried step b (x ∷ xs) = option_and_then (λ c. tried step c xs) (step b x)

module _ (E : Type 0) {A B F : Type 0} {g : Mut F (B × (Bor A × Unit {0})) (Option B)} {f : F} (step : B → A → Option B) (calls : (b : B) (x : Bor A) (r : Option B) (q : F) → Called g f (b, (x, tt)) r q → (q ≡ f) × (r ≡ step b x.now)) where
  tries : (xs : List (Bor A)) (o : Option (Bor A)) (p q : F × B) (s t u : Iter A) (r : Option B) → p.0 ≡ f → Yields fronts s xs t → fronts t o u → FoldsTo {P = F × B} (TryFoldTurn {E = E} g (λ r b. r ≡ continue_value b)) p xs q
      → MatchOption o (r ≡ Some q.1) (λ x. (w : Option B) × (h : F) × E × Called g q.0 (q.1, (x, tt)) w h × (w ≡ None) × (r ≡ None)) → r ≡ tried step p.1 s.rest.now
  tries [] None p q s t u r e y n c end = rw (y, nil_from_length t.rest.now n.0, c) end
  tries [] (Some x) p q s t u r e y n c end =
      let stops : step p.1 x.now ≡ None = sym (calls p.1 x end.0 end.1 (rw (← c, e) at end.3)).1 ∙ end.4 in
      rw (y, n, stops) end.5
  tries (x ∷ xs) o p q s t u r e y n c end =
      let called = calls p.1 x c.1.0 c.0.0 (rw e at c.1.1) in
      let more : step p.1 x.now ≡ Some c.0.1 = sym called.1 ∙ c.1.2 in
      rw (y.1, more) (tries xs o c.0 q y.0 t u r called.0 y.2 n c.2 end)

  pub tried_by_fold : {s u : Iter A} (b : B) (r : Option B) → TryFoldsItems fronts g (λ r b. r ≡ continue_value b) (λ (e : E) r. r ≡ None) s f b r u → r ≡ tried step b s.rest.now
  tried_by_fold {s} {u} b r ran = tries ran.0 ran.1 (f, b) (ran.2, ran.3) s ran.4.0 u r refl ran.4.1 ran.4.2 ran.5 ran.6
