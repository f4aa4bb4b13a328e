-- From the first least over the states to the first least of all, and the greatest of the policy's.
use Rattle.std.proofs.Common.{◌≡◌, ℕ, ◌<◌, Bool, true, false, cond, List, length, Some, None, Option, sym, refl, ap, ◌∙◌, subst, ⊎_elim, arith}
use Rattle.std.specs.Option.{option_map}
use Rattle.std.proofs.lemmas.Bool.{cases_Bool, both_ways}
use Rattle.interface.specs.Plants.{Model, Lawful, named}
use Rattle.interface.specs.Rows.{Row}
use Rattle.interface.specs.Tariffs.{Scale, LawfulScale, AtMost}
use Rattle.lookahead.specs.Best.{Pick, first_best, Chosen, FirstBest, cheaper, dearer, where_feasible}
use Rattle.lookahead.specs.Choices.{pick}
use Rattle.lookahead.specs.declared.best.Aim.TheVariants.{Least, Greatest}
use Rattle.lookahead.specs.declared.best.Choice.{Choice}
use Rattle.lookahead.specs.Gains.{gain}
use Rattle.lookahead.proofs.Bounds.{EachFit}
use Rattle.lookahead.proofs.Firsts.{aim_law}
use Rattle.lookahead.proofs.Leasts.{gain_fits, rows_fit, least_law}
use Rattle.certificate.specs.Recipes.{row_of, state_low, policy_gain, Lowest, Highest}

-- what is there is of a feasible portfolio
pub feasible_of : (m : Model) (F : ℕ → ℕ → Row) (s x : ℕ) (u : Row) → where_feasible m F s x ≡ Some u → (m.feasible s x ≡ true) × (u ≡ F s x)
feasible_of m F s x u h = by_test (m.feasible s x) refl h
  where
    by_test : (b : Bool) → m.feasible s x ≡ b → cond b (Some (F s x)) None ≡ Some u → (m.feasible s x ≡ true) × (u ≡ F s x)
    by_test true f e = (f, cc)
    by_test false f e = let z : ◌≡◌ {A = ℕ} 0 1 = cc in absurd (omega arith)

pub there_of : (m : Model) (F : ℕ → ℕ → Row) (s x : ℕ) → m.feasible s x ≡ true → where_feasible m F s x ≡ Some (F s x)
there_of m F s x h = ap (λ z. cond z (Some (F s x)) None) h

module _ (m : Model) (lawful : Lawful m) (t : Scale) (scaled : LawfulScale t) (vs : List Row) (long : length vs ≡ m.states) (fit : EachFit t.places vs) where
  abbrev G : ℕ → ℕ → Row
  G = gain m t vs

  fits : (s x : ℕ) → m.feasible s x ≡ true → length (G s x) ≡ t.places
  fits = gain_fits m lawful t scaled vs long fit

  state_chosen : (s : ℕ) (u : Row) → state_low m t vs s ≡ Some u → (x : ℕ) × Chosen (cheaper t) (where_feasible m G s) m.portfolios (record { at = x; row = u })
  state_chosen s u h = by_case (first_best (cheaper t) (where_feasible m G s) m.portfolios) h (least_law m t scaled G fits s m.portfolios)
    where
      by_case : (o : Option Pick) → row_of o ≡ Some u → FirstBest (cheaper t) (where_feasible m G s) m.portfolios o → (x : ℕ) × Chosen (cheaper t) (where_feasible m G s) m.portfolios (record { at = x; row = u })
      by_case None e law = let z : ◌≡◌ {A = ℕ} 0 1 = cc in absurd (omega arith)
      by_case (Some p) e law =
          let same : p.row ≡ u = cc in
          (p.at, subst (λ w. Chosen (cheaper t) (where_feasible m G s) m.portfolios (record { at = p.at; row = w })) same law)

  state_there : (s x : ℕ) → m.feasible s x ≡ true → (v : Row) × (state_low m t vs s ≡ Some v) × AtMost t v (G s x)
  state_there s x f = by_case (first_best (cheaper t) (where_feasible m G s) m.portfolios) refl (least_law m t scaled G fits s m.portfolios)
    where
      by_case : (o : Option Pick) → first_best (cheaper t) (where_feasible m G s) m.portfolios ≡ o → FirstBest (cheaper t) (where_feasible m G s) m.portfolios o
          → (v : Row) × (state_low m t vs s ≡ Some v) × AtMost t v (G s x)
      by_case None e law =
          let none = law x (lawful.in_range s x f).1 in
          let some = there_of m G s x f in
          let z : ◌≡◌ {A = ℕ} 0 1 = cc in absurd (omega arith)
      by_case (Some p) e law = (p.row, ap row_of e, law.best x (G s x) (lawful.in_range s x f).1 (there_of m G s x f))

  low_fits : (s : ℕ) (u : Row) → state_low m t vs s ≡ Some u → length u ≡ t.places
  low_fits s u h = let chosen = state_chosen s u h in rows_fit m t scaled G fits s chosen.0 u chosen.1.there

  lowest_law : (n : ℕ) → FirstBest (cheaper t) (state_low m t vs) n (first_best (cheaper t) (state_low m t vs) n)
  lowest_law = aim_law Least t scaled (state_low m t vs) low_fits

  lowest_some : FirstBest (cheaper t) (state_low m t vs) m.states None → ⊥
  lowest_some h =
      let x = lawful.way_out 0 lawful.some_states in
      let there = (state_there 0 x.0 x.1).1 in
      let none = h 0 lawful.some_states in
      let z : ◌≡◌ {A = ℕ} 0 1 = cc in omega arith

  lowest_from : (s : ℕ) (u : Row) → Chosen (cheaper t) (state_low m t vs) m.states (record { at = s; row = u }) → Lowest m t vs u
  lowest_from s u chosen =
      let inner = state_chosen s u chosen.there in
      let x = inner.0 in
      let of = feasible_of m G s x u inner.1.there in
      let fit-u = low_fits s u chosen.there in
      record {
        state = s;
        portfolio = x;
        feasible = of.0;
        there = of.1;
        least = λ s' x' f.
            let v = state_there s' x' f in
            scaled.transitive u v.0 (G s' x') fit-u (low_fits s' v.0 v.1) (fits s' x' f) (chosen.best s' v.0 (lawful.in_range s' x' f).0 v.1) v.2;
        first = λ s' x' f.
            ⊎_elim
            (λ before.
            let v = state_there s' x' f in
            ⊎_elim
            (λ under. absurd (both_ways (t.at_most v.0 u) (chosen.first s' v.0 before v.1) (scaled.transitive v.0 (G s' x') u (low_fits s' v.0 v.1) (fits s' x' f) fit-u v.2 under)))
            (λ not-under. not-under) (cases_Bool (t.at_most (G s' x') u)))
            (λ same.
            let f' = subst (λ k. m.feasible k x' ≡ true) same.0 f in
            subst (λ k. t.at_most (G k x') u ≡ false) (sym same.0) (inner.1.first x' (G s x') same.1 (there_of m G s x' f')));
      }

  module _ {A : Type 0} (row : A → Row) (o : Option (Choice A)) (n : ℕ) (all : n ≡ m.states) (is : option_map (pick row) o ≡ first_best (cheaper t) (state_low m t vs) n) where
    lowest_chosen : FirstBest (cheaper t) (state_low m t vs) m.states (option_map (pick row) o)
    lowest_chosen = subst (FirstBest (cheaper t) (state_low m t vs) m.states) (sym (is ∙ ap (first_best (cheaper t) (state_low m t vs)) all)) (lowest_law m.states)

    pub lowest_absent : o ≡ None → ⊥
    lowest_absent e = lowest_some (subst (λ z. FirstBest (cheaper t) (state_low m t vs) m.states (option_map (pick row) z)) e lowest_chosen)

    pub lowest_there : (c : Choice A) → o ≡ Some c → Lowest m t vs (row c.amount)
    lowest_there c e = lowest_from c.at (row c.amount) (subst (λ z. FirstBest (cheaper t) (state_low m t vs) m.states (option_map (pick row) z)) e lowest_chosen)

  module _ (ps : List ℕ) (feasible : (s : ℕ) → s < m.states → m.feasible s (named ps s) ≡ true) where
    highest_law : (n : ℕ) → FirstBest (dearer t) (policy_gain m t vs ps) n (first_best (dearer t) (policy_gain m t vs ps) n)
    highest_law = aim_law Greatest t scaled (policy_gain m t vs ps) (λ s u h. rows_fit m t scaled G fits s (named ps s) u h)

    highest_some : FirstBest (dearer t) (policy_gain m t vs ps) m.states None → ⊥
    highest_some h =
        let some = there_of m G 0 (named ps 0) (feasible 0 lawful.some_states) in
        let none = h 0 lawful.some_states in
        let z : ◌≡◌ {A = ℕ} 0 1 = cc in omega arith

    highest_from : (s : ℕ) (u : Row) → Chosen (dearer t) (policy_gain m t vs ps) m.states (record { at = s; row = u }) → Highest m t vs ps u
    highest_from s u chosen = record {
      state = s;
      inside = chosen.below;
      there = (feasible_of m G s (named ps s) u chosen.there).1;
      greatest = λ s' l. chosen.best s' (G s' (named ps s')) l (there_of m G s' (named ps s') (feasible s' l));
      first = λ s' l. chosen.first s' (G s' (named ps s')) l (there_of m G s' (named ps s') (feasible s' (omega (arith, chosen.below))));
    }

    module _ {A : Type 0} (row : A → Row) (o : Option (Choice A)) (n : ℕ) (all : n ≡ m.states) (is : option_map (pick row) o ≡ first_best (dearer t) (policy_gain m t vs ps) n) where
      highest_chosen : FirstBest (dearer t) (policy_gain m t vs ps) m.states (option_map (pick row) o)
      highest_chosen = subst (FirstBest (dearer t) (policy_gain m t vs ps) m.states) (sym (is ∙ ap (first_best (dearer t) (policy_gain m t vs ps)) all)) (highest_law m.states)

      pub highest_absent : o ≡ None → ⊥
      highest_absent e = highest_some (subst (λ z. FirstBest (dearer t) (policy_gain m t vs ps) m.states (option_map (pick row) z)) e highest_chosen)

      pub highest_there : (c : Choice A) → o ≡ Some c → Highest m t vs ps (row c.amount)
      highest_there c e = highest_from c.at (row c.amount) (subst (λ z. FirstBest (dearer t) (policy_gain m t vs ps) m.states (option_map (pick row) z)) e highest_chosen)
