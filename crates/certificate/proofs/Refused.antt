-- The refusal, test by test.
use Rattle.std.proofs.Common.{◌≡◌, ℕ, Bool, true, false, cond, ◌&&◌, eqb, List, map, length, Some, None, sym, refl, ap, ◌∙◌, subst, arith}
use Rattle.std.proofs.lemmas.List.{length-map}
use Rattle.std.proofs.lemmas.Bool.{and_parts, and_from, eqb-true, eq-eqb, cond-true}
use Rattle.interface.specs.Plants.{Model, named}
use Rattle.interface.specs.Rows.{Row}
use Rattle.interface.specs.Tariffs.{Scale}
use Rattle.lookahead.specs.Gains.{Within}
use Rattle.certificate.specs.declared.refusal.Refusal.TheVariants.{WrongLength, Infeasible}
use Rattle.certificate.specs.Recipes.{Fitting, policy_fault, recipe_refusal}
use Rattle.certificate.specs.Refusals.{or_else, first_fault, value_fault, level}
use Rattle.certificate.proofs.Faults.{level_map, or_none, none_below, none_from}
use Rattle.certificate.proofs.Soundness.{near_from, near_to, passed}

-- both tables have n entries, of the plant's number of states
module _ {A : Type 0} (row : A → Row) (m : Model) (xs : List A) (ps : List ℕ) (same : (eqb (length xs) m.states && eqb (length ps) m.states) ≡ true) where
  pub values_long : length xs ≡ m.states
  values_long = eqb-true (length xs) m.states (and_parts (eqb (length xs) m.states) (eqb (length ps) m.states) same).0

  pub policy_long : length ps ≡ m.states
  policy_long = eqb-true (length ps) m.states (and_parts (eqb (length xs) m.states) (eqb (length ps) m.states) same).1

  pub within_from : (t : Scale) → first_fault (value_fault t (map row xs)) (length xs) ≡ None → Within m (map row xs)
  within_from t h = record {
    long = length-map xs row ∙ values_long;
    near = near_from t (map row xs) (subst (λ n. first_fault (value_fault t (map row xs)) n ≡ None) (sym (length-map xs row)) h);
  }

pub fitting_from : {A : Type 0} (row : A → Row) (m : Model) (t : Scale) (xs : List A) (ps : List ℕ) → recipe_refusal m t (map row xs) ps ≡ None → Fitting m (map row xs) ps
fitting_from row m t xs ps none =
    let one = passed (level m (map row xs) ps) _ WrongLength none in
    let same = sym (level_map row m xs ps) ∙ one.0 in
    let two = or_none (first_fault (value_fault t (map row xs)) m.states) (first_fault (policy_fault m ps) m.states) one.1 in
    record {
      within = within_from row m xs ps same t (subst (λ n. first_fault (value_fault t (map row xs)) n ≡ None) (sym (values_long row m xs ps same)) two.0);
      policy = policy_long row m xs ps same;
      feasible = λ s l. by_test (m.feasible s (named ps s)) s (none_below (policy_fault m ps) m.states s two.1 l);
    }
  where
    by_test : (b : Bool) (s : ℕ) → cond b None (Some (Infeasible s)) ≡ None → b ≡ true
    by_test true s e = refl
    by_test false s e = let z : ◌≡◌ {A = ℕ} 0 1 = cc in absurd (omega arith)

pub fitting_to : {A : Type 0} (row : A → Row) (m : Model) (t : Scale) (xs : List A) (ps : List ℕ) → Fitting m (map row xs) ps → recipe_refusal m t (map row xs) ps ≡ None
fitting_to row m t xs ps ready =
    let values = subst (λ n. first_fault (value_fault t (map row xs)) n ≡ None) ready.within.long (near_to t (map row xs) ready.within.near) in
    let policy = none_from (policy_fault m ps) m.states (λ s l. ap (λ z. cond z None (Some (Infeasible s))) (ready.feasible s l)) in
    cond-true (level m (map row xs) ps) _ _ (and_from (eqb (length (map row xs)) m.states) (eqb (length ps) m.states) (eq-eqb (length (map row xs)) m.states ready.within.long) (eq-eqb (length ps) m.states ready.policy))
    ∙ ap (λ z. or_else z (first_fault (policy_fault m ps) m.states)) values ∙ policy
