-- From the first test that fails to the rule and its place, and back.
use Rattle.std.proofs.Common.{◌≡◌, ℕ, Bool, true, false, cond, ◌&&◌, eqb, leb, List, length, Some, None, sym, refl, ap, ◌∙◌, subst, ⊎_elim, arith}
use Rattle.std.proofs.lemmas.Bool.{cases_Bool, and_parts, and_from, leb-true, leb-false, le-leb, lt-leb, eqb-true, eq-eqb, cond-true, both_ways}
use Rattle.interface.specs.Plants.{Model, Lawful, named}
use Rattle.interface.specs.Rows.{Row, reach}
use Rattle.interface.specs.Tariffs.{Scale}
use Rattle.interface.specs.Limits.{most_value, most_claim}
use Rattle.lookahead.specs.Gains.{value_of, gain, Within}
use Rattle.certificate.specs.declared.refusal.Refusal.{Refusal}
use Rattle.certificate.specs.declared.refusal.Refusal.TheVariants.{WrongLength, BeyondReach, Infeasible, LowBroken, HighBroken}
use Rattle.certificate.specs.Reasons.{Level, ClaimsNear, FarValue, Before, LowFails}
use Rattle.certificate.specs.RecipeRefusedAs.{RecipeRefusedAs, by_length as recipe_by_length, by_value as recipe_by_value, by_policy as recipe_by_policy}
use Rattle.certificate.specs.Recipes.{policy_fault, recipe_refusal}
use Rattle.certificate.specs.RefusedAs.{RefusedAs, by_length, by_claim, by_value, by_policy, by_low, by_high}
use Rattle.certificate.specs.Refusals.{number_of, place_of, or_else, first_fault, each, value_fault, low_test, state_fault, level, refusal}
use Rattle.certificate.proofs.Faults.{or_some, first_at, fault_at, none_from, each_not, each_failed}
use Rattle.certificate.proofs.Soundness.{passed, failed, failed_last, near_from, near_to, low_held, low_each, state_held, state_clear, at_feasible, at_low}

level_from : (m : Model) (vs : List Row) (ps : List ℕ) → level m vs ps ≡ true → Level m vs ps
level_from m vs ps h =
    let both = and_parts (eqb (length vs) m.states) (eqb (length ps) m.states) h in
    record { values = eqb-true (length vs) m.states both.0; policy = eqb-true (length ps) m.states both.1 }

level_to : (m : Model) (vs : List Row) (ps : List ℕ) → Level m vs ps → level m vs ps ≡ true
level_to m vs ps lengths = and_from (eqb (length vs) m.states) (eqb (length ps) m.states) (eq-eqb (length vs) m.states lengths.values) (eq-eqb (length ps) m.states lengths.policy)

level_failed : (m : Model) (vs : List Row) (ps : List ℕ) → (Level m vs ps → ⊥) → level m vs ps ≡ false
level_failed m vs ps far = ⊎_elim (λ yes. absurd (far (level_from m vs ps yes))) (λ no_way. no_way) (cases_Bool (level m vs ps))

not_level : (m : Model) (vs : List Row) (ps : List ℕ) → level m vs ps ≡ false → Level m vs ps → ⊥
not_level m vs ps h lengths = both_ways (level m vs ps) h (level_to m vs ps lengths)

module _ (low high : Row) where
  abbrev claims_test : Bool
  claims_test = leb (reach low) most_claim && leb (reach high) most_claim

  claims_from : claims_test ≡ true → ClaimsNear low high
  claims_from h =
      let both = and_parts (leb (reach low) most_claim) (leb (reach high) most_claim) h in
      record { low_near = leb-true (reach low) most_claim both.0; high_near = leb-true (reach high) most_claim both.1 }

  claims_to : ClaimsNear low high → claims_test ≡ true
  claims_to near = and_from (leb (reach low) most_claim) (leb (reach high) most_claim) (le-leb (reach low) most_claim near.low_near) (le-leb (reach high) most_claim near.high_near)

  claims_not : claims_test ≡ false → ClaimsNear low high → ⊥
  claims_not h near = both_ways claims_test h (claims_to near)

  claims_failed : (ClaimsNear low high → ⊥) → claims_test ≡ false
  claims_failed far = ⊎_elim (λ yes. absurd (far (claims_from yes))) (λ no_way. no_way) (cases_Bool claims_test)

module _ (m : Model) (t : Scale) (vs : List Row) where
  -- the first value beyond reach
  far_from : (e : Refusal) → first_fault (value_fault t vs) m.states ≡ Some e → (s : ℕ) × (BeyondReach s ≡ e) × FarValue m t vs s
  far_from e some =
      let found = first_at (value_fault t vs) m.states e some in
      let s = found.at in
      let far = failed_last (leb (reach (value_of t vs s)) most_value) (BeyondReach s) e found.there in (
        s,
        far.1,
        record {
          state = found.below;
          near = λ k l. leb-true (reach (value_of t vs k)) most_value (passed (leb (reach (value_of t vs k)) most_value) None (BeyondReach k) (found.before k l)).0;
          far = leb-false (reach (value_of t vs s)) most_value far.0;
        },
      )

  far_to : (s : ℕ) → FarValue m t vs s → first_fault (value_fault t vs) m.states ≡ Some (BeyondReach s)
  far_to s far = fault_at (value_fault t vs) m.states s (BeyondReach s) far.state
      (none_from (value_fault t vs) s (λ k l. ap (λ z. cond z None (Some (BeyondReach k))) (le-leb (reach (value_of t vs k)) most_value (far.near k l))))
      (ap (λ z. cond z None (Some (BeyondReach s))) (lt-leb (reach (value_of t vs s)) most_value far.far))

  near_all : Within m vs → first_fault (value_fault t vs) m.states ≡ None
  near_all within = subst (λ n. first_fault (value_fault t vs) n ≡ None) within.long (near_to t vs within.near)

  within_all : length vs ≡ m.states → first_fault (value_fault t vs) m.states ≡ None → Within m vs
  within_all long none = record { long = long; near = near_from t vs (subst (λ n. first_fault (value_fault t vs) n ≡ None) (sym long) none) }

module _ (m : Model) (lawful : Lawful m) (t : Scale) (vs : List Row) (ps : List ℕ) (low high : Row) where
  abbrev Why : Refusal → Type 0
  Why e = RefusedAs m t vs ps low high (number_of e) (place_of e)

  low_fails : (s : ℕ) → m.feasible s (named ps s) ≡ true → each (low_test m t vs low s) m.portfolios ≡ false → LowFails m t vs ps low s
  low_fails s f h =
      let one = each_failed (low_test m t vs low s) m.portfolios h in
      let parts = by_test (m.feasible s one.0) (t.at_most low (gain m t vs s one.0)) one.1 in
      record { policy_feasible = f; portfolio = one.0; feasible = parts.0; below = parts.1 }
    where
      by_test : (b a : Bool) → cond b a true ≡ false → (b ≡ true) × (a ≡ false)
      by_test true a h' = (refl, h')
      by_test false a h' = let z : ◌≡◌ {A = ℕ} 0 1 = cc in absurd (omega arith)

  -- by the tests of the first state of which one fails
  why_state : (s : ℕ) (e : Refusal) → Before m t vs ps low high s → state_fault m t vs ps low high s ≡ Some e → Why e
  why_state s e before some =
      ⊎_elim
      (λ first. subst Why first.1 (by_policy before first.0))
      (λ first. ⊎_elim
      (λ second. subst Why second.1 (by_low before (low_fails s first.0 second.0)))
      (λ second.
      let third = failed_last (t.at_most (gain m t vs s (named ps s)) high) (HighBroken s) e second.1 in
      subst Why third.1 (by_high before (record { feasible = first.0; low_holds = low_held m lawful t vs ps low high s second.0; above = third.0 })))
      (failed (each (low_test m t vs low s) m.portfolios) _ (LowBroken s) e first.1))
      (failed (m.feasible s (named ps s)) _ (Infeasible s) e some)

  why_states : (e : Refusal) → Level m vs ps → ClaimsNear low high → first_fault (value_fault t vs) m.states ≡ None → first_fault (state_fault m t vs ps low high) m.states ≡ Some e → Why e
  why_states e lengths claims none some =
      let found = first_at (state_fault m t vs ps low high) m.states e some in
      why_state found.at e
      (record {
        values = within_all m t vs lengths.values none;
        policy = lengths.policy;
        claims = claims;
        state = found.below;
        each = λ k l. state_held m lawful t vs ps low high k (found.before k l);
      }) found.there

  why_value : (e : Refusal) → Level m vs ps → ClaimsNear low high → first_fault (value_fault t vs) m.states ≡ Some e → Why e
  why_value e lengths claims some =
      let far = far_from m t vs e some in
      subst Why far.1 (by_value lengths claims far.2)

  pub reason_from : (e : Refusal) → refusal m t vs ps low high ≡ Some e → Why e
  reason_from e some =
      ⊎_elim
      (λ one. subst Why one.1 (by_length (not_level m vs ps one.0)))
      (λ one.
      let lengths = level_from m vs ps one.0 in
      ⊎_elim
      (λ two. subst Why two.1 (by_claim lengths (claims_not low high two.0)))
      (λ two.
      let claims = claims_from low high two.0 in
      ⊎_elim (λ value. why_value e lengths claims value) (λ state. why_states e lengths claims state.0 state.1)
      (or_some (first_fault (value_fault t vs) m.states) (first_fault (state_fault m t vs ps low high) m.states) e two.1))
      (failed (claims_test low high) _ (BeyondReach m.states) e one.1))
      (failed (level m vs ps) _ WrongLength e some)

  -- the refusal, once the lengths, the claims and the values are as they should be
  past_lengths : Level m vs ps
      → refusal m t vs ps low high ≡ cond (claims_test low high) (or_else (first_fault (value_fault t vs) m.states) (first_fault (state_fault m t vs ps low high) m.states)) (Some (BeyondReach m.states))
  past_lengths lengths = cond-true (level m vs ps) _ _ (level_to m vs ps lengths)

  past_claims : Level m vs ps → ClaimsNear low high → refusal m t vs ps low high ≡ or_else (first_fault (value_fault t vs) m.states) (first_fault (state_fault m t vs ps low high) m.states)
  past_claims lengths near = past_lengths lengths ∙ cond-true (claims_test low high) _ _ (claims_to low high near)

  at_state : (s : ℕ) (e : Refusal) → Before m t vs ps low high s → state_fault m t vs ps low high s ≡ Some e → refusal m t vs ps low high ≡ Some e
  at_state s e before here =
      past_claims (record { values = before.values.long; policy = before.policy }) before.claims
      ∙ ap (λ z. or_else z (first_fault (state_fault m t vs ps low high) m.states)) (near_all m t vs before.values)
      ∙ fault_at (state_fault m t vs ps low high) m.states s e before.state
      (none_from (state_fault m t vs ps low high) s (λ k l. state_clear m lawful t vs ps low high k (before.each k l))) here

  not_low : (s : ℕ) → LowFails m t vs ps low s → each (low_test m t vs low s) m.portfolios ≡ false
  not_low s fails = each_not (low_test m t vs low s) m.portfolios fails.portfolio (lawful.in_range s fails.portfolio fails.feasible).1
      (ap (λ z. cond z (t.at_most low (gain m t vs s fails.portfolio)) true) fails.feasible ∙ fails.below)

  -- a rule that is broken at a place is the refusal that is told
  pub record Told (n p : ℕ) : Type 0 where
    pub told : Refusal
    pub is : refusal m t vs ps low high ≡ Some told
    pub number : number_of told ≡ n
    pub place : place_of told ≡ p

  pub reason_to : (n p : ℕ) → RefusedAs m t vs ps low high n p → Told n p
  reason_to n p (by_length far) = record {
    told = WrongLength;
    is = ap (λ z. cond z (cond (claims_test low high) (or_else (first_fault (value_fault t vs) m.states) (first_fault (state_fault m t vs ps low high) m.states)) (Some (BeyondReach m.states))) (Some WrongLength)) (level_failed m vs ps far);
    number = refl;
    place = refl;
  }
  reason_to n p (by_claim lengths far) = record {
    told = BeyondReach m.states;
    is = past_lengths lengths ∙ ap (λ z. cond z (or_else (first_fault (value_fault t vs) m.states) (first_fault (state_fault m t vs ps low high) m.states)) (Some (BeyondReach m.states))) (claims_failed low high far);
    number = refl;
    place = refl;
  }
  reason_to n p (by_value {s = s} lengths claims far) = record {
    told = BeyondReach s;
    is = past_claims lengths claims ∙ ap (λ z. or_else z (first_fault (state_fault m t vs ps low high) m.states)) (far_to m t vs s far);
    number = refl;
    place = refl;
  }
  reason_to n p (by_policy {s = s} before infeasible) = record {
    told = Infeasible s;
    is = at_state s (Infeasible s) before
        (ap (λ z. cond z (cond (each (low_test m t vs low s) m.portfolios) (cond (t.at_most (gain m t vs s (named ps s)) high) None (Some (HighBroken s))) (Some (LowBroken s))) (Some (Infeasible s))) infeasible);
    number = refl;
    place = refl;
  }
  reason_to n p (by_low {s = s} before fails) = record {
    told = LowBroken s;
    is = at_state s (LowBroken s) before
        (at_feasible m lawful t vs ps low high s fails.policy_feasible
        ∙ ap (λ z. cond z (cond (t.at_most (gain m t vs s (named ps s)) high) None (Some (HighBroken s))) (Some (LowBroken s))) (not_low s fails));
    number = refl;
    place = refl;
  }
  reason_to n p (by_high {s = s} before fails) = record {
    told = HighBroken s;
    is = at_state s (HighBroken s) before
        (at_low m lawful t vs ps low high s fails.feasible (low_each m lawful t vs ps low high s fails.low_holds) ∙ ap (λ z. cond z None (Some (HighBroken s))) fails.above);
    number = refl;
    place = refl;
  }

module _ (m : Model) (t : Scale) (vs : List Row) (ps : List ℕ) where
  abbrev WhyNone : Refusal → Type 0
  WhyNone e = RecipeRefusedAs m t vs ps (number_of e) (place_of e)

  why_policy : (e : Refusal) → Level m vs ps → first_fault (value_fault t vs) m.states ≡ None → first_fault (policy_fault m ps) m.states ≡ Some e → WhyNone e
  why_policy e lengths none some =
      let found = first_at (policy_fault m ps) m.states e some in
      let s = found.at in
      let here = failed_last (m.feasible s (named ps s)) (Infeasible s) e found.there in
      subst WhyNone here.1
      (recipe_by_policy
      (record {
        values = within_all m t vs lengths.values none;
        policy = lengths.policy;
        state = found.below;
        feasible = λ k l. (passed (m.feasible k (named ps k)) None (Infeasible k) (found.before k l)).0;
        infeasible = here.0;
      }))

  pub recipe_reason_from : (e : Refusal) → recipe_refusal m t vs ps ≡ Some e → WhyNone e
  recipe_reason_from e some =
      ⊎_elim
      (λ one. subst WhyNone one.1 (recipe_by_length (not_level m vs ps one.0)))
      (λ one.
      let lengths = level_from m vs ps one.0 in
      ⊎_elim
      (λ value. let far = far_from m t vs e value in subst WhyNone far.1 (recipe_by_value lengths far.2))
      (λ policy. why_policy e lengths policy.0 policy.1)
      (or_some (first_fault (value_fault t vs) m.states) (first_fault (policy_fault m ps) m.states) e one.1))
      (failed (level m vs ps) _ WrongLength e some)

  past_recipe_lengths : Level m vs ps → recipe_refusal m t vs ps ≡ or_else (first_fault (value_fault t vs) m.states) (first_fault (policy_fault m ps) m.states)
  past_recipe_lengths lengths = cond-true (level m vs ps) _ _ (level_to m vs ps lengths)

  pub record RecipeTold (n p : ℕ) : Type 0 where
    pub told : Refusal
    pub is : recipe_refusal m t vs ps ≡ Some told
    pub number : number_of told ≡ n
    pub place : place_of told ≡ p

  pub recipe_reason_to : (n p : ℕ) → RecipeRefusedAs m t vs ps n p → RecipeTold n p
  recipe_reason_to n p (recipe_by_length far) = record {
    told = WrongLength;
    is = ap (λ z. cond z (or_else (first_fault (value_fault t vs) m.states) (first_fault (policy_fault m ps) m.states)) (Some WrongLength)) (level_failed m vs ps far);
    number = refl;
    place = refl;
  }
  recipe_reason_to n p (recipe_by_value {s = s} lengths far) = record {
    told = BeyondReach s;
    is = past_recipe_lengths lengths ∙ ap (λ z. or_else z (first_fault (policy_fault m ps) m.states)) (far_to m t vs s far);
    number = refl;
    place = refl;
  }
  recipe_reason_to n p (recipe_by_policy {s = s} first) = record {
    told = Infeasible s;
    is =
        past_recipe_lengths (record { values = first.values.long; policy = first.policy })
        ∙ ap (λ z. or_else z (first_fault (policy_fault m ps) m.states)) (near_all m t vs first.values)
        ∙ fault_at (policy_fault m ps) m.states s (Infeasible s) first.state
        (none_from (policy_fault m ps) s (λ k l. ap (λ z. cond z None (Some (Infeasible k))) (first.feasible k l)))
        (ap (λ z. cond z None (Some (Infeasible s))) first.infeasible);
    number = refl;
    place = refl;
  }
