-- No test fails exactly when the certificate is sound.
use Rattle.std.proofs.Common.{◌≡◌, ℕ, zero, suc, ◌<◌, ◌≤◌, Bool, true, false, cond, ◌&&◌, eqb, leb, List, [], ◌∷◌, length, get_or, Some, None, Option, ◌⊎◌, inl, inr, sym, refl, ap, ◌∙◌, subst, arith}
use Rattle.std.proofs.lemmas.Bool.{and_parts, and_from, leb-true, le-leb, eqb-true, eq-eqb, cond-true}
use Rattle.interface.specs.Plants.{Model, Lawful, named}
use Rattle.interface.specs.Rows.{Row, zeros, reach}
use Rattle.interface.specs.Tariffs.{Scale, AtMost}
use Rattle.interface.specs.Limits.{most_value, most_claim}
use Rattle.lookahead.specs.Gains.{value_of, gain, Near}
use Rattle.certificate.specs.declared.refusal.Refusal.TheVariants.{WrongLength, BeyondReach, Infeasible, LowBroken, HighBroken}
use Rattle.certificate.specs.Certificates.{Sound}
use Rattle.certificate.specs.Reasons.{Holds}
use Rattle.certificate.specs.Refusals.{or_else, first_fault, each, value_fault, low_test, state_fault, level, refusal}
use Rattle.certificate.proofs.Faults.{none_below, none_from, each_at, each_from, or_none}

-- a test whose failure is a refusal has not failed
pub passed : {A : Type 0} (b : Bool) (x : Option A) (a : A) → cond b x (Some a) ≡ None → (b ≡ true) × (x ≡ None)
passed true x a h = (refl, h)
passed false x a h = let z : ◌≡◌ {A = ℕ} 0 1 = cc in absurd (omega arith)

-- what a test with a fault answers is its own fault, or that of the tests behind it
pub failed : {A : Type 0} (b : Bool) (x : Option A) (a e : A) → cond b x (Some a) ≡ Some e → ((b ≡ false) × (a ≡ e)) ⊎ ((b ≡ true) × (x ≡ Some e))
failed true x a e h = inr (refl, h)
failed false x a e h = inl (refl, cc)

pub failed_last : {A : Type 0} (b : Bool) (a e : A) → cond b None (Some a) ≡ Some e → (b ≡ false) × (a ≡ e)
failed_last true a e h = let z : ◌≡◌ {A = ℕ} 0 1 = cc in absurd (omega arith)
failed_last false a e h = (refl, cc)

pub near_from_each : (n : ℕ) (vs : List Row) → ((s : ℕ) → s < length vs → reach (get_or vs s (zeros n)) ≤ most_value) → Near vs
near_from_each n [] h = tt
near_from_each n (v ∷ vs) h = (h zero (omega arith), near_from_each n vs (λ s l. h (suc s) (omega arith)))

pub near_each : (n : ℕ) (vs : List Row) → Near vs → (s : ℕ) → s < length vs → reach (get_or vs s (zeros n)) ≤ most_value
near_each n [] h s l = absurd (omega arith)
near_each n (v ∷ vs) h zero l = h.0
near_each n (v ∷ vs) h (suc s) l = near_each n vs h.1 s (omega arith)

-- no value beyond reach
pub near_from : (t : Scale) (vs : List Row) → first_fault (value_fault t vs) (length vs) ≡ None → Near vs
near_from t vs h = near_from_each t.places vs (λ s l. leb-true (reach (value_of t vs s)) most_value (by_test (leb (reach (value_of t vs s)) most_value) s (none_below (value_fault t vs) (length vs) s h l)))
  where
    by_test : (b : Bool) (s : ℕ) → cond b None (Some (BeyondReach s)) ≡ None → b ≡ true
    by_test true s e = refl
    by_test false s e = let z : ◌≡◌ {A = ℕ} 0 1 = cc in absurd (omega arith)

pub near_to : (t : Scale) (vs : List Row) → Near vs → first_fault (value_fault t vs) (length vs) ≡ None
near_to t vs h = none_from (value_fault t vs) (length vs) (λ s l. ap (λ z. cond z None (Some (BeyondReach s))) (le-leb (reach (value_of t vs s)) most_value (near_each t.places vs h s l)))

low_from : (b a : Bool) → cond b a true ≡ true → b ≡ true → a ≡ true
low_from true a h e = h
low_from false a h e = let z : ◌≡◌ {A = ℕ} 0 1 = cc in absurd (omega arith)

low_to : (b a : Bool) → (b ≡ true → a ≡ true) → cond b a true ≡ true
low_to true a h = h refl
low_to false a h = refl

module _ (m : Model) (lawful : Lawful m) (t : Scale) (vs : List Row) (ps : List ℕ) (low high : Row) where
  pub low_held : (s : ℕ) → each (low_test m t vs low s) m.portfolios ≡ true → (x : ℕ) → m.feasible s x ≡ true → AtMost t low (gain m t vs s x)
  low_held s h x f = low_from (m.feasible s x) (t.at_most low (gain m t vs s x)) (each_at (low_test m t vs low s) m.portfolios x h (lawful.in_range s x f).1) f

  -- no test of the state fails
  pub state_held : (s : ℕ) → state_fault m t vs ps low high s ≡ None → Holds m t vs ps low high s
  state_held s h =
      let first = passed (m.feasible s (named ps s)) _ (Infeasible s) h in
      let second = passed (each (low_test m t vs low s) m.portfolios) _ (LowBroken s) first.1 in
      record {
        feasible = first.0;
        low_holds = low_held s second.0;
        high_holds = (passed (t.at_most (gain m t vs s (named ps s)) high) None (HighBroken s) second.1).0;
      }

  pub low_each : (s : ℕ) → ((x : ℕ) → m.feasible s x ≡ true → AtMost t low (gain m t vs s x)) → each (low_test m t vs low s) m.portfolios ≡ true
  low_each s holds = each_from (low_test m t vs low s) m.portfolios (λ x _. low_to (m.feasible s x) (t.at_most low (gain m t vs s x)) (holds x))

  -- the tests of a state, one after the other
  pub at_feasible : (s : ℕ) → m.feasible s (named ps s) ≡ true
      → state_fault m t vs ps low high s ≡ cond (each (low_test m t vs low s) m.portfolios) (cond (t.at_most (gain m t vs s (named ps s)) high) None (Some (HighBroken s))) (Some (LowBroken s))
  at_feasible s f = ap (λ z. cond z (cond (each (low_test m t vs low s) m.portfolios) (cond (t.at_most (gain m t vs s (named ps s)) high) None (Some (HighBroken s))) (Some (LowBroken s))) (Some (Infeasible s))) f

  pub at_low : (s : ℕ) → m.feasible s (named ps s) ≡ true → each (low_test m t vs low s) m.portfolios ≡ true
      → state_fault m t vs ps low high s ≡ cond (t.at_most (gain m t vs s (named ps s)) high) None (Some (HighBroken s))
  at_low s f lows = at_feasible s f ∙ ap (λ z. cond z (cond (t.at_most (gain m t vs s (named ps s)) high) None (Some (HighBroken s))) (Some (LowBroken s))) lows

  pub state_clear : (s : ℕ) → Holds m t vs ps low high s → state_fault m t vs ps low high s ≡ None
  state_clear s h = at_low s h.feasible (low_each s h.low_holds) ∙ ap (λ z. cond z None (Some (HighBroken s))) h.high_holds

  pub sound_from : refusal m t vs ps low high ≡ None → Sound m t vs ps low high
  sound_from none =
      let one = passed (level m vs ps) _ WrongLength none in
      let lengths = and_parts (eqb (length vs) m.states) (eqb (length ps) m.states) one.0 in
      let two = passed (leb (reach low) most_claim && leb (reach high) most_claim) _ (BeyondReach m.states) one.1 in
      let claims = and_parts (leb (reach low) most_claim) (leb (reach high) most_claim) two.0 in
      let three = or_none (first_fault (value_fault t vs) m.states) (first_fault (state_fault m t vs ps low high) m.states) two.1 in
      let long = eqb-true (length vs) m.states lengths.0 in
      let near = near_from t vs (subst (λ n. first_fault (value_fault t vs) n ≡ None) (sym long) three.0) in
      record {
        values = record { long = long; near = near };
        policy = eqb-true (length ps) m.states lengths.1;
        low_near = leb-true (reach low) most_claim claims.0;
        high_near = leb-true (reach high) most_claim claims.1;
        feasible = λ s l. (held three.1 s l).feasible;
        low_holds = λ s x f. (held three.1 s (lawful.in_range s x f).0).low_holds x f;
        high_holds = λ s l. (held three.1 s l).high_holds;
      }
    where
      held : first_fault (state_fault m t vs ps low high) m.states ≡ None → (s : ℕ) → s < m.states → Holds m t vs ps low high s
      held h s l = state_held s (none_below (state_fault m t vs ps low high) m.states s h l)

  pub sound_to : Sound m t vs ps low high → refusal m t vs ps low high ≡ None
  sound_to sound =
      let tests : (s : ℕ) → s < m.states → state_fault m t vs ps low high s ≡ None = λ s l.
      state_clear s (record { feasible = sound.feasible s l; low_holds = sound.low_holds s; high_holds = sound.high_holds s l }) in
      let near = subst (λ n. first_fault (value_fault t vs) n ≡ None) sound.values.long (near_to t vs sound.values.near) in
      let states = none_from (state_fault m t vs ps low high) m.states tests in
      cond-true (level m vs ps) _ _ (and_from (eqb (length vs) m.states) (eqb (length ps) m.states) (eq-eqb (length vs) m.states sound.values.long) (eq-eqb (length ps) m.states sound.policy))
      ∙ cond-true (leb (reach low) most_claim && leb (reach high) most_claim) _ _ (and_from (leb (reach low) most_claim) (leb (reach high) most_claim) (le-leb (reach low) most_claim sound.low_near) (le-leb (reach high) most_claim sound.high_near))
      ∙ ap (λ z. or_else z (first_fault (state_fault m t vs ps low high) m.states)) near ∙ states
