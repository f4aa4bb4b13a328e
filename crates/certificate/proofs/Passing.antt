-- The portfolios of a state, one after the other: low holds of each so far, and the gain of the policy's is kept in passing.
use Rattle.std.proofs.Common.{◌≡◌, ℕ, ◌<◌, true, false, cond, List, Some, None, Option, sym, ap, ◌∙◌}
use Rattle.std.specs.Option.{option_map}
use Rattle.interface.specs.Plants.{Model, Lawful, named}
use Rattle.interface.specs.Rows.{Row}
use Rattle.interface.specs.Tariffs.{Scale}
use Rattle.lookahead.specs.Gains.{gain}
use Rattle.certificate.specs.Refusals.{each, low_test, state_fault}
use Rattle.certificate.specs.declared.refusal.Refusal.TheVariants.{LowBroken, HighBroken}
use Rattle.certificate.proofs.Faults.{each_not}
use Rattle.certificate.proofs.Soundness.{at_feasible}

pub record SoFar {A : Type 0} (row : A → Row) (m : Model) (t : Scale) (vs : List Row) (low : Row) (s portfolio x : ℕ) (own : Option A) : Type 0 where
  pub lows : each (low_test m t vs low s) x ≡ true
  pub kept : portfolio < x → option_map row own ≡ Some (gain m t vs s portfolio)

-- a feasible portfolio that gains less than low breaks the state, where the policy's is feasible
pub low_broken : (m : Model) (lawful : Lawful m) (t : Scale) (vs : List Row) (low high : Row) (s p x : ℕ) → m.feasible s p ≡ true → m.feasible s x ≡ true → t.at_most low (gain m t vs s x) ≡ false
    → (ps : List ℕ) → named ps s ≡ p → Some (LowBroken s) ≡ state_fault m t vs ps low high s
low_broken m lawful t vs low high s p x own f below ps entry =
    let not-each = each_not (low_test m t vs low s) m.portfolios x (lawful.in_range s x f).1 (ap (λ z. cond z (t.at_most low (gain m t vs s x)) true) f ∙ below) in
    sym
    (at_feasible m lawful t vs ps low high s (ap (m.feasible s) entry ∙ own)
    ∙ ap (λ z. cond z (cond (t.at_most (gain m t vs s (named ps s)) high) None (Some (HighBroken s))) (Some (LowBroken s))) not-each)
