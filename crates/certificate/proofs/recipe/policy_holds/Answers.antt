use Rattle.std.proofs.Common.{◌≡◌, cond, Some, None, sym, ap, ◌∙◌, rules}
use Rattle.interface.specs.Plants.{named}
use Rattle.certificate.specs.declared.refusal.Refusal.TheVariants.{Infeasible}
use Rattle.certificate.specs.Recipes.{policy_fault}
use Rattle.certificate.proofs.Faults.{fault_at}
use Rattle.certificate.proofs.recipe.policy_holds.Goals as goal

pub returns-then-not-feasible : goal.returns-then-not-feasible
returns-then-not-feasible g c =
    let m = g.P.Plant.model c.args.plant.now in
    let s = c.loop-state.state in
    let entry : named c.args.policy.now s ≡ c.from.result = search rules in
    sym (fault_at (policy_fault m c.args.policy.now) _ s (Infeasible s) c.loop-state-test.true c.loop-state.invariant
    (ap (λ x. cond (m.feasible s x) None (Some (Infeasible s))) entry ∙ ap (λ z. cond z None (Some (Infeasible s))) (sym c.feasible.ensures ∙ c.if-not-feasible.true)))
