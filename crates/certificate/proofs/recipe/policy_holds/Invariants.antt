use Rattle.std.proofs.Common.{◌≡◌, None}
use Rattle.certificate.specs.Recipes.{policy_fault}
use Rattle.certificate.specs.Refusals.{first_fault}
use Rattle.certificate.proofs.recipe.policy_holds.Given as goal

abbrev pub invariant-loop-state : goal.invariant-loop-state
invariant-loop-state g l = first_fault (policy_fault (g.P.Plant.model l.plant) l.policy) l.state ≡ None
