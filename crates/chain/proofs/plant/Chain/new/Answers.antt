use Rattle.std.proofs.Common.{◌≡◌, subst, arith}
use Rattle.chain.specs.Feasibility.{renewable_by}
use Rattle.chain.proofs.plant.Chain.new.Goals as goal
use Rattle.chain.proofs.plant.Chain.new.Goals.{Else-not-renewable}
use Rattle.chain.specs.Chains.{Renewable, Unrenewable}
use Rattle.chain.specs.Made.{Made}
use Rattle.chain.specs.declared.numbers.ChainNumbers.{ChainNumbers}
use Rattle.std.proofs.lemmas.Bool.Decides.{when_true}

made : (c : goal.Else-not-renewable) → Made c.in_ok-ranged.ranged.numbers c.least_work_orders-least.result
made c =
    let n = c.in_ok-ranged.ranged.numbers in
    let table = c.least_work_orders-least.result in
    record {
      lawful = c.in_ok-ranged.ranged.lawful;
      few = omega (arith, c.state_count-states.ensures);
      renewable = when_true (Renewable n) (Unrenewable n) c.if-not-renewable.false c.renewable.ensures;
      least = rw c.arcs.ensures at c.least_work_orders-least.ensures.table;
    }

pub invariant_of-result : goal.invariant_of-result
invariant_of-result c =
    let n = c.in_ok-ranged.ranged.numbers in
    let table = c.least_work_orders-least.result in
    let m = made (goal.at.invariant_of-result c).Else-not-renewable in
    record {
      ranges = m.lawful;
      counted = c.state_count-states.ensures;
      few = omega arith;
      right = ∣ m.least ∣₁;
      renewable = renewable_by n table m.lawful.terms.0.1 m.least m.renewable;
    }

pub returns : goal.returns
returns c =
    let same : c.in_ok-ranged.ranged.numbers ≡ c.args.numbers = rw c.in_ok-ranged.ensures.ok_part at c.new.ensures in
    (same, subst (λ (n : ChainNumbers). Made n c.least_work_orders-least.result) same (made (goal.at.returns c).Else-not-renewable))
