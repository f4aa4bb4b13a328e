use Rattle.std.proofs.Common.{◌*◌, ◌≤◌, arith}
use Rattle.chain.specs.LawsLemmas.{order_few}
use Rattle.chain.proofs.plant.Chain.cents.Goals as goal
use Rattle.chain.proofs.plant.Chain.cents.Goals.{After-unwrap_or-order}
use Rattle.chain.specs.Limits.{most_charge}
use Rattle.chain.specs.Parts.{arcs_of}
use Rattle.workorder.proofs.WorkOrders.{table_held}
use Rattle.workorder.specs.Orders.{max_parts}

few : (c : goal.After-unwrap_or-order) → c.unwrap_or-order.result ≤ max_parts * most_charge
few c =
    let p = c.args.self.now in
    omega (arith, c.unwrap_or-order.ensures, order_few p.numbers p.least c.args.portfolio p.ranges.arcs (table_held (arcs_of p.numbers) p.least p.right) c.requires)

pub overflow_cast-order : goal.overflow_cast-order
overflow_cast-order c = omega (arith, few (goal.at.overflow_cast-order c).After-unwrap_or-order)

pub overflow_add-result : goal.overflow_add-result
overflow_add-result c = omega (arith, few (goal.at.overflow_add-result c).After-unwrap_or-order, c.args.self.now.ranges.terms.2.0)

pub overflow_add-result-2 : goal.overflow_add-result-2
overflow_add-result-2 c = omega (arith, few (goal.at.overflow_add-result-2 c).After-unwrap_or-order, c.args.self.now.ranges.terms.2.0, c.failure_charge.ensures.few)
