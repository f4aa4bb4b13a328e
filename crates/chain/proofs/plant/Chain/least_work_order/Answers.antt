use Rattle.std.proofs.Common.{◌<◌, arith}
use Rattle.chain.proofs.plant.Chain.least_work_order.Goals as goal
use Rattle.chain.specs.Parts.{arcs_of}
use Rattle.workorder.proofs.WorkOrders.{table_held}
use Rattle.workorder.specs.Orders.{portfolios}

pub returns : goal.returns
returns c =
    let p = c.args.self.now in
    let inside : c.args.portfolio < portfolios = omega (arith, c.portfolio_count.ensures.few) in
    (λ _. (table_held (arcs_of p.numbers) p.least p.right).least c.args.portfolio inside, λ past. absurd (omega (arith, c.portfolio_count.ensures.value)))
