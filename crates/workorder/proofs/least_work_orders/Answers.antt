use Rattle.workorder.proofs.WorkOrders.{right_first, table_bounded, table_only}
use Rattle.workorder.proofs.least_work_orders.Goals as goal
use Rattle.workorder.specs.Orders.{LeastTable}
use Rattle.std.proofs.Common.{arith}

pub loop-portfolio-init : goal.loop-portfolio-init
loop-portfolio-init c = right_first c.args.arcs.now c.first_table-table.result c.first_table-table.ensures

pub returns : goal.returns
returns c =
    let arcs = c.args.arcs.now in
    let table = c.loop-portfolio.table in
    let right : LeastTable arcs table = record { long = c.loop-portfolio.invariant.long; least = λ x l. c.loop-portfolio.invariant.least x (omega arith) } in
    record { table = right; only = table_only arcs table right; bounded = table_bounded arcs table right }
