use Rattle.std.proofs.Common.{◌<◌, get_or, None, arith}
use Rattle.workorder.proofs.Portfolios.{without_less}
use Rattle.workorder.proofs.WorkOrders.{ends_least}
use Rattle.workorder.proofs.ending_with.Goals as goal

pub returns-clause-least : goal.returns-clause-least
returns-clause-least c =
    let x = c.args.portfolio in
    let y = c.without-done.result in
    let held = c.holds.ensures.0 c.if-not-holds.false in
    let less : y < x = omega (arith, without_less x c.args.part held, c.without-done.ensures) in
    ends_least c.args.arcs.now x c.args.part y (get_or c.args.table.now y None) c.cheapest_arc.result c.sum.result held c.without-done.ensures (c.requires.right.least y less) c.cheapest_arc.ensures.least c.sum.ensures
