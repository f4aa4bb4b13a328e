use Rattle.std.proofs.Common.{◌<◌, ◌≢◌, map, length, set, sym, subst, arith, below_more}
use Rattle.std.proofs.lemmas.List.{get_or-set_same, get_or-set_other}
use Rattle.interface.specs.Rows.{Row}
use Rattle.interface.specs.Plants.{named}
use Rattle.planner.specs.Sweeps.{LeastAhead}
use Rattle.planner.proofs.sweep.choose.Goals as goal

pub loop-state-preserved : goal.loop-state-preserved
loop-state-preserved g c =
    let row = g.T.Tariff.row in
    let m = g.P.Plant.model c.args.valued.now.plant.now in
    let t = g.T.Tariff.scale c.args.valued.now.tariff.now in
    let vs = map row c.args.valued.now.table.amounts.now in
    let ps = c.loop-state.policy in
    let s = c.loop-state.state in
    let x = c.least_ahead.result.at in
    let inside : s < length ps = omega arith in
    below_more (λ k. (u : Row) × LeastAhead m t vs k (named (set ps s x) k) u) s
    (λ k l.
    let other : k ≢ s = omega arith in
    let before = c.loop-state.invariant k l in
    (before.0, subst (λ y. LeastAhead m t vs k y before.0) (sym (get_or-set_other ps s k x 0 other)) before.1))
    (row c.least_ahead.result.amount, subst (λ y. LeastAhead m t vs s y (row c.least_ahead.result.amount)) (sym (get_or-set_same ps s x 0 inside)) c.least_ahead.ensures)
