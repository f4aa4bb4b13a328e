use Rattle.std.proofs.Common.{◌+◌, map, sym, subst}
use Rattle.lookahead.specs.Gains.{Within}
use Rattle.planner.specs.Sweeps.{Sweep, Swept, start}
use Rattle.planner.proofs.Sweeping.{swept_within, swept_more}
use Rattle.planner.proofs.sweep.sweep_all.Goals as goal

pub loop-done-init : goal.loop-done-init
loop-done-init g c = subst (Swept (g.P.Plant.model c.args.plant.now) (g.T.Tariff.scale c.args.tariff.now) 0) (sym c.requires.zero) start

pub invariant_of-valued : goal.invariant_of-valued
invariant_of-valued g c =
    let m = g.P.Plant.model c.args.plant.now in
    let t = g.T.Tariff.scale c.args.tariff.now in
    record { within = subst (λ xs. Within m (map g.T.Tariff.row xs)) (sym c.new-table.ensures) (swept_within m t c.loop-done.invariant) }

pub loop-done-preserved : goal.loop-done-preserved
loop-done-preserved g c =
    let row = g.T.Tariff.row in
    let m = g.P.Plant.model c.args.plant.now in
    let t = g.T.Tariff.scale c.args.tariff.now in
    let ws = map row c.sweep_into.new.working in
    let done = subst (λ xs. Sweep m t (map row xs) ws) c.new-table.ensures c.in_ok-sweep_into.ensures.swept in
    subst (λ vs. Swept m t (c.loop-done._done + 1) (map row vs)) (sym c.copy_from_slice.ensures.after)
    (swept_more m t c.loop-done._done (map row c.loop-done.values) ws c.loop-done.invariant done c.in_ok-sweep_into.ensures.near)
