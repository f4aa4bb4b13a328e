use Rattle.std.proofs.Common.{ℕ, ◌<◌, map}
use Rattle.planner.specs.Sweeps.{Fresh}
use Rattle.planner.proofs.sweep.sweep_into.Given as goal

abbrev pub invariant-loop-state : goal.invariant-loop-state
invariant-loop-state g l =
    (k : ℕ) → k < l.state → Fresh (g.P.Plant.model l.valued.plant.now) (g.T.Tariff.scale l.valued.tariff.now) (map g.T.Tariff.row l.valued.table.amounts.now) (map g.T.Tariff.row l.working) k
