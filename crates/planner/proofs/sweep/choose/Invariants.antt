use Rattle.std.proofs.Common.{ℕ, ◌<◌, map}
use Rattle.interface.specs.Rows.{Row}
use Rattle.interface.specs.Plants.{named}
use Rattle.planner.specs.Sweeps.{LeastAhead}
use Rattle.planner.proofs.sweep.choose.Given as goal

abbrev pub invariant-loop-state : goal.invariant-loop-state
invariant-loop-state g l =
    (k : ℕ) → k < l.state → (u : Row) × LeastAhead (g.P.Plant.model l.valued.plant.now) (g.T.Tariff.scale l.valued.tariff.now) (map g.T.Tariff.row l.valued.table.amounts.now) k (named l.policy k) u
