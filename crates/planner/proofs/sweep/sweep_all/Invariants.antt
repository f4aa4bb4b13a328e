use Rattle.std.proofs.Common.{map}
use Rattle.planner.specs.Sweeps.{Swept}
use Rattle.planner.proofs.sweep.sweep_all.Given as goal

abbrev pub invariant-loop-done : goal.invariant-loop-done
invariant-loop-done g l = Swept (g.P.Plant.model l.plant) (g.T.Tariff.scale l.tariff) l._done (map g.T.Tariff.row l.values)
