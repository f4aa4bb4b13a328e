use Rattle.std.proofs.Common.{map}
use Rattle.certificate.proofs.Passing.{SoFar}
use Rattle.certificate.proofs.check.state_holds.Given as goal

abbrev pub invariant-loop-x : goal.invariant-loop-x
invariant-loop-x g l =
    SoFar g.T.Tariff.row (g.P.Plant.model l.valued.plant.now) (g.T.Tariff.scale l.valued.tariff.now) (map g.T.Tariff.row l.valued.table.amounts.now) (g.T.Tariff.row l.claims.low) l.state l.portfolio l.x l.own
