use Rattle.std.proofs.Common.{◌≡◌, map, None}
use Rattle.certificate.specs.Refusals.{first_fault, state_fault}
use Rattle.certificate.proofs.check.states_hold.Given as goal

abbrev pub invariant-loop-state : goal.invariant-loop-state
invariant-loop-state g l =
    first_fault (state_fault (g.P.Plant.model l.valued.plant.now) (g.T.Tariff.scale l.valued.tariff.now) (map g.T.Tariff.row l.valued.table.amounts.now) l.policy (g.T.Tariff.row l.claims.low) (g.T.Tariff.row l.claims.high)) l.state ≡ None
