use Rattle.std.proofs.Common.{◌≡◌, map, drop}
use Rattle.interface.specs.Plants.{outcomes_of}
use Rattle.lookahead.specs.Steps.{add_outcomes}
use Rattle.lookahead.proofs.ahead.add_outcomes.Given as goal

abbrev pub invariant-loop-k : goal.invariant-loop-k
invariant-loop-k g l =
    let os = outcomes_of (g.P.Plant.model l.plant) l.state l.portfolio in
    add_outcomes (map g.T.Tariff.row l.table.amounts.now) (g.T.Tariff.row l.sum) (drop l.k os) ≡ add_outcomes (map g.T.Tariff.row l.table.amounts.now) (g.T.Tariff.row l.initial.sum) os
