use Rattle.std.proofs.Common.{map}
use Rattle.planner.proofs.Sweeping.{some_of}
use Rattle.planner.proofs.sweep.least_ahead.Goals as goal

pub unwrap-requires : goal.unwrap-requires
unwrap-requires g c =
    let m = g.P.Plant.model c.args.valued.now.plant.now in
    some_of g.T.Tariff.row m (g.met.P.Plant.lawful c.args.valued.now.plant.now) (g.T.Tariff.scale c.args.valued.now.tariff.now) (map g.T.Tariff.row c.args.valued.now.table.amounts.now) c.args.state c.requires c.least_look_ahead.result c.least_look_ahead.ensures.least
