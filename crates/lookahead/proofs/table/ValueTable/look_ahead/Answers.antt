use Rattle.std.proofs.Common.{map, ◌∙◌}
use Rattle.lookahead.specs.Gains.{look_ahead}
use Rattle.lookahead.proofs.Bounds.{ahead_answer, fits_map}
use Rattle.lookahead.proofs.Optional.{answers}
use Rattle.lookahead.proofs.table.ValueTable.look_ahead.Goals as goal

pub returns-clause-within : goal.returns-clause-within
returns-clause-within g c = λ w.
    let m = g.P.Plant.model c.args.plant.now in
    let t = g.T.Tariff.scale c.args.tariff.now in
    let xs = c.args.self.now.amounts.now in
    let vs = map g.T.Tariff.row xs in
    let fit = fits_map g.T.Tariff.row t.places (g.met.T.Tariff.fits c.args.tariff.now) xs in
    answers g.T.Tariff.row c.look_ahead.result (m.feasible c.args.state c.args.portfolio) (look_ahead m t vs c.args.state c.args.portfolio)
    (c.look_ahead.ensures ∙ ahead_answer m (g.met.P.Plant.lawful c.args.plant.now) t (g.met.T.Tariff.lawful c.args.tariff.now) vs w fit c.args.state c.args.portfolio)
