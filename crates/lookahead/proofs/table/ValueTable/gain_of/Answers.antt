use Rattle.std.proofs.Common.{map, ◌∙◌}
use Rattle.lookahead.specs.Gains.{gain}
use Rattle.lookahead.proofs.Bounds.{billed_gain, fits_map}
use Rattle.lookahead.proofs.Optional.{some_from}
use Rattle.lookahead.proofs.table.ValueTable.gain_of.Goals as goal

pub returns-clause-within : goal.returns-clause-within
returns-clause-within g c = λ w billed.
    let m = g.P.Plant.model c.args.plant.now in
    let t = g.T.Tariff.scale c.args.tariff.now in
    let xs = c.args.self.now.amounts.now in
    let vs = map g.T.Tariff.row xs in
    let fit = fits_map g.T.Tariff.row t.places (g.met.T.Tariff.fits c.args.tariff.now) xs in
    some_from g.T.Tariff.row c.gain_of.result (gain m t vs c.args.state c.args.portfolio)
    (c.gain_of.ensures ∙ billed_gain m (g.met.P.Plant.lawful c.args.plant.now) t (g.met.T.Tariff.lawful c.args.tariff.now) vs w fit c.args.state c.args.portfolio c.args.bill billed)
