use Rattle.std.proofs.Common.{map, subst, rules}
use Rattle.std.specs.Option.{option_map}
use Rattle.lookahead.specs.Best.{FirstBest, cheaper, where_feasible}
use Rattle.lookahead.specs.Choices.{pick}
use Rattle.lookahead.specs.Gains.{look_ahead}
use Rattle.lookahead.proofs.Bounds.{fits_map}
use Rattle.lookahead.proofs.Leasts.{ahead_fits, rows_fit}
use Rattle.lookahead.proofs.Optional.{answered}
use Rattle.lookahead.proofs.table.ValueTable.least_look_ahead.Goals as goal

pub returns-clause-least : goal.returns-clause-least
returns-clause-least g c = λ w.
    let m = g.P.Plant.model c.args.plant.now in
    let t = g.T.Tariff.scale c.args.tariff.now in
    let row = g.T.Tariff.row in
    let vs = map row c.args.self.now.amounts.now in
    let fit = fits_map row t.places (g.met.T.Tariff.fits c.args.tariff.now) c.args.self.now.amounts.now in
    let F = look_ahead m t vs in
    let s = c.args.state in
    let scaled = g.met.T.Tariff.lawful c.args.tariff.now in
    let fits = rows_fit m t scaled F (ahead_fits m (g.met.P.Plant.lawful c.args.plant.now) t scaled vs w.long fit) s in
    let law = c.first_best.ensures.law (where_feasible m F s) (λ x r l p. answered row r (m.feasible s x) (F s x) (search rules)) fits in
    subst (λ n. FirstBest (cheaper t) (where_feasible m F s) n (option_map (pick row) c.first_best.result)) c.portfolios.ensures law
