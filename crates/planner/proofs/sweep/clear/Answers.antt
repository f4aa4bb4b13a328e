use Rattle.std.proofs.Common.{◌≡◌, map, length, replicate, ap, ◌∙◌, rules}
use Rattle.interface.specs.Rows.{zeros}
use Rattle.planner.proofs.Fills.{filled}
use Rattle.planner.proofs.sweep.clear.Goals as goal

pub returns : goal.returns
returns g c =
    let row = g.T.Tariff.row in
    let places = (g.T.Tariff.scale c.args.tariff.now).places in
    let ran = c.fill_with.ensures.ran in
    let values : map row c.fill_with.new.self ≡ replicate (length c.fill_with.new.self) (zeros places) = filled row (zeros places) _ _ (λ x q s. search rules) c.fill_with.new.self ran.0 ran.1 in
    let long : length c.fill_with.new.self ≡ length c.args.table.now = search rules in
    values ∙ ap (λ n. replicate n (zeros places)) long
