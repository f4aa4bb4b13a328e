use Rattle.std.proofs.Common.{◌≡◌, length, arith}
use Rattle.plantext.proofs.RoundTrips.{gives_back}
use Rattle.plantext.proofs.reading.read_plan.Goals as goal

pub returns-clause-law : goal.returns-clause-law
returns-clause-law g c =
    let lawful = g.met.T.Tariff.lawful c.args.tariff.now in
    let long : length c.read_or_clear.new.values ≡ length c.args.values.now = omega arith in
    gives_back (g.T.Tariff.scale c.args.tariff.now).places lawful.some_places lawful.few_places g.T.Tariff.row c.args.text.now _ _ c.read_or_clear.result long c.read_or_clear.ensures
