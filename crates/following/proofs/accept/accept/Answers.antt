use Rattle.following.proofs.Promising.{finding_promises}
use Rattle.following.proofs.accept.accept.Goals as goal

pub returns-clause-promise : goal.returns-clause-promise
returns-clause-promise g c =
    finding_promises g.T.Tariff.row (g.P.Plant.model c.args.plant.now) (g.met.P.Plant.lawful c.args.plant.now)
    (g.T.Tariff.scale c.args.tariff.now) (g.met.T.Tariff.lawful c.args.tariff.now) (g.met.T.Tariff.fits c.args.tariff.now)
    c.args.values.now c.args.policy.now c.args.claims.low c.args.claims.high c.check.result c.check.ensures.verdict c.check.ensures.exact.0
