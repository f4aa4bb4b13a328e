use Rattle.std.proofs.Common.{map, rules}
use Rattle.bookkeeping.specs.Standings.{book_of}
use Rattle.certificate.specs.Certificates.{Sound}
use Rattle.following.proofs.Going.{all_or_not, whole_exactly, follows}
use Rattle.following.proofs.follow.follow.Goals as goal

pub returns-in-Ok-clause-all : goal.returns-in-Ok-clause-all
returns-in-Ok-clause-all g c =
    let w = c.walk-walked.result in
    all_or_not (g.P.Plant.model c.args.plant.now) c.args.policy.now c.args.book c.args.outcomes.now w.windows (book_of w.book) w.refused c.walk-walked.ensures

pub returns-in-Ok-clause-whole : goal.returns-in-Ok-clause-whole
returns-in-Ok-clause-whole g c =
    let w = c.walk-walked.result in
    let m = g.P.Plant.model c.args.plant.now in
    let sound : Sound m (g.T.Tariff.scale c.args.tariff.now) (map g.T.Tariff.row c.args.values.now) c.args.policy.now (g.T.Tariff.row c.args.claims.low) (g.T.Tariff.row c.args.claims.high) = search rules in
    λ inside few.
    whole_exactly m c.args.policy.now c.args.book c.args.outcomes.now (g.met.P.Plant.lawful c.args.plant.now) sound.policy sound.feasible inside few w.windows (book_of w.book) w.refused c.walk-walked.ensures

pub returns-in-Ok-clause-past : goal.returns-in-Ok-clause-past
returns-in-Ok-clause-past g c =
    let w = c.walk-walked.result in
    follows (g.P.Plant.model c.args.plant.now) c.args.policy.now c.args.book c.args.outcomes.now (g.met.P.Plant.lawful c.args.plant.now) w.windows (book_of w.book) w.refused c.walk-walked.ensures
