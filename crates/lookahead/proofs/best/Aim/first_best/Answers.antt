use Rattle.std.proofs.Common.{◌≡◌, sym, subst, arith}
use Rattle.std.specs.Option.{option_map}
use Rattle.lookahead.specs.Best.{FirstBest, first_best}
use Rattle.lookahead.specs.Choices.{pick, good}
use Rattle.lookahead.proofs.Firsts.{aim_law}
use Rattle.lookahead.proofs.best.Aim.first_best.Goals as goal

pub returns-clause-law : goal.returns-clause-law
returns-clause-law g c = λ rows asked fits.
    let t = g.T.Tariff.scale c.args.tariff.now in
    let best = option_map (pick g.T.Tariff.row) c.loop-x.best in
    let end : c.loop-x.x ≡ c.args.count = omega (arith, c.loop-x-test.false, c.loop-x.auto.x-end) in
    let is = subst (λ n. best ≡ first_best (good c.args.self t) rows n) end (c.loop-x.invariant rows asked) in
    subst (FirstBest (good c.args.self t) rows c.args.count) (sym is) (aim_law c.args.self t (g.met.T.Tariff.lawful c.args.tariff.now) rows fits c.args.count)
