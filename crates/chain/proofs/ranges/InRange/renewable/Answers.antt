use Rattle.chain.specs.Feasibility.{renewable_when_new}
use Rattle.chain.proofs.ranges.InRange.renewable.Goals as goal
use Rattle.chain.specs.Chains.{hazards_at, survives}
use Rattle.std.proofs.Common.{refl}

pub returns-then-is_some : goal.returns-then-is_some
returns-then-is_some c =
    (renewable_when_new c.args.self.now.numbers c.args.least.now c.args.self.now.lawful.terms.0.1 c.requires
    c.portfolio_count-everything.result c.hazards_when_new.result c.is_some.result c.survives.result
    c.portfolio_count-everything.ensures.value c.is_some.ensures c.hazards_when_new.ensures c.survives.ensures).0 c.if-is_some.true

pub returns-else-is_some : goal.returns-else-is_some
returns-else-is_some c =
    let n = c.args.self.now.numbers in
    let h = hazards_at n (λ _. 0) in
    (renewable_when_new n c.args.least.now c.args.self.now.lawful.terms.0.1 c.requires
    c.portfolio_count-everything.result h c.is_some.result (survives n h)
    c.portfolio_count-everything.ensures.value c.is_some.ensures refl refl).1 c.if-is_some.false
