use Rattle.chain.specs.LawsLemmas.{lives_in_range}
use Rattle.chain.specs.RoundTrips.{without_loss}
use Rattle.chain.proofs.plant.Chain.state_of.Goals as goal

pub returns-then-number-self-clause-kept : goal.returns-then-number-self-clause-kept
returns-then-number-self-clause-kept c = let p = c.args.self.now in without_loss p.numbers p.ranges.terms (lives_in_range p.numbers p.ranges)

pub returns-clause-kept : goal.returns-clause-kept
returns-clause-kept c = let p = c.args.self.now in without_loss p.numbers p.ranges.terms (lives_in_range p.numbers p.ranges)
