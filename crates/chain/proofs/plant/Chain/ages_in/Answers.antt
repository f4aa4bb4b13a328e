use Rattle.chain.proofs.Places.{life_at}
use Rattle.chain.specs.Numbering.{age_step, rest_step, table_filled}
use Rattle.chain.specs.Sums.{entries_more}
use Rattle.chain.proofs.plant.Chain.ages_in.Goals as goal
use Rattle.chain.specs.States.{age_in}
use Rattle.std.proofs.Common.{◌≡◌, ◌≢◌, arith, length-set, get_or-set_other}

pub loop-i-preserved : goal.loop-i-preserved
loop-i-preserved c =
    let n = c.args.self.now.numbers in
    let s = c.args.state in
    let i = c.loop-i.i in
    let long = life_at n c.parts-part-items.result.now i c.parts-part-items.ensures.value c.parts-part-items.ensures.long c.loop-i-test.true in
    record {
      left = rest_step n s i c.loop-i.rest _ c.loop-i.invariant.left long;
      ages = entries_more (age_in n s) i _ c.loop-i.ages (omega (arith, c.parts-part-items.ensures.long, c.args.self.now.ranges.terms.0.1)) (age_step n s i c.loop-i.rest _ c.loop-i.invariant.left long) c.loop-i.invariant.ages;
      beyond = λ k beyond. let other : k ≢ i = omega arith in rw get_or-set_other (c.loop-i.invariant.beyond k (omega arith));
      long = rw length-set c.loop-i.invariant.long;
    }

pub returns : goal.returns
returns c =
    let n = c.args.self.now.numbers in
    let end : c.loop-i.i ≡ n.count = omega (arith, c.parts-part-items.ensures.long) in
    table_filled n (age_in n c.args.state) c.loop-i.ages c.loop-i.invariant.long (rw end at c.loop-i.invariant.ages) (λ k beyond. c.loop-i.invariant.beyond k (omega arith))
