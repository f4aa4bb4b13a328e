use Rattle.std.proofs.Common.{◌≡◌, ◌+◌, ◌-◌, ◌*◌, ◌<◌, ◌≤◌, length, get_or, ap, ◌∙◌, arith, rules, length-append}
use Rattle.chain.proofs.Counting.{Counted, all_counted, count_more, not_counted, number_fits, total_fits, width_fits}
use Rattle.chain.proofs.Places.{life_at}
use Rattle.chain.proofs.plant.Chain.state_number.Goals as goal
use Rattle.chain.proofs.plant.Chain.state_number.Goals.{In-Some, Else-not-contains}
use Rattle.chain.specs.LawsLemmas.{lives_in_range}
use Rattle.chain.specs.Parts.{blank, life}
use Rattle.chain.specs.RoundTrips.{without_loss}
use Rattle.chain.specs.declared.numbers.Part.{Part}
use Rattle.workorder.specs.Orders.{max_parts}
use Rattle.std.proofs.lemmas.Slice.Zip.{zip_turn, zip_end}

-- the part and the age of this turn
turned : (c : goal.In-Some) → let i = length c.loop-part.yielded in (i < c.args.self.now.numbers.count) × (c.in-Some.part.now.life ≡ life c.args.self.now.numbers (i + 1)) × (c.in-Some.field-0-1.now ≡ get_or c.args.state.now.ages i 0)
turned c =
    let n = c.args.self.now.numbers in
    let here = zip_turn c.parts.result.now c.args.state.now.ages c.loop-part.yielded c.into_iter-part-iterator.result c.loop-part.part-iterator c.next.new.self _ (search rules) (search rules) c.loop-part.yielded_by _ c.in-Some.is c.next.ensures.steps in
    (omega (arith, here.0, c.parts.ensures.long), ap (λ (p : Part). p.life) (here.2 blank) ∙ life_at n c.parts.result.now _ c.parts.ensures.value c.parts.ensures.long here.0, here.3 0)

pub returns-then-state-self-clause-kept : goal.returns-then-state-self-clause-kept
returns-then-state-self-clause-kept c = let p = c.args.self.now in without_loss p.numbers p.ranges.terms (lives_in_range p.numbers p.ranges)

pub returns-then-not-contains : goal.returns-then-not-contains
returns-then-not-contains c =
    let p = c.args.self.now in
    let here = turned (goal.at.returns-then-not-contains c).In-Some in
    record {
      value = not_counted p.numbers c.args.state.now (length c.loop-part.yielded) _ c.in-Some.field-0-1.now here.0 here.1 here.2 (λ some most. grind arith);
      kept = without_loss p.numbers p.ranges.terms (lives_in_range p.numbers p.ranges);
    }

-- with the part of this turn
turn : (c : goal.Else-not-contains) → let i = length c.loop-part.yielded + 1 in Counted c.args.self.now.numbers c.args.state.now i (c.loop-part.total + (c.in-Some.field-0-1.now - 1) * c.loop-part.width) (c.loop-part.width * c.in-Some.part.now.life) × (i ≤ c.args.self.now.numbers.count)
turn c =
    let here = turned (goal.at.Else-not-contains c).In-Some in
    (count_more c.args.self.now.numbers c.args.state.now (length c.loop-part.yielded) c.loop-part.total c.loop-part.width _ _ c.loop-part.invariant here.1 here.2 (grind arith) (grind arith), omega (arith, here.0))

pub overflow_mul-total : goal.overflow_mul-total
overflow_mul-total c =
    let p = c.args.self.now in
    let now = turn (goal.at.overflow_mul-total c).Else-not-contains in
    omega (arith, total_fits p.numbers c.args.state.now p.ranges _ _ _ now.0 now.1)

pub overflow_add-total : goal.overflow_add-total
overflow_add-total c =
    let p = c.args.self.now in
    let now = turn (goal.at.overflow_add-total c).Else-not-contains in
    omega (arith, total_fits p.numbers c.args.state.now p.ranges _ _ _ now.0 now.1)

pub overflow_mul-width : goal.overflow_mul-width
overflow_mul-width c =
    let p = c.args.self.now in
    let now = turn (goal.at.overflow_mul-width c).Else-not-contains in
    omega (arith, width_fits p.numbers c.args.state.now p.ranges _ _ _ now.0 now.1)

pub loop-part-preserved : goal.loop-part-preserved
loop-part-preserved c = rw length-append (turn (goal.at.loop-part-preserved c).Else-not-contains).0

-- with all parts
all : (c : goal.In-None) → Counted c.args.self.now.numbers c.args.state.now c.args.self.now.numbers.count c.loop-part.total c.loop-part.width
all c =
    let ended = zip_end c.parts.result.now c.args.state.now.ages c.loop-part.yielded c.into_iter-part-iterator.result c.loop-part.part-iterator c.next.new.self _ (search rules) (search rules) c.loop-part.yielded_by c.in-None.is c.next.ensures.steps in
    let long : length c.args.state.now.ages ≡ max_parts = search rules in
    let end : length c.loop-part.yielded ≡ c.args.self.now.numbers.count = omega (arith, ended, long, c.parts.ensures.long, c.args.self.now.ranges.terms.0.1) in
    rw end at c.loop-part.invariant

pub overflow_mul-result : goal.overflow_mul-result
overflow_mul-result c = let p = c.args.self.now in omega (arith, number_fits p.numbers c.args.state.now p.ranges _ _ (all c) c.if-state-self.false)

pub overflow_add-result-2 : goal.overflow_add-result-2
overflow_add-result-2 c = let p = c.args.self.now in omega (arith, number_fits p.numbers c.args.state.now p.ranges _ _ (all c) c.if-state-self.false)

pub returns : goal.returns
returns c =
    let p = c.args.self.now in
    record {
      value = all_counted p.numbers c.args.state.now c.loop-part.total c.loop-part.width (all c) c.if-state-self.false;
      kept = without_loss p.numbers p.ranges.terms (lives_in_range p.numbers p.ranges);
    }
