use Rattle.std.proofs.Common.{ℕ, ◌+◌, ◌*◌, ◌^◌, ◌≤◌, get_or, rules, tests, arith}
use Rattle.chain.proofs.Folds.{fits, over_at_most, total}
use Rattle.chain.proofs.ranges.InRange.hazards_when_new.Goals as goal
use Rattle.chain.specs.Limits.{most_hazard}
use Rattle.chain.specs.Over.{over_parts}
use Rattle.chain.specs.Parts.{LawfulNumbers, hazard}
use Rattle.chain.specs.Sums.{over_more}
use Rattle.chain.specs.declared.numbers.ChainNumbers.{ChainNumbers}

few : (n : ChainNumbers) → LawfulNumbers n → (k : ℕ) → k ≤ n.count → over_parts (λ i. hazard n i 0) k ≤ most_hazard * k
few n lawful k inside = over_at_most (λ i. hazard n i 0) most_hazard k (λ i some most. let part = lawful.parts i some (omega arith) in part.2 0 part.0.0)

pub sum-requires-clause-fits : goal.sum-requires-clause-fits
sum-requires-clause-fits c =
    let n = c.args.self.now.numbers in
    let lawful = c.args.self.now.lawful in
    fits n (λ p. get_or p.hazards 0 0) (λ a x. a + x) (over_parts (λ i. hazard n i 0)) (over_more (λ i. hazard n i 0)) c.parts.result.now c.parts.ensures.value c.parts.ensures.long (cc) _ c.map.ensures.closure
    (λ x r q k. search (rules, tests)) (2 ^ 32) (λ k l. omega (arith, few n lawful k l, lawful.terms.0.1))

pub returns : goal.returns
returns c =
    let n = c.args.self.now.numbers in
    total n (λ p. get_or p.hazards 0 0) (λ a x. a + x) (over_parts (λ i. hazard n i 0)) (over_more (λ i. hazard n i 0)) c.parts.result.now c.parts.ensures.value c.parts.ensures.long (cc) _ c.map.ensures.closure
    (λ x r q k. search (rules, tests)) _ c.sum.ensures.ran
