use Rattle.std.proofs.Common.{◌≡◌, ◌+◌, ◌*◌, ◌^◌, ap, rules, tests, arith}
use Rattle.chain.proofs.Folds.{fits, total}
use Rattle.chain.proofs.ranges.InRange.state_count.Goals as goal
use Rattle.chain.specs.LawsLemmas.{lives_in_range}
use Rattle.chain.specs.Numbering.{lives_few, states_fit}
use Rattle.chain.specs.Over.{product}
use Rattle.chain.specs.Parts.{life}
use Rattle.chain.specs.States.{all_states}
use Rattle.chain.specs.Sums.{product_more}

pub product-lives-requires-clause-fits : goal.product-lives-requires-clause-fits
product-lives-requires-clause-fits c =
    let n = c.args.self.now.numbers in
    let lawful = c.args.self.now.lawful in
    fits n (λ p. p.life) (λ a x. a * x) (product (life n)) (product_more (life n)) c.parts.result.now c.parts.ensures.value c.parts.ensures.long (cc) _ c.map.ensures.closure
    (λ x r q k. search (rules, tests)) (2 ^ 64) (λ k l. omega (arith, lives_few n k lawful.terms (lives_in_range n lawful) l))

all : (c : goal.After-product-lives) → (c.args.self.now.numbers.count + 1) * c.product-lives.result ≡ all_states c.args.self.now.numbers
all c =
    let n = c.args.self.now.numbers in
    ap (λ z. (n.count + 1) * z)
    (total n (λ p. p.life) (λ a x. a * x) (product (life n)) (product_more (life n)) c.parts.result.now c.parts.ensures.value c.parts.ensures.long (cc) _ c.map.ensures.closure
    (λ x r q k. search (rules, tests)) _ c.product-lives.ensures.ran)

pub overflow_mul-result : goal.overflow_mul-result
overflow_mul-result c = let n = c.args.self.now.numbers in let lawful = c.args.self.now.lawful in omega (arith, all c, states_fit n lawful.terms (lives_in_range n lawful))

pub returns : goal.returns
returns c = all c
