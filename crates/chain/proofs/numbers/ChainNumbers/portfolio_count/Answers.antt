use Rattle.std.proofs.Common.{arith}
use Rattle.chain.specs.Feasibility.{few_portfolios}
use Rattle.chain.proofs.numbers.ChainNumbers.portfolio_count.Goals as goal
use Rattle.std.proofs.lemmas.Nat.{one_shl, pow_pos}

pub returns-clause-few : goal.returns-clause-few
returns-clause-few c =
    let n = c.args.self.now in
    let is = one_shl n.count 64 (omega arith) in
    (omega (arith, is, pow_pos n.count), omega (arith, is, few_portfolios n c.requires))
