use Rattle.std.proofs.lemmas.Result.{err_from_is_err_and}
use Rattle.chaintext.proofs.read.read_chain_into.Goals as goal

pub returns-in_err-chain-clause-law : goal.returns-in_err-chain-clause-law
returns-in_err-chain-clause-law c =
    let p = err_from_is_err_and c.from_residual.result c.from_residual.ensures.1 in
    rw (p.1, p.2) c.in_err-chain.ensures.law
