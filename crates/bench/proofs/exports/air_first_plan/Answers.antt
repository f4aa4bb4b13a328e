use Rattle.std.proofs.Common.{inr, refl}
use Rattle.std.proofs.lemmas.Result.{err_from_is_err_and}
use Rattle.bench.proofs.exports.air_first_plan.Goals as goal

pub returns-in_err-told_plan : goal.returns-in_err-told_plan
returns-in_err-told_plan c =
    let p = err_from_is_err_and c.from_residual-in_err-told_plan.result c.from_residual-in_err-told_plan.ensures.1 in
    rw (p.1, p.2) (inr (c.in_ok-chain.chain, c.in_ok-chain.ensures, (c.in_err-told_plan.field-0.0, c.in_err-told_plan.ensures, refl)))
