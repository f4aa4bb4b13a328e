use Rattle.std.proofs.Common.{Ok, Err, subst, inl, inr, refl, rules}
use Rattle.std.proofs.lemmas.Result.{err_from_is_err_and}
use Rattle.tariffs.specs.Priced.{priced_scale}
use Rattle.bench.specs.Planning.{PlanMade, model_of, cost_row}
use Rattle.bench.proofs.exports.priced_plan.Goals as goal

pub returns-in_err-tariff : goal.returns-in_err-tariff
returns-in_err-tariff c =
    let p = err_from_is_err_and c.from_residual-in_err-tariff.result c.from_residual-in_err-tariff.ensures.1 in
    rw (p.1, p.2) (inr (c.in_ok-chain.chain, c.in_ok-chain.ensures, inl (c.in_err-tariff.ensures, search rules)))

pub returns-in_err-told_plan : goal.returns-in_err-told_plan
returns-in_err-told_plan c =
    let p = err_from_is_err_and c.from_residual-in_err-told_plan.result c.from_residual-in_err-told_plan.ensures.1 in
    let rated = c.in_ok-tariff.ensures in
    let refusal = c.in_err-told_plan.field-0.0 in
    let made = subst (λ rate. PlanMade cost_row (model_of c.in_ok-chain.chain) (priced_scale rate) c.args.sweeps (Err refusal)) rated.0 c.in_err-told_plan.ensures in
    rw (p.1, p.2) (inr (c.in_ok-chain.chain, c.in_ok-chain.ensures, inr (rated.1, (refusal, made, refl))))

pub returns : goal.returns
returns c =
    let rated = c.in_ok-tariff.ensures in
    let made = subst (λ rate. PlanMade cost_row (model_of c.in_ok-chain.chain) (priced_scale rate) c.args.sweeps (Ok c.in_ok-told_plan.field-0)) rated.0 c.in_ok-told_plan.ensures in
    (c.in_ok-chain.chain, c.in_ok-chain.ensures, rated.1, made)
