use Rattle.std.proofs.Common.{◌≡◌, Err, map, sym, ap, ◌∙◌, rules}
use Rattle.std.specs.Result.{result_err}
use Rattle.interface.specs.Plants.{named}
use Rattle.certificate.specs.Refusals.{state_fault}
use Rattle.certificate.proofs.Faults.{fault_at}
use Rattle.certificate.proofs.check.states_hold.Goals as goal

pub returns-in_err-state_holds : goal.returns-in_err-state_holds
returns-in_err-state_holds g c =
    let f = state_fault (g.P.Plant.model c.args.valued.now.plant.now) (g.T.Tariff.scale c.args.valued.now.tariff.now) (map g.T.Tariff.row c.args.valued.now.table.amounts.now) c.args.policy.now (g.T.Tariff.row c.args.claims.now.low) (g.T.Tariff.row c.args.claims.now.high) in
    let s = c.loop-state.state in
    let e = c.in_err-state_holds.field-0.0 in
    let out : c.from_residual.result ≡ Err e = search rules in
    let entry : named c.args.policy.now s ≡ c.from.result = search rules in
    ap result_err out ∙ sym (fault_at f _ s e c.loop-state-test.true c.loop-state.invariant (sym (c.state_holds.ensures c.args.policy.now entry) ∙ ap result_err c.in_err-state_holds.was))
