use Rattle.std.proofs.Common.{◌≡◌, ◌+◌, map, drop, Some, None, sym, ap, ◌∙◌}
use Rattle.std.specs.Option.{option_map}
use Rattle.interface.specs.Plants.{outcomes_of}
use Rattle.lookahead.specs.Steps.{then, add_outcome, add_outcomes}
use Rattle.lookahead.proofs.Optional.{drop_nth}
use Rattle.lookahead.proofs.ahead.add_outcomes.Goals as goal

pub returns-in_err-sum : goal.returns-in_err-sum
returns-in_err-sum g c =
    let row = g.T.Tariff.row in
    let vs = map row c.args.table.now.amounts.now in
    let os = outcomes_of (g.P.Plant.model c.args.plant.now) c.args.state c.args.portfolio in
    let split = drop_nth os c.loop-k.k c.in_ok-o.o (sym c.outcome.ensures ∙ c.in_ok-o.was) in
    let none : add_outcome vs (row c.loop-k.sum) c.in_ok-o.o ≡ None = sym c.add_outcome.ensures ∙ ap (option_map row) c.in_err-sum.was in
    ap (option_map row) c.from_residual-in_err-sum.ensures
    ∙ sym (sym c.loop-k.invariant ∙ ap (add_outcomes vs (row c.loop-k.sum)) split ∙ ap (λ z. then z (λ w. add_outcomes vs w (drop (c.loop-k.k + 1) os))) none)

pub loop-k-preserved : goal.loop-k-preserved
loop-k-preserved g c =
    let row = g.T.Tariff.row in
    let vs = map row c.args.table.now.amounts.now in
    let os = outcomes_of (g.P.Plant.model c.args.plant.now) c.args.state c.args.portfolio in
    let split = drop_nth os c.loop-k.k c.in_ok-o.o (sym c.outcome.ensures ∙ c.in_ok-o.was) in
    let some : add_outcome vs (row c.loop-k.sum) c.in_ok-o.o ≡ Some (row c.in_ok-sum.sum) = sym c.add_outcome.ensures ∙ ap (option_map row) c.in_ok-sum.was in
    sym (ap (λ z. then z (λ w. add_outcomes vs w (drop (c.loop-k.k + 1) os))) some) ∙ sym (ap (add_outcomes vs (row c.loop-k.sum)) split) ∙ c.loop-k.invariant
