use Rattle.std.proofs.Common.{◌++◌, ap, ◌∙◌}
use Rattle.plantext.specs.Lines.{plan_text}
use Rattle.reply.specs.Plans.{plan_of}
use Rattle.reply.proofs.Planned.{plan_for}
use Rattle.reply.proofs.planning.text_of_plan.Goals as goal

pub returns : goal.returns
returns g c =
    let row = g.T.Tariff.row in
    let p = plan_of row c.plan-planned.new.values c.plan-planned.new.policy c.in_ok-claims.claims in
    let text = c.in_ok-push_plan.ensures ∙ ap (λ s. s ++ plan_text p) c.new-text.ensures.items in
    plan_for _ row (g.P.Plant.model c.args.plant.now) (g.T.Tariff.scale c.args.tariff.now) c.args.sweeps.named.count _ _ c.plan-planned.result c.map_err.result c.in_ok-claims.claims _ c.in_ok-claims.was c.plan-planned.ensures.answer c.plan-planned.ensures.sound c.map_err.ensures.cases text
