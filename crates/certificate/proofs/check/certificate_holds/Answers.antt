use Rattle.std.proofs.Common.{sym, ap, ◌∙◌}
use Rattle.std.specs.Result.{result_err}
use Rattle.certificate.proofs.Refused.{within_from}
use Rattle.certificate.proofs.check.certificate_holds.Goals as goal

pub invariant_of-valued : goal.invariant_of-valued
invariant_of-valued g c =
    let same = sym c.level.ensures ∙ c.if-not-level.false in
    record {
      within = within_from g.T.Tariff.row (g.P.Plant.model c.args.plant.now) c.args.table.now.amounts.now c.args.policy.now same (g.T.Tariff.scale c.args.tariff.now)
          (sym c.values_near.ensures ∙ ap result_err c.in_ok-values_near.was);
    }
