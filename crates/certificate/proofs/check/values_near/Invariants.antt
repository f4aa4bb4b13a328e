use Rattle.std.proofs.Common.{◌≡◌, map, None}
use Rattle.certificate.specs.Refusals.{first_fault, value_fault}
use Rattle.certificate.proofs.check.values_near.Given as goal

abbrev pub invariant-loop-s : goal.invariant-loop-s
invariant-loop-s g l = first_fault (value_fault (g.T.Tariff.scale l.tariff) (map g.T.Tariff.row l.table.amounts.now)) l.s ≡ None
