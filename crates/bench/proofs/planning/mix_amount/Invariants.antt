use Rattle.std.proofs.Common.{◌≡◌}
use Rattle.bench.specs.Planning.{with_row}
use Rattle.bench.proofs.planning.mix_amount.Given as goal

abbrev pub invariant-loop-i : goal.invariant-loop-i
invariant-loop-i g l = l.digest ≡ with_row l.i l.before (g.T.Tariff.row l.amount)
