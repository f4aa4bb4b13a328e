use Rattle.std.proofs.Common.{◌^◌, ◌<◌, arith}
use Rattle.workorder.proofs.Portfolios.{part_counts}
use Rattle.workorder.proofs.without.Goals as goal

pub overflow_shl-result : goal.overflow_shl-result
overflow_shl-result c = let f : c.args.portfolio < 2 ^ 64 = omega arith in (part_counts 64 c.args.portfolio c.args.part f c.requires).0
