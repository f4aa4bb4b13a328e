use Rattle.std.proofs.Common.{◌^◌, ◌<◌, ◌≤◌, arith}
use Rattle.workorder.proofs.Portfolios.{part_within}
use Rattle.workorder.proofs.holds.Goals as goal

-- past the last digit of a number there is no part
pub returns-else-contains : goal.returns-else-contains
returns-else-contains c = (
  λ e. absurd (grind arith),
  λ h. absurd (let f : c.args.portfolio < 2 ^ 64 = omega arith in let p : c.args.part ≤ 64 = part_within 64 c.args.portfolio c.args.part f h in let q = h.0 in grind arith),
)
