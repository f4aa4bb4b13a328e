use Rattle.std.proofs.Common.{arith}
use Rattle.pair.specs.Units.{hundredths}
use Rattle.pair.proofs.Sums.{part_of_whole}
use Rattle.pair.proofs.units.Row.chance.Goals as goal

pub returns-clause-small : goal.returns-clause-small
returns-clause-small c =
    let row = c.args.self in
    let part = part_of_whole (hundredths row.unit.now row.grade) row.unit.now.grades c.args.next c.requires.0 c.requires.1 in
    let whole = row.lawful.2 row.grade row.working in
    omega (arith, part, whole)
