use Rattle.std.proofs.Common.{arith}
use Rattle.pair.specs.Units.{hundredths}
use Rattle.pair.proofs.Sums.{last_grade}
use Rattle.pair.proofs.units.Row.staying.Goals as goal

pub returns-clause-value : goal.returns-clause-value
returns-clause-value c =
    let row = c.args.self in
    let splits = last_grade (hundredths row.unit.now row.grade) row.unit.now.grades (omega (arith, row.lawful.0)) in
    let whole = row.lawful.2 row.grade row.working in
    omega (arith, splits, whole, c.chance.ensures.value)
