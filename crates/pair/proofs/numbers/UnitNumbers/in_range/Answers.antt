use Rattle.std.proofs.Common.{arith, sym, ◌∙◌}
use Rattle.pair.specs.Units.{WholeRows, NoReturn}
use Rattle.pair.proofs.Rows.{rows_decided}
use Rattle.pair.proofs.numbers.UnitNumbers.in_range.Goals as goal

pub returns : goal.returns
returns c =
    let u = c.args.self.now in
    let test = c.rows_lawful.ensures in (
      λ e. let rows : WholeRows u × NoReturn u = (rows_decided u).0 (sym test ∙ e) in ((grind arith, grind arith, rows.0), rows.1, omega arith),
      λ l. test ∙ (rows_decided u).1 (l.0.2, l.1),
    )
