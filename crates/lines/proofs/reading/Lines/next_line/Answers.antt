use Rattle.std.proofs.Common.{◌≡◌, length, rules, sym, ap, ◌∙◌, arith}
use Rattle.lines.specs.Line.{said, rest_at}
use Rattle.lines.proofs.LineLaws.{rest_shorter, found_law}
use Rattle.lines.proofs.reading.Lines.next_line.Goals as goal

pub invariant_of-self : goal.invariant_of-self
invariant_of-self c =
    let less = rest_shorter c.args.self.now.rest.now _ _ (sym c.first_line.ensures.line ∙ ap said c.in-Pair.is) in
    record { few = omega (arith, c.args.self.now.few, ap length c.first_line.ensures.rest) }

pub returns-clause-law : goal.returns-clause-law
returns-clause-law c =
    let left : c.match-line.self.rest.now ≡ rest_at c.args.self.now.rest.now = search rules in
    found_law c.args.self.now.rest.now _ _ c.first_line.ensures.line left
