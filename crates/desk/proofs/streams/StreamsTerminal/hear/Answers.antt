use Rattle.std.proofs.Common.{◌≡◌, ◌+◌, ap, length, rules, arith}
use Rattle.desk.specs.Streams.{heard_line}
use Rattle.desk.proofs.HistoryLaws.{entered}
use Rattle.desk.proofs.streams.StreamsTerminal.hear.Goals as goal

pub invariant_of-self-2 : goal.invariant_of-self-2
invariant_of-self-2 g c =
    let old = c.args.self.now in
    let more = ap length (entered heard_line old.heard.items c.and-self.result.items c.read_line-line.result c.and-self.ensures) in
    let counts : c.in-Some.lines ≡ old.lines + 1 = search rules in
    record { counted = omega (arith, old.counted) }

pub returns-clause-heard : goal.returns-clause-heard
returns-clause-heard g c = entered heard_line c.args.self.now.heard.items c.and-self.result.items c.read_line-line.result c.and-self.ensures
