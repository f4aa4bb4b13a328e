use Rattle.std.proofs.Common.{◌≡◌, rules, subst}
use Rattle.lines.specs.Line.{said, ReadsAs}
use Rattle.desk.specs.Asking.{asked_by}
use Rattle.desk.proofs.AskLaws.{asks_exactly}
use Rattle.desk.proofs.asking.asked.Goals as goal

pub returns-in-Pair-clause-law : goal.returns-in-Pair-clause-law
returns-in-Pair-clause-law c =
    let line = said c.next_line.result.line in
    let rest = c.next_line.new.self.rest.now in
    let law : ReadsAs c.args.text.now line rest = subst (λ text. ReadsAs text line rest) c.new.ensures.rest c.next_line.ensures.law in
    let is : c.ask.result ≡ asked_by c.args.due line = search rules in
    asks_exactly c.args.due c.args.text.now rest line c.ask.result law is
