use Rattle.std.proofs.Common.{subst}
use Rattle.pairtext.specs.Writing.{ReadsPair}
use Rattle.pairtext.proofs.text.read_pair_into.Goals as goal

pub returns-in_err-read-clause-law : goal.returns-in_err-read-clause-law
returns-in_err-read-clause-law c = subst (λ a. ReadsPair c.args.lines.now.rest.now a c.read_pair.new.lines.rest.now) c.read_pair.ensures.answer c.read_pair.ensures.law

pub returns-clause-law : goal.returns-clause-law
returns-clause-law c = subst (λ a. ReadsPair c.args.lines.now.rest.now a c.read_pair.new.lines.rest.now) c.read_pair.ensures.answer c.read_pair.ensures.law
