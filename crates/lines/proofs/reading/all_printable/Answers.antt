use Rattle.std.proofs.Common.{rules, ◌∙◌}
use borrow.Author.Tests.{tests}
use Rattle.std.proofs.lemmas.Iterator.{YieldsList-from_slice}
use Rattle.std.proofs.lemmas.Iterator.Search.{all_from_yields_List}
use Rattle.lines.specs.Line.{printable}
use Rattle.lines.proofs.LineLaws.{printable_all}
use Rattle.lines.proofs.reading.all_printable.Goals as goal

pub returns : goal.returns
returns c =
    all_from_yields_List printable _ _ c.all.result c.all.ensures.ran (YieldsList-from_slice c.args.bytes.now c.iter.ensures.rest) (λ x b q k. search (rules, tests))
    ∙ printable_all c.args.bytes.now
