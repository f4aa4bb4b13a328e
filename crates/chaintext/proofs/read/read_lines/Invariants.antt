use Rattle.std.proofs.Common.{◌≡◌, length}
use Rattle.chaintext.specs.declared.reader.Stage.TheVariants as stage
use Rattle.chaintext.specs.Reads.{fresh}
use Rattle.chaintext.specs.Counted.{CountedEnding, CountedReads}
use Rattle.chaintext.proofs.read.read_lines.Given as goal

abbrev pub invariant-loop-rule : goal.invariant-loop-rule
invariant-loop-rule l =
    (l.reader.stage ≡ stage.Done → ⊥)
    × ((o : CountedEnding) → CountedReads l.reader l.lines.rest.now l.lines.place o → CountedReads fresh l.initial.lines.rest.now l.initial.lines.place o)

abbrev pub decreases-loop-rule : goal.decreases-loop-rule
decreases-loop-rule l = length l.lines.rest.now
