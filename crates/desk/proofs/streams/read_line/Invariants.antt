use Rattle.desk.specs.Streams.{ReadsSoFar}
use Rattle.desk.proofs.streams.read_line.Given as goal

abbrev pub invariant-loop : goal.invariant-loop
invariant-loop g l = ReadsSoFar (g.R.Read.remaining l.initial.reader) (g.R.Read.remaining l.reader) l.line.items
