use Rattle.bookkeeping.specs.Standings.{book_of}
use Rattle.bookkeeping.proofs.Running.{Through}
use Rattle.bookkeeping.proofs.run.run.Given as goal

abbrev pub invariant-loop-at : goal.invariant-loop-at
invariant-loop-at g l = Through (g.P.Plant.model l.plant) l.state l.calls l.initial.answers l.answers (book_of l.book) l.at
