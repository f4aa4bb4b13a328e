use Rattle.std.proofs.Common.{List}
use Rattle.bookkeeping.specs.Standings.{book_of}
use Rattle.service.specs.Services.{InService, Keeps, Turn}
use Rattle.service.proofs.serve.attend.Given as goal

abbrev pub invariant-loop-call : goal.invariant-loop-call
invariant-loop-call g l = record {
  served : (from : List Turn) → InService (g.P.Plant.model l.plant) l.policy from (g.O.Operator.turns l.fn.operator) (book_of l.fn.made)
      → InService (g.P.Plant.model l.plant) l.policy from (g.O.Operator.turns l.operator) (book_of l.book);
  shown : Keeps (g.O.Operator.was_shown l.fn.operator) (g.O.Operator.was_shown l.operator);
}

abbrev pub decreases-loop-call : goal.decreases-loop-call
decreases-loop-call g l = g.O.Operator.left l.operator
