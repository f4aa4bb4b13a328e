use Rattle.service.specs.Services.{Keeps, NoneMade}
use Rattle.service.proofs.serve.make_book.Given as goal

abbrev pub invariant-loop-state : goal.invariant-loop-state
invariant-loop-state g l = record {
  none : NoneMade (g.P.Plant.model l.plant) (g.O.Operator.turns l.fn.operator) (g.O.Operator.turns l.operator);
  shown : Keeps (g.O.Operator.was_shown l.fn.operator) (g.O.Operator.was_shown l.operator);
}

abbrev pub decreases-loop-state : goal.decreases-loop-state
decreases-loop-state g l = g.O.Operator.left l.operator
