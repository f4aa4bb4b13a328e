use Rattle.workorder.proofs.least_work_orders.Given as goal
use Rattle.workorder.specs.Steps.{RightBelow}

abbrev pub invariant-loop-portfolio : goal.invariant-loop-portfolio
invariant-loop-portfolio l = RightBelow l.arcs l.portfolio l.table
