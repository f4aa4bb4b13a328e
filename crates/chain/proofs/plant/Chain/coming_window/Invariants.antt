use Rattle.std.proofs.Common.{◌≡◌, ◌≤◌, length}
use Rattle.chain.proofs.Turns.{SoFar}
use Rattle.chain.proofs.plant.Chain.coming_window.Given as goal
use Rattle.chain.specs.Parts.{hazard}
use Rattle.chain.specs.Portfolios.{start_age}

abbrev pub invariant-loop-number : goal.invariant-loop-number
invariant-loop-number l = record {
  all : SoFar l.self.numbers l.state l.portfolio (length l.yielded) l.rest l.width l.total l.hazards;
  one : 1 ≤ l.asked → l.asked ≤ length l.yielded → l.asked_hazard ≡ hazard l.self.numbers l.asked (start_age l.self.numbers l.state l.portfolio l.asked);
}
