use Rattle.std.proofs.Common.{length}
use Rattle.chain.proofs.Counting.{Counted}
use Rattle.chain.proofs.plant.Chain.state_number.Given as goal

abbrev pub invariant-loop-part : goal.invariant-loop-part
invariant-loop-part l = Counted l.self.numbers l.state (length l.yielded) l.total l.width
