use Rattle.std.proofs.Common.{◌≡◌}
use Rattle.bench.specs.Asking.{pair_asked}
use Rattle.bench.specs.Digests.{in_turn}
use Rattle.bench.proofs.asking.ask_state.Given as goal

abbrev pub invariant-loop-portfolio : goal.invariant-loop-portfolio
invariant-loop-portfolio g l = l.digest ≡ in_turn (pair_asked (g.P.Plant.model l.plant) l.state) l.portfolio l.before
