use Rattle.std.proofs.Common.{arith, rules}
use Rattle.bench.specs.Asking.{state_asked}
use Rattle.bench.proofs.asking.ask_state.Goals as goal

-- behind the last portfolio's turn
pub returns-2 : goal.returns-2
unfolding state_asked
returns-2 g c = grind (arith, rules)
