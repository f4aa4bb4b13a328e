use Rattle.std.proofs.Common.{◌≡◌}
use Rattle.bench.specs.Asking.{asked_again}
use Rattle.bench.proofs.asking.ask_rounds.Given as goal

abbrev pub invariant-loop-round : goal.invariant-loop-round
invariant-loop-round g l = l.digest ≡ asked_again (g.P.Plant.model l.plant) l._round
