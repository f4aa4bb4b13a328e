use Rattle.std.proofs.Common.{◌≡◌}
use Rattle.bench.specs.Asking.{state_asked}
use Rattle.bench.specs.Digests.{mix, in_turn}
use Rattle.bench.proofs.asking.ask_plant.Given as goal

abbrev pub invariant-loop-state : goal.invariant-loop-state
invariant-loop-state g l =
    let m = g.P.Plant.model l.plant in
    l.digest ≡ in_turn (state_asked m) l.state (mix (mix l.before m.states) m.portfolios)
