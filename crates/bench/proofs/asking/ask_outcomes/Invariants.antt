use Rattle.std.proofs.Common.{◌≡◌, length}
use Rattle.std.specs.List.{slice_get}
use Rattle.interface.specs.Plants.{outcomes_of}
use Rattle.bench.specs.Digests.{mix, with_outcome, in_turn}
use Rattle.bench.proofs.asking.ask_outcomes.Given as goal

abbrev pub invariant-loop-k : goal.invariant-loop-k
invariant-loop-k g l =
    let os = outcomes_of (g.P.Plant.model l.plant) l.state l.portfolio in
    l.digest ≡ in_turn (λ k e. with_outcome e (slice_get os k)) l.k (mix l.before (length os))
