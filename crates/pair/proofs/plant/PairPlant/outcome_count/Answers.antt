use Rattle.std.proofs.Common.{rules}
use Rattle.std.proofs.lemmas.List.FromFn.{length-map-range_with_len}
use Rattle.pair.proofs.plant.PairPlant.outcome_count.Goals as goal

pub returns-then-feasible : goal.returns-then-feasible
returns-then-feasible c = search (rules, length-map-range_with_len)
