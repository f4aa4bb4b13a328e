use Rattle.chain.proofs.plant.ChainPlant.outcome_count.Goals as goal
use Rattle.std.proofs.lemmas.List.FromFn.{length-map-range_with_len}
use Rattle.std.proofs.Common.{rules}

pub returns : goal.returns
returns c = search (rules, length-map-range_with_len)
