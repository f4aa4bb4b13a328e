use Rattle.std.proofs.Common.{refl}
use Rattle.bench.specs.Digests.{mix}
use Rattle.bench.proofs.mixing.mix.Goals as goal

pub returns : goal.returns
unfolding mix
returns c = refl
