use Rattle.std.proofs.Common.{rules}
use Rattle.bench.specs.Asking.{pair_asked}
use Rattle.bench.proofs.asking.ask_pair.Goals as goal

pub returns : goal.returns
unfolding pair_asked
returns g c = search rules
