use Rattle.std.proofs.Common.{refl}
use Rattle.pair.proofs.Instance.{some_pair}
use Rattle.pair.proofs.Survival.{pair_laws}
use Rattle.pair.proofs.plant.Pair.numbers.Goals as goal

pub returns : goal.returns
returns c =
    let p = c.args.self.now in
    record { value = refl; lawful = (p.lawful, p.renewable); laws = pair_laws p.numbers p.lawful; met = some_pair }
