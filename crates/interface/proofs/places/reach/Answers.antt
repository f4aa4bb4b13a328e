use Rattle.std.proofs.Common.{◌≡◌, ◌∙◌, max, nat_abs, rules}
use Rattle.std.specs.List.{fold}
use Rattle.interface.proofs.ByPlaces.{fold_reach}
use Rattle.interface.proofs.places.reach.Goals as goal

pub returns : goal.returns
returns g c =
    let folded : c.fold.result ≡ fold (λ m x. max m (nat_abs x)) 0 c.args.a = search rules in
    folded ∙ fold_reach c.args.a
