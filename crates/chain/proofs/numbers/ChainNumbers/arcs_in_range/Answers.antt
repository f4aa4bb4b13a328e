use Rattle.std.proofs.Common.{◌≡◌, ◌≤◌, true, rules}
use Rattle.chain.proofs.Dearest.{all_from_none_dearer, none_dearer}
use Rattle.chain.proofs.numbers.ChainNumbers.arcs_in_range.Goals as goal
use Rattle.chain.specs.Limits.{most_charge}
use Rattle.chain.specs.Parts.{arcs_of}
use Rattle.std.specs.List.{All}
use Rattle.workorder.specs.declared.Arc.{Arc}

pub returns : goal.returns
returns c =
    let arcs = arcs_of c.args.self.now in
    let each : (c.all.result ≡ true → All (λ (a : Arc). a.cents ≤ most_charge) arcs) × (All (λ (a : Arc). a.cents ≤ most_charge) arcs → c.all.result ≡ true) = search rules in (
      λ t. none_dearer most_charge arcs (each.0 t),
      λ none. each.1 (all_from_none_dearer most_charge arcs none),
    )
