use Rattle.std.proofs.Common.{◌≡◌, ◌-◌, ◌++◌, take}
use Rattle.std.specs.Option.{option_map}
use Rattle.lines.specs.Fields.{further}
use Rattle.plantext.specs.Values.{amount_of}
use Rattle.plantext.proofs.values.read_places.Given as goal

abbrev pub invariant-loop-i : goal.invariant-loop-i
invariant-loop-i g l =
    let places = (g.T.Tariff.scale l.tariff).places in
    option_map (λ u. take l.i (g.T.Tariff.row l.amount) ++ u) (amount_of (places - l.i) (further l.fields.rest)) ≡ amount_of places (further l.initial.fields.rest)
