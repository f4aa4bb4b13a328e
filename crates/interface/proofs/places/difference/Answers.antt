use Rattle.std.proofs.Common.{◌≡◌, true, length, arith, rules}
use Rattle.std.proofs.lemmas.Bool.Decides.{nat_tests}
use Rattle.std.proofs.lemmas.Int.{ints, to_z-of_z}
use Rattle.std.proofs.iter.Serving.{serving}
use Rattle.interface.specs.Rows.{minus}
use Rattle.interface.specs.Tariffs.{summable}
use Rattle.interface.proofs.ByPlaces.{minus_at, length-minus, together, row_made}
use Rattle.interface.proofs.places.difference.Goals as goal

pub from_fn-requires : goal.from_fn-requires
from_fn-requires g c = grind (serving, ints, together c.args.a c.args.b (grind (arith, nat_tests)))

pub returns : goal.returns
returns g c =
    let a_long : length c.args.a ≡ g.row.N = search rules in
    let b_long : length c.args.b ≡ g.row.N = search rules in
    let long = length-minus c.args.a c.args.b (omega arith) in
    let within : summable c.args.a c.args.b ≡ true = grind (arith, nat_tests) in (
      within,
      row_made (minus c.args.a c.args.b) c.from_fn.ensures.items (omega arith) (λ i y q l k.
          let at = minus_at c.args.a c.args.b i (omega arith) in
          let few = together c.args.a c.args.b within i in
          search (rules, ints, to_z-of_z)),
    )
