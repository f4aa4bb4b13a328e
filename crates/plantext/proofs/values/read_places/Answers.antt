use Rattle.std.proofs.Common.{◌≡◌, suc, ◌+◌, ◌-◌, ◌<◌, length, take, set, ℤ, sym, ap, ◌∙◌, arith, w64, SFits, rules}
use Rattle.std.specs.Option.{option_map}
use Rattle.std.proofs.lemmas.Int.{to_z-of_z}
use Rattle.lines.specs.Fields.{further}
use Rattle.plantext.proofs.ValueLaws.{reads_on, no_field, no_place, place_more, taken_more}
use Rattle.plantext.proofs.values.read_places.Goals as goal

pub returns-in_err-next : goal.returns-in_err-next
returns-in_err-next g c =
    let row = g.T.Tariff.row in
    let places = (g.T.Tariff.scale c.args.tariff.now).places in
    let some : 0 < places - c.loop-i.i = omega (arith, c.place_count-i-end.ensures) in
    let none = no_field (take c.loop-i.i (row c.loop-i.amount)) (places - c.loop-i.i) _ some c.in_err-next.ensures.steps.0 in
    ap (option_map row) c.from_residual.ensures ∙ sym none ∙ c.loop-i.invariant

pub returns-in_err-place : goal.returns-in_err-place
returns-in_err-place g c =
    let row = g.T.Tariff.row in
    let places = (g.T.Tariff.scale c.args.tariff.now).places in
    let some : 0 < places - c.loop-i.i = omega (arith, c.place_count-i-end.ensures) in
    let none = no_place (take c.loop-i.i (row c.loop-i.amount)) (places - c.loop-i.i) _ _ _ some c.in_ok-next.ensures.steps (sym c.in_err-place.ensures.value) in
    ap (option_map row) c.from_residual-in_err-place.ensures ∙ sym none ∙ c.loop-i.invariant

pub loop-i-preserved : goal.loop-i-preserved
loop-i-preserved g c =
    let row = g.T.Tariff.row in
    let places = (g.T.Tariff.scale c.args.tariff.now).places in
    let i = c.loop-i.i in
    let z : ℤ = c.in_ok-place.place in
    let f : SFits w64 z = search rules in
    let set_is : row c.in_ok-amount.amount ≡ set (row c.loop-i.amount) i z = simp to_z-of_z at c.in_ok-amount.ensures.1 in
    let long = g.met.T.Tariff.fits c.args.tariff.now c.loop-i.amount in
    let inside : i < length (row c.loop-i.amount) = omega (arith, c.place_count-i-end.ensures) in
    let left : places - i ≡ suc (places - (i + 1)) = omega (arith, c.place_count-i-end.ensures) in
    ap (λ p. reads_on p (places - (i + 1)) (further c.next.new.self.rest)) (taken_more (row c.loop-i.amount) (row c.in_ok-amount.amount) i z set_is inside)
    ∙ place_more (take i (row c.loop-i.amount)) z (places - i) (places - (i + 1)) _ _ _ left c.in_ok-next.ensures.steps (sym c.in_ok-place.ensures.value)
    ∙ c.loop-i.invariant
