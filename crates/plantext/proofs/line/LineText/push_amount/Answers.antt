use Rattle.std.proofs.Common.{◌≡◌, ◌^◌, ◌<◌, ◌++◌, length, get_or, take, ℤ, pos, Some, sym, ap, ◌∙◌, subst, arith, w64, SFits, rules, append_assoc, below_more}
use lib.Signed.{mag}
use Rattle.std.specs.List.{slice_get}
use Rattle.std.specs.Fmt.{signed_decimal}
use Rattle.std.proofs.lemmas.Option.{slice_get-get_or}
use Rattle.std.proofs.lemmas.Int.{to_z-of_z}
use Rattle.plantext.specs.Lines.{amount}
use Rattle.plantext.specs.Spaces.{separated}
use Rattle.plantext.proofs.Puts.{amount_more}
use Rattle.plantext.proofs.line.LineText.push_amount.Goals as goal

pub loop-i-preserved : goal.loop-i-preserved
loop-i-preserved g c =
    let u = g.T.Tariff.row c.args.amount in
    let i = c.loop-i.i in
    let front = c.args.self.now.bytes.items in
    let long = g.met.T.Tariff.fits c.args.tariff.now c.args.amount in
    let inside : i < length u = omega (arith, c.place_count-i-end.ensures) in
    let place : ℤ = c.unwrap.result in
    let f : SFits w64 place = search rules in
    let found = slice_get-get_or u i (pos 0) inside in
    let here : slice_get u i ≡ Some place = sym c.place.ensures ∙ c.unwrap.ensures in
    let same : place ≡ get_or u i (pos 0) = cc in
    record {
      text = simp to_z-of_z at c.push_place.ensures.text ∙ ap (λ w. w ++ separated i (signed_decimal place)) c.loop-i.invariant.text ∙ append_assoc front (amount (take i u)) (separated i (signed_decimal place)) ∙ ap (λ w. front ++ w) (amount_more u i place here);
      room = omega arith;
      held = below_more (λ k. mag (get_or u k (pos 0)) < 2 ^ 63) i c.loop-i.invariant.held (subst (λ z. mag z < 2 ^ 63) same f.sfits);
    }
