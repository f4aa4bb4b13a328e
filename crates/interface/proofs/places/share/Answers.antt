use Rattle.std.proofs.Common.{◌≡◌, length, pos, get_or, arith, rules, w64, SFits}
use Rattle.std.proofs.lemmas.Int.{ints, to_z-of_z}
use Rattle.interface.specs.Rows.{share}
use Rattle.interface.proofs.ByPlaces.{share_at, length-share, next_place, one_more, all_places}
use Rattle.interface.proofs.places.share.Goals as goal

pub loop-place-preserved : goal.loop-place-preserved
loop-place-preserved g c =
    let a_long : length c.args.a ≡ g.row.N = search rules in
    let long = length-share c.args.a in
    let here = next_place (share c.args.a) c.args.a c.loop-place.place-items c.loop-place.place-index long c.loop-place.invariant in
    let there = share_at c.args.a c.loop-place.place-index (omega arith) in
    let fits : SFits w64 (get_or c.args.a c.loop-place.place-index (pos 0)) = search rules in
    one_more (share c.args.a) c.args.a c.loop-place.place-items c.loop-place.place-index _ long (omega arith) c.loop-place.invariant (grind (arith, ints, to_z-of_z))

pub returns : goal.returns
returns g c =
    let a_long : length c.args.a ≡ g.row.N = search rules in
    let long = length-share c.args.a in
    all_places (share c.args.a) c.args.a c.loop-place.place-items c.loop-place.place-index long (omega arith) c.loop-place.invariant
