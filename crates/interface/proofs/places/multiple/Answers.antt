use Rattle.std.proofs.Common.{◌≡◌, ℕ, ◌*◌, ◌≤◌, pos, get_or, length, nat_abs, arith, rules, w64, SFits}
use Rattle.interface.specs.Limits.{most_reach}
use Rattle.std.proofs.lemmas.Int.{to_z-of_z}
use Rattle.std.proofs.lemmas.Bool.Decides.{nat_tests}
use Rattle.interface.specs.Rows.{Row, reach, times}
use Rattle.interface.proofs.ByPlaces.{reach_at, times_at, length-times, next_place, one_more, all_places}
use Rattle.interface.proofs.places.multiple.Goals as goal

-- a place of a row that may be multiplied may be multiplied
may : (n m : ℕ) (u : Row) (k : ℕ) → m ≡ reach u → ((j : ℕ) → j ≤ m → n * j ≤ most_reach) → n * nat_abs (get_or u k (pos 0)) ≤ most_reach
may n m u k e part = part (nat_abs (get_or u k (pos 0))) (omega (arith, e, reach_at u k))

pub returns-in_err-place : goal.returns-in_err-place
returns-in_err-place g c =
    let long = length-times c.args.factor c.args.a in
    let here = next_place (times c.args.factor c.args.a) c.args.a c.loop-place.place-items c.loop-place.place-index long c.loop-place.invariant in
    let fits : SFits w64 (get_or c.args.a c.loop-place.place-index (pos 0)) = search rules in
    let small = may c.args.factor c.reach.result c.args.a c.loop-place.place-index c.reach.ensures (λ j l. c.multiple_within.ensures.part j l c.if-not-multiple_within.false) in
    absurd (c.in_err-place.ensures (simp (here, to_z-of_z) small))

pub loop-place-preserved : goal.loop-place-preserved
loop-place-preserved g c =
    let a_long : length c.args.a ≡ g.row.N = search rules in
    let long = length-times c.args.factor c.args.a in
    let here = next_place (times c.args.factor c.args.a) c.args.a c.loop-place.place-items c.loop-place.place-index long c.loop-place.invariant in
    let there = times_at c.args.factor c.args.a c.loop-place.place-index (omega arith) in
    let fits : SFits w64 (get_or c.args.a c.loop-place.place-index (pos 0)) = search rules in
    let is = simp (here, to_z-of_z) at c.in_ok-place.ensures.1 in
    let whole : SFits w64 c.in_ok-place.field-0 = search rules in
    one_more (times c.args.factor c.args.a) c.args.a c.loop-place.place-items c.loop-place.place-index _ long (omega arith) c.loop-place.invariant (simp (there, to_z-of_z) is)

pub returns : goal.returns
returns g c =
    let a_long : length c.args.a ≡ g.row.N = search rules in
    let long = length-times c.args.factor c.args.a in
    (grind (arith, nat_tests), all_places (times c.args.factor c.args.a) c.args.a c.loop-place.place-items c.loop-place.place-index long (omega arith) c.loop-place.invariant)
