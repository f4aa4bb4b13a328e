use Rattle.std.proofs.Common.{◌≡◌, length, take, subst, add-one, arith}
use Rattle.following.specs.Endings.{through, stopped}
use Rattle.following.specs.Promises.{always, GoesThrough}
use Rattle.following.proofs.Going.{one_more, take_whole}
use Rattle.following.proofs.follow.walk.Goals as goal

pub returns-in-Err : goal.returns-in-Err
returns-in-Err g c =
    let ks = c.args.outcomes.now in
    stopped c.loop-windows-test.true c.loop-windows.invariant c.in-Err.ensures.refused

pub loop-windows-preserved : goal.loop-windows-preserved
loop-windows-preserved g c =
    let m = g.P.Plant.model c.args.plant.now in
    let ps = c.args.policy.now in
    let ks = c.args.outcomes.now in
    rw add-one (one_more m ps 0 c.args.book ks c.loop-windows.windows c.loop-windows.book c.in-Ok.next c.loop-windows-test.true c.loop-windows.invariant c.in-Ok.ensures.through)

pub returns : goal.returns
returns g c =
    let m = g.P.Plant.model c.args.plant.now in
    let ps = c.args.policy.now in
    let ks = c.args.outcomes.now in
    let e : c.loop-windows.windows ≡ length ks = omega arith in
    through (subst (λ ls. GoesThrough m (always ps) 0 c.args.book ls c.loop-windows.book) (take_whole ks)
    (subst (λ n. GoesThrough m (always ps) 0 c.args.book (take n ks) c.loop-windows.book) e c.loop-windows.invariant))
