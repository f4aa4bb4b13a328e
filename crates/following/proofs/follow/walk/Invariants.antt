use Rattle.std.proofs.Common.{take}
use Rattle.following.specs.Promises.{always, GoesThrough}
use Rattle.following.proofs.follow.walk.Given as goal

abbrev pub invariant-loop-windows : goal.invariant-loop-windows
invariant-loop-windows g l =
    GoesThrough (g.P.Plant.model l.fn.plant) (always l.fn.policy) 0 l.fn.book (take l.windows l.fn.outcomes) l.book
