use Rattle.std.proofs.Common.{arith, rules}
use Rattle.bookkeeping.specs.Standings.{book_of}
use Rattle.bookkeeping.proofs.Running.{through_more, through}
use Rattle.bookkeeping.proofs.run.run.Goals as goal

pub loop-at-preserved : goal.loop-at-preserved
loop-at-preserved g c =
    through_more (g.P.Plant.model c.args.plant.now) c.args.state c.args.calls.now c.args.answers.now c.loop-at.answers (book_of c.loop-at.book) (book_of c.call-next.result.0)
    c.loop-at.at _ c.call-next.result.1 c.loop-at.invariant (omega arith) (omega arith) c.call-next.ensures.answered c.call-next.ensures.past

pub returns-clause-ran : goal.returns-clause-ran
returns-clause-ran g c =
    through (g.P.Plant.model c.args.plant.now) c.args.state c.args.calls.now c.args.answers.now c.loop-at.answers (book_of c.loop-at.book) c.loop-at.at
    c.loop-at.invariant (omega arith) (search rules)
