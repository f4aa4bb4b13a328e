use Rattle.std.proofs.Common.{arith, []}
use Rattle.bookkeeping.specs.Pasts.{made}
use Rattle.bookkeeping.proofs.Booking.{goes_on_so}
use Rattle.bookkeeping.proofs.Replies.{make_exactly}
use Rattle.bookkeeping.proofs.book.Open.make.Goals as goal

pub returns-then-state-states-clause-refused : goal.returns-then-state-states-clause-refused
returns-then-state-states-clause-refused g c = make_exactly (g.P.Plant.model c.args.plant.now) c.args.state (omega arith)

pub returns-clause-past : goal.returns-clause-past
returns-clause-past g c =
    goes_on_so c.args.state [] _ (made (g.P.Plant.model c.args.plant.now) (g.met.P.Plant.lawful c.args.plant.now) (omega arith))
