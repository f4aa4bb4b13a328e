use Rattle.bench.specs.Booking.{Books}
use Rattle.bench.proofs.booking.book_windows.Given as goal

abbrev pub invariant-loop-window : goal.invariant-loop-window
invariant-loop-window g l = Books (g.P.Plant.model l.plant) l.policy l._window l.book l.digest
