use Rattle.std.proofs.Common.{sym, subst, add-one, suc}
use Rattle.bookkeeping.specs.Books.{Account}
use Rattle.bench.specs.Booking.{Books, begins, goes_on}
use Rattle.bench.proofs.booking.book_windows.Goals as goal

pub loop-window-init : goal.loop-window-init
loop-window-init g c = subst (λ (a : Account). Books (g.P.Plant.model c.args.plant.now) c.args.policy.now 0 a 0) (sym c.in_ok-book.ensures.fresh) begins

pub loop-window-preserved : goal.loop-window-preserved
loop-window-preserved g c =
    let m = g.P.Plant.model c.args.plant.now in
    let b = c.in_ok-book-2.book in
    let more = goes_on b c.loop-window.invariant c.in_ok-book-2.ensures in
    subst (λ n. Books m c.args.policy.now n b c.mix_book-digest.result) (sym (add-one c.loop-window._window))
    (subst (Books m c.args.policy.now (suc c.loop-window._window) b) (sym c.mix_book-digest.ensures) more)
