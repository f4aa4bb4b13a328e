use Rattle.std.proofs.Common.{◌≡◌, ℕ, ◌-◌, ◌≤◌, List, take, replicate, refl, sym, ap, ◌∙◌, subst, arith}
use Rattle.std.specs.Result.{IfOk}
use Rattle.interface.specs.Limits.{most_states}
use Rattle.bookkeeping.specs.Books.{Account}
use Rattle.bench.specs.Booking.{Books, everything}
use Rattle.bench.proofs.Cuts.{front_length}
use Rattle.bench.proofs.booking.told_book.Goals as goal

pub slice_bounds-book_windows-end : goal.slice_bounds-book_windows-end
slice_bounds-book_windows-end g c =
    let law = (g.met.P.Plant.lawful c.args.plant.now).few_states in
    let few : c.states-states.result ≤ 4096 = omega arith in
    sym (front_length _ _ _ few refl)

pub returns : goal.returns
returns g c =
    let m = g.P.Plant.model c.args.plant.now in
    let by : (states portfolios : ℕ) → List ℕ = λ states portfolios. take states (replicate most_states (portfolios - 1)) in
    let same : by c.states-states.result c.portfolios.result ≡ everything m =
    ap (λ n. by n c.portfolios.result) c.states-states.ensures ∙ ap (by m.states) c.portfolios.ensures in
    subst (λ ps. IfOk c.book_windows.result (λ d. (a : Account) × Books m ps c.args.windows a d)) same c.book_windows.ensures
