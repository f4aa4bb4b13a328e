use Rattle.std.proofs.Common.{◌≡◌, ℕ, List, Some, None, ap, sym, subst, rules}
use Rattle.interface.specs.Plants.{Model, bill_of}
use Rattle.bookkeeping.specs.Books.{Account}
use Rattle.bookkeeping.specs.Calls.{IssueRefused}
use Rattle.bookkeeping.specs.Entries.{EntryOf}
use Rattle.bookkeeping.specs.Refusals.{number_of, place_of}
use Rattle.bookkeeping.proofs.Booking.{order_book, order_refused, no_issue_goes_on}
use Rattle.bookkeeping.proofs.Replies.{issue_exactly}
use Rattle.bookkeeping.proofs.book.Open.issue.Goals as goal

pub invariant_of-result : goal.invariant_of-result
invariant_of-result g c =
    let m = g.P.Plant.model c.args.plant.now in
    let there : bill_of m c.args.self.state c.in-Ok.portfolio ≡ Some c.in-Some.bill = search rules in
    (order_book m c.args.self _ c.args.policy.now c.in-Ok.portfolio c.in-Some.bill (g.met.P.Plant.lawful c.args.plant.now) c.self.view_is c.self.invariant
    c.in-Ok.ensures.entry there).due

pub returns-in-Err-clause-refused : goal.returns-in-Err-clause-refused
returns-in-Err-clause-refused g c =
    issue_exactly (g.P.Plant.model c.args.plant.now) c.args.self c.args.policy.now (number_of c.in-Err.why) (place_of c.in-Err.why) c.in-Err.ensures.refused

pub returns-in-Err-clause-past : goal.returns-in-Err-clause-past
returns-in-Err-clause-past g c =
    no_issue_goes_on (g.P.Plant.model c.args.plant.now) c.args.self c.args.policy.now (number_of c.in-Err.why) (place_of c.in-Err.why)
    (g.met.P.Plant.lawful c.args.plant.now) c.in-Err.ensures.refused

-- the policy's entry is not feasible
infeasible_here : (m : Model) (a v : Account) (ps : List ℕ) (x : ℕ) → v ≡ a → EntryOf m a ps x → bill_of m a.state x ≡ None → IssueRefused m a ps 22 v.state
infeasible_here m a v ps x same entry none =
    subst (λ s. IssueRefused m a ps 22 s) (sym (ap (λ z. z.state) same)) (order_refused m a ps x entry none)

pub returns-in-None-clause-refused : goal.returns-in-None-clause-refused
returns-in-None-clause-refused g c =
    let m = g.P.Plant.model c.args.plant.now in
    let none : bill_of m c.args.self.state c.in-Ok.portfolio ≡ None = search rules in
    issue_exactly m c.args.self c.args.policy.now 22 _ (infeasible_here m c.args.self _ c.args.policy.now c.in-Ok.portfolio c.self.view_is c.in-Ok.ensures.entry none)

pub returns-in-None-clause-past : goal.returns-in-None-clause-past
returns-in-None-clause-past g c =
    let m = g.P.Plant.model c.args.plant.now in
    let none : bill_of m c.args.self.state c.in-Ok.portfolio ≡ None = search rules in
    no_issue_goes_on m c.args.self c.args.policy.now 22 _ (g.met.P.Plant.lawful c.args.plant.now)
    (infeasible_here m c.args.self _ c.args.policy.now c.in-Ok.portfolio c.self.view_is c.in-Ok.ensures.entry none)

pub returns-in-Some-clause-past : goal.returns-in-Some-clause-past
returns-in-Some-clause-past g c =
    let m = g.P.Plant.model c.args.plant.now in
    let there : bill_of m c.args.self.state c.in-Ok.portfolio ≡ Some c.in-Some.bill = search rules in
    (order_book m c.args.self _ c.args.policy.now c.in-Ok.portfolio c.in-Some.bill (g.met.P.Plant.lawful c.args.plant.now) c.self.view_is c.self.invariant
    c.in-Ok.ensures.entry there).goes_on
