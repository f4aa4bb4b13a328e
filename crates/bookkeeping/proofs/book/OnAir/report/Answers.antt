use Rattle.std.proofs.Common.{◌≡◌, ℕ, true, false, Some, None, ◌↔◌, ap, sym, refl, subst, arith, rules}
use Rattle.std.specs.List.{slice_get}
use Rattle.interface.specs.Plants.{outcomes_of}
use Rattle.bookkeeping.specs.Calls.{ReportRefused, not_allowed}
use Rattle.bookkeeping.proofs.Booking.{outcome_absent, outcome_book, no_report_goes_on}
use Rattle.bookkeeping.proofs.Replies.{report_exactly, report_not_both}
use Rattle.bookkeeping.proofs.book.OnAir.report.Goals as goal

pub returns-then-not-feasible-clause-refused : goal.returns-then-not-feasible-clause-refused
returns-then-not-feasible-clause-refused g c =
    let m = g.P.Plant.model c.args.plant.now in
    let out : m.feasible c.args.self.account.state c.args.self.portfolio ≡ false = search rules in
    subst (λ s. (n p : ℕ) → ((21 ≡ n) × (s ≡ p)) ↔ ReportRefused m c.args.self c.args.outcome n p) (sym (ap (λ w. w.account.state) c.self.view_is))
    (report_exactly m c.args.self c.args.outcome 21 c.args.self.account.state (not_allowed out))

pub returns-then-not-feasible-clause-past : goal.returns-then-not-feasible-clause-past
returns-then-not-feasible-clause-past g c =
    let m = g.P.Plant.model c.args.plant.now in
    let out : m.feasible c.args.self.account.state c.args.self.portfolio ≡ false = search rules in
    no_report_goes_on m c.args.self c.args.outcome 21 c.self.inside.state (g.met.P.Plant.lawful c.args.plant.now)
    (subst (λ s. ReportRefused m c.args.self c.args.outcome 21 s) (sym (ap (λ w. w.account.state) c.self.view_is)) (not_allowed out))

pub invariant_of-result : goal.invariant_of-result
invariant_of-result g c =
    let m = g.P.Plant.model c.args.plant.now in
    let there : slice_get (outcomes_of m c.args.self.account.state c.args.self.portfolio) c.args.outcome ≡ Some c.in-Some.reached = search rules in
    (outcome_book m c.args.self _ c.args.outcome c.in-Some.reached (g.met.P.Plant.lawful c.args.plant.now) c.self.view_is c.self.invariant there).bounded

pub returns-in-None-clause-done : goal.returns-in-None-clause-done
returns-in-None-clause-done g c =
    let m = g.P.Plant.model c.args.plant.now in
    let may : m.feasible c.args.self.account.state c.args.self.portfolio ≡ true = search rules in
    let none : slice_get (outcomes_of m c.args.self.account.state c.args.self.portfolio) c.args.outcome ≡ None = search rules in
    let why = outcome_absent m c.args.self c.args.outcome may none in
    ((λ e. let z : ◌≡◌ {A = ℕ} 0 1 = cc in absurd (omega arith)), (λ may_too. absurd (report_not_both m c.args.self c.args.outcome 23 c.args.outcome may_too why)))

pub returns-in-None-clause-refused : goal.returns-in-None-clause-refused
returns-in-None-clause-refused g c =
    let m = g.P.Plant.model c.args.plant.now in
    let may : m.feasible c.args.self.account.state c.args.self.portfolio ≡ true = search rules in
    let none : slice_get (outcomes_of m c.args.self.account.state c.args.self.portfolio) c.args.outcome ≡ None = search rules in
    report_exactly m c.args.self c.args.outcome 23 c.args.outcome (outcome_absent m c.args.self c.args.outcome may none)

pub returns-in-None-clause-past : goal.returns-in-None-clause-past
returns-in-None-clause-past g c =
    let m = g.P.Plant.model c.args.plant.now in
    let may : m.feasible c.args.self.account.state c.args.self.portfolio ≡ true = search rules in
    let none : slice_get (outcomes_of m c.args.self.account.state c.args.self.portfolio) c.args.outcome ≡ None = search rules in
    no_report_goes_on m c.args.self c.args.outcome 23 c.args.outcome (g.met.P.Plant.lawful c.args.plant.now) (outcome_absent m c.args.self c.args.outcome may none)

pub returns-in-Some-clause-done : goal.returns-in-Some-clause-done
returns-in-Some-clause-done g c =
    let m = g.P.Plant.model c.args.plant.now in
    let there : slice_get (outcomes_of m c.args.self.account.state c.args.self.portfolio) c.args.outcome ≡ Some c.in-Some.reached = search rules in
    let made = outcome_book m c.args.self _ c.args.outcome c.in-Some.reached (g.met.P.Plant.lawful c.args.plant.now) c.self.view_is c.self.invariant there in
    ((λ e. made.may), (λ may. refl))

pub returns-in-Some-clause-refused : goal.returns-in-Some-clause-refused
returns-in-Some-clause-refused g c =
    let m = g.P.Plant.model c.args.plant.now in
    let there : slice_get (outcomes_of m c.args.self.account.state c.args.self.portfolio) c.args.outcome ≡ Some c.in-Some.reached = search rules in
    let made = outcome_book m c.args.self _ c.args.outcome c.in-Some.reached (g.met.P.Plant.lawful c.args.plant.now) c.self.view_is c.self.invariant there in
    λ n p. ((λ none. absurd none), (λ why. report_not_both m c.args.self c.args.outcome n p made.may why))

pub returns-in-Some-clause-past : goal.returns-in-Some-clause-past
returns-in-Some-clause-past g c =
    let m = g.P.Plant.model c.args.plant.now in
    let there : slice_get (outcomes_of m c.args.self.account.state c.args.self.portfolio) c.args.outcome ≡ Some c.in-Some.reached = search rules in
    (outcome_book m c.args.self _ c.args.outcome c.in-Some.reached (g.met.P.Plant.lawful c.args.plant.now) c.self.view_is c.self.invariant there).goes_on
