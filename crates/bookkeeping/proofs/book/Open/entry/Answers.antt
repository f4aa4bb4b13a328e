use Rattle.std.proofs.Common.{subst, ap, arith}
use Rattle.bookkeeping.specs.Calls.{IssueRefused, full, no_state, wrong_length}
use Rattle.bookkeeping.proofs.book.Open.entry.Goals as goal

pub returns-then-self-ge-MOST_WINDOWS-clause-refused :
    goal.returns-then-self-ge-MOST_WINDOWS-clause-refused
returns-then-self-ge-MOST_WINDOWS-clause-refused g c = full (omega (arith, ap (λ a. a.windows) c.self.view_is))

pub returns-then-self-states-clause-refused : goal.returns-then-self-states-clause-refused
returns-then-self-states-clause-refused g c =
    subst (λ a. IssueRefused (g.P.Plant.model c.args.plant.now) a c.args.policy.now 21 c.self.inside.state) c.self.view_is
    (no_state (omega arith) (omega arith))

pub returns-then-policy-states-clause-refused : goal.returns-then-policy-states-clause-refused
returns-then-policy-states-clause-refused g c =
    subst (λ a. IssueRefused (g.P.Plant.model c.args.plant.now) a c.args.policy.now 7 0) c.self.view_is
    (wrong_length (omega arith) (omega arith) (λ e. omega (arith, e)))
