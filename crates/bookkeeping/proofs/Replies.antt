-- What a log of so many notes answers, and that a call is refused as one number and at one place, and not where it may be done.
use Rattle.std.proofs.Common.{◌≡◌, ℕ, ◌≤◌, ◌↔◌, true, false, Bool, cond, List, [], length, None, refl, ap, subst, arith, ◌==◌, nat_le, if◌then◌else◌}
use Rattle.std.proofs.lemmas.Bool.Decides.{nat_tests}
use Rattle.std.specs.List.{slice_get}
use Rattle.std.proofs.lemmas.Option.{slice_get_within}
use Rattle.interface.specs.Limits.{most_windows}
use Rattle.interface.specs.Plants.{Model, named, outcomes_of}
use Rattle.bookkeeping.specs.declared.stage.Stage.TheVariants.{Open, Issued}
use Rattle.bookkeeping.specs.Books.{Account, Airing}
use Rattle.bookkeeping.specs.Calls.{MakeRefused, MayIssue, IssueRefused, full, no_state, wrong_length, infeasible, MayReport, Reported, ReportRefused, not_allowed, no_outcome}
use Rattle.bookkeeping.specs.Log.{Reply, goes_on, refused, report_reply}

-- what an issue is told in a state, with so many windows noted
abbrev pub says : Model → List ℕ → ℕ → ℕ → Reply
says m ps s n =
    if nat_le most_windows n then refused 24 0
    else if nat_le m.states s then refused 21 s
    else if length ps == m.states then (if m.feasible s (named ps s) then goes_on Issued else refused 22 s)
    else refused 7 0

pub issue_says : (m : Model) (a : Account) (ps : List ℕ) → MayIssue m a ps → says m ps a.state a.windows ≡ goes_on Issued
issue_says m a ps may = grind (arith, nat_tests)

pub refusal_says : (m : Model) (a : Account) (ps : List ℕ) (n p : ℕ) → IssueRefused m a ps n p → says m ps a.state a.windows ≡ refused n p
refusal_says m a ps n p (full none) = grind (arith, nat_tests)
refusal_says m a ps n p (no_state room out) = grind (arith, nat_tests)
refusal_says m a ps n p (wrong_length room state long) = grind (arith, nat_tests)
refusal_says m a ps n p (infeasible room state long out) = grind (arith, nat_tests)

pub report_says : (m : Model) (w : Airing) (k : ℕ) → MayReport m w k → report_reply m k w.account.state w.portfolio ≡ goes_on Open
report_says m w k may = grind (arith, nat_tests)

pub no_report_says : (m : Model) (w : Airing) (k n p : ℕ) → ReportRefused m w k n p → report_reply m k w.account.state w.portfolio ≡ refused n p
no_report_says m w k n p (not_allowed out) = grind (arith, nat_tests)
no_report_says m w k n p (no_outcome may out) = grind (arith, nat_tests)

same_reply : (r : Reply) (n p i j : ℕ) → r ≡ refused n p → r ≡ refused i j → (n ≡ i) × (p ≡ j)
same_reply r n p i j d e = (cc, cc)

-- an issue is refused as one number and at one place
pub issue_once : (m : Model) (a : Account) (ps : List ℕ) (n p i j : ℕ) → IssueRefused m a ps n p → IssueRefused m a ps i j → (n ≡ i) × (p ≡ j)
issue_once m a ps n p i j x y = same_reply (says m ps a.state a.windows) n p i j (refusal_says m a ps n p x) (refusal_says m a ps i j y)

-- and so is a report
pub report_once : (m : Model) (w : Airing) (k n p i j : ℕ) → ReportRefused m w k n p → ReportRefused m w k i j → (n ≡ i) × (p ≡ j)
report_once m w k n p i j x y = same_reply (report_reply m k w.account.state w.portfolio) n p i j (no_report_says m w k n p x) (no_report_says m w k i j y)

either : (r : Reply) (n p : ℕ) → r ≡ goes_on Issued → r ≡ refused n p → ⊥
either r n p d e = let z : ◌≡◌ {A = ℕ} 0 1 = cc in omega arith

-- what may be issued is not refused
pub issue_not_both : (m : Model) (a : Account) (ps : List ℕ) (n p : ℕ) → MayIssue m a ps → IssueRefused m a ps n p → ⊥
issue_not_both m a ps n p may not_done = either (says m ps a.state a.windows) n p (issue_says m a ps may) (refusal_says m a ps n p not_done)

-- and so is what may be reported
pub report_not_both : (m : Model) (w : Airing) (k n p : ℕ) → MayReport m w k → ReportRefused m w k n p → ⊥
report_not_both m w k n p may not_done =
    let done = report_says m w k may in
    let other = no_report_says m w k n p not_done in
    let z : ◌≡◌ {A = ℕ} 0 1 = cc in omega arith

-- what was reported may be
pub reported_may : (m : Model) (w : Airing) (k : ℕ) (a : Account) → Reported m w k a → MayReport m w k
reported_may m w k a told = by_test (m.feasible w.account.state w.portfolio) refl
  where
    by_test : (b : Bool) → m.feasible w.account.state w.portfolio ≡ b → MayReport m w k
    by_test true so = record { feasible = so; outcome = slice_get_within (outcomes_of m w.account.state w.portfolio) k told.outcome told.there }
    by_test false not_so =
        let none : slice_get (outcomes_of m w.account.state w.portfolio) k ≡ None = ap (λ b. slice_get (cond b (m.outcomes w.account.state w.portfolio) []) k) not_so in
        let z : ◌≡◌ {A = ℕ} 0 1 = cc in absurd (omega arith)

-- a refusal as exactly its number and its place
pub make_exactly : (m : Model) (s : ℕ) → m.states ≤ s → (n p : ℕ) → ((21 ≡ n) × (s ≡ p)) ↔ MakeRefused m s n p
make_exactly m s out n p = ((λ e. subst (λ i. MakeRefused m s i p) e.0 (subst (λ j. MakeRefused m s 21 j) e.1 (no_state out))), (λ r. once n p r))
  where
    once : (n p : ℕ) → MakeRefused m s n p → (21 ≡ n) × (s ≡ p)
    once n p (no_state other) = (refl, refl)

pub issue_exactly : (m : Model) (a : Account) (ps : List ℕ) (i j : ℕ) → IssueRefused m a ps i j → (n p : ℕ) → ((i ≡ n) × (j ≡ p)) ↔ IssueRefused m a ps n p
issue_exactly m a ps i j why n p =
    ((λ e. subst (λ k. IssueRefused m a ps k p) e.0 (subst (λ k. IssueRefused m a ps i k) e.1 why)), (λ r. issue_once m a ps i j n p why r))

pub report_exactly : (m : Model) (w : Airing) (k i j : ℕ) → ReportRefused m w k i j → (n p : ℕ) → ((i ≡ n) × (j ≡ p)) ↔ ReportRefused m w k n p
report_exactly m w k i j why n p =
    ((λ e. subst (λ z. ReportRefused m w k z p) e.0 (subst (λ z. ReportRefused m w k i z) e.1 why)), (λ r. report_once m w k i j n p why r))
