-- What each call needs to be known of the book that it makes.
use Rattle.std.proofs.Common.{◌≡◌, ℕ, ◌+◌, ◌<◌, ◌≤◌, true, false, Bool, cond, List, length, get_or, Some, None, ◌⊎◌, inl, inr, sym, refl, ap, ◌∙◌, subst, arith}
use Rattle.std.specs.List.{slice_get}
use Rattle.std.proofs.lemmas.Option.{slice_get_cases}
use Rattle.interface.specs.declared.plant.Bill.{Bill}
use Rattle.interface.specs.declared.plant.Outcome.{Outcome}
use Rattle.interface.specs.Plants.{Model, Lawful, named, bill_of, outcomes_of}
use Rattle.bookkeeping.specs.declared.stage.Stage.TheVariants.{Open, Issued, OnAir}
use Rattle.bookkeeping.specs.Books.{Account, Order, Airing, Book, opened, issued, on_air, airing, aired, moved, Bounded, Due}
use Rattle.bookkeeping.specs.Calls.{MayIssue, ordered, IssueRefused, infeasible, MayReport, Reported, ReportRefused, no_outcome}
use Rattle.bookkeeping.specs.Entries.{EntryOf}
use Rattle.bookkeeping.specs.Log.{issue, carry_out, report, goes_on, refused}
use Rattle.bookkeeping.specs.LookingBack.{Continues, GoesOn}
use Rattle.bookkeeping.specs.Pasts.{Event, Past, was_issued, issue_was_refused, was_carried_out, was_reported, report_was_refused}
use Rattle.bookkeeping.proofs.Keeping.{kept}
use Rattle.bookkeeping.proofs.Replies.{reported_may}

-- a past is kept
pub goes_on_so : (first : ℕ) (es : List Event) (b : Book) → Past first es b → GoesOn first es b
goes_on_so first es b past = (past, kept first es b past)

-- a bill that is there
bill_there : (m : Model) (s x : ℕ) (b : Bill) → bill_of m s x ≡ Some b → (m.feasible s x ≡ true) × (m.bill s x ≡ b)
bill_there m s x b e = by_test (m.feasible s x) refl e
  where
    by_test : (t : Bool) → m.feasible s x ≡ t → cond t (Some (m.bill s x)) None ≡ Some b → (m.feasible s x ≡ true) × (m.bill s x ≡ b)
    by_test true so there = (so, cc)
    by_test false so there = let z : ◌≡◌ {A = ℕ} 0 1 = cc in absurd (omega arith)

-- a bill that is absent
bill_absent : (m : Model) (s x : ℕ) → bill_of m s x ≡ None → m.feasible s x ≡ false
bill_absent m s x e = by_test (m.feasible s x) refl e
  where
    by_test : (t : Bool) → m.feasible s x ≡ t → cond t (Some (m.bill s x)) None ≡ None → m.feasible s x ≡ false
    by_test true so there = let z : ◌≡◌ {A = ℕ} 0 1 = cc in absurd (omega arith)
    by_test false so there = so

-- an entry that is feasible may be issued
entry_may : (m : Model) (a : Account) (ps : List ℕ) (x : ℕ) → EntryOf m a ps x → m.feasible a.state x ≡ true → MayIssue m a ps
entry_may m a ps x entry may = record {
  room = entry.room;
  state = entry.state;
  policy = entry.policy;
  feasible = ap (λ y. m.feasible a.state y) (sym entry.entry) ∙ may;
}

-- the order that is made
order_made : (m : Model) (a : Account) (ps : List ℕ) (x : ℕ) (b : Bill) → EntryOf m a ps x → bill_of m a.state x ≡ Some b
    → MayIssue m a ps × (ordered m a ps ≡ record { account = a; portfolio = x; bill = b })
order_made m a ps x b entry there =
    let bill = bill_there m a.state x b there in (
      entry_may m a ps x entry bill.0,
      ap (λ y. record { account = a; portfolio = y; bill = m.bill a.state y }) (sym entry.entry) ∙ ap (λ z. record { account = a; portfolio = x; bill = z }) bill.1,
    )

pub order_refused : (m : Model) (a : Account) (ps : List ℕ) (x : ℕ) → EntryOf m a ps x → bill_of m a.state x ≡ None → IssueRefused m a ps 22 a.state
order_refused m a ps x entry none =
    infeasible entry.room entry.state entry.policy (ap (λ y. m.feasible a.state y) (sym entry.entry) ∙ bill_absent m a.state x none)

-- a book keeps its bounds
due_issue : (m : Model) (a : Account) (ps : List ℕ) → Lawful m → Bounded a → MayIssue m a ps → Due (ordered m a ps)
due_issue m a ps lawful bounded may = record { bounded = bounded; room = may.room; bill = lawful.billed a.state (named ps a.state) may.feasible }

bounded_carry_out : (o : Order) → Due o → Bounded (aired o).account
bounded_carry_out o due = record {
  windows = omega (arith, due.room);
  seconds = omega (arith, due.bounded.seconds, due.bill.dark);
  cents = omega (arith, due.bounded.cents, due.bill.paid);
}

bounded_report : (m : Model) (w : Airing) (k : ℕ) (a : Account) → Bounded w.account → Reported m w k a → Bounded a
bounded_report m w k a bounded told =
    subst Bounded (sym told.moves) (record { windows = bounded.windows; seconds = bounded.seconds; cents = bounded.cents })

-- and whatever past led to it goes on
issue_goes_on : (m : Model) (a : Account) (ps : List ℕ) → Lawful m → MayIssue m a ps
    → Continues (opened a) (record { call = issue m ps; reply = goes_on Issued }) (issued (ordered m a ps))
issue_goes_on m a ps lawful may first es past = goes_on_so first _ _ (was_issued m ps past lawful may)

pub no_issue_goes_on : (m : Model) (a : Account) (ps : List ℕ) (n p : ℕ) → Lawful m → IssueRefused m a ps n p
    → Continues (opened a) (record { call = issue m ps; reply = refused n p }) (opened a)
no_issue_goes_on m a ps n p lawful why first es past = goes_on_so first _ _ (issue_was_refused m ps n p past lawful why)

carry_out_goes_on : (o : Order) → Continues (issued o) (record { call = carry_out; reply = goes_on OnAir }) (on_air (aired o))
carry_out_goes_on o first es past = goes_on_so first _ _ (was_carried_out past)

report_goes_on : (m : Model) (w : Airing) (k : ℕ) (a : Account) → Lawful m → Reported m w k a
    → Continues (on_air w) (record { call = report m k; reply = goes_on Open }) (opened a)
report_goes_on m w k a lawful told first es past = goes_on_so first _ _ (was_reported m k a past lawful told)

pub no_report_goes_on : (m : Model) (w : Airing) (k n p : ℕ) → Lawful m → ReportRefused m w k n p
    → Continues (on_air w) (record { call = report m k; reply = refused n p }) (on_air w)
no_report_goes_on m w k n p lawful why first es past = goes_on_so first _ _ (report_was_refused m k n p past lawful why)

-- an outcome that is there was reported, and may be
outcome_told : (m : Model) (w : Airing) (k : ℕ) (o : Outcome) → slice_get (outcomes_of m w.account.state w.portfolio) k ≡ Some o
    → Reported m w k (moved w.account o.next)
outcome_told m w k o there = record { outcome = o; there = there; moves = refl }

-- an outcome that is absent
pub outcome_absent : (m : Model) (w : Airing) (k : ℕ) → m.feasible w.account.state w.portfolio ≡ true
    → slice_get (outcomes_of m w.account.state w.portfolio) k ≡ None → ReportRefused m w k 23 k
outcome_absent m w k may none = no_outcome may (by_cases (slice_get_cases (outcomes_of m w.account.state w.portfolio) k).1)
  where
    by_cases : ((x : Outcome) × (k < length (outcomes_of m w.account.state w.portfolio)) × (slice_get (outcomes_of m w.account.state w.portfolio) k ≡ Some x) × (get_or (outcomes_of m w.account.state w.portfolio) k x ≡ x))
        ⊎ ((length (outcomes_of m w.account.state w.portfolio) ≤ k) × (slice_get (outcomes_of m w.account.state w.portfolio) k ≡ None))
        → length (outcomes_of m w.account.state w.portfolio) ≤ k
    by_cases (inl here) = let there = here.2 in let z : ◌≡◌ {A = ℕ} 0 1 = cc in absurd (omega arith)
    by_cases (inr past) = past.0

-- what is owed of an order that is made of an account
pub record OrderMade (m : Model) (a : Account) (ps : List ℕ) (o : Order) : Type 0 where
  pub due : Due o
  pub goes_on : Continues (opened a) (record { call = issue m ps; reply = goes_on Issued }) (issued o)

pub order_book : (m : Model) (a v : Account) (ps : List ℕ) (x : ℕ) (b : Bill) → Lawful m → v ≡ a → Bounded v → EntryOf m a ps x
    → bill_of m a.state x ≡ Some b → OrderMade m a ps (record { account = v; portfolio = x; bill = b })
order_book m a v ps x b lawful same bounded entry there =
    let made = order_made m a ps x b entry there in
    let value = made.1 ∙ ap (λ z. record { account = z; portfolio = x; bill = b }) (sym same) in
    subst (OrderMade m a ps) value (record {
      due = due_issue m a ps lawful (subst Bounded same bounded) made.0;
      goes_on = issue_goes_on m a ps lawful made.0;
    })

-- what is owed of a window that is carried out
pub record CarriedOut (o : Order) (w : Airing) : Type 0 where
  pub bounded : Bounded w.account
  pub goes_on : Continues (issued o) (record { call = carry_out; reply = goes_on OnAir }) (on_air w)

pub carry_out_book : (o v : Order) (t c : ℕ) → v ≡ o → t ≡ v.bill.seconds → c ≡ v.bill.cents → Due v
    → CarriedOut o (airing v.account.state (v.account.windows + 1) (v.account.seconds + t) (v.account.cents + c) v.portfolio)
carry_out_book o v t c same seconds cents due =
    let value = ap (λ z. airing v.account.state (v.account.windows + 1) (v.account.seconds + z) (v.account.cents + c) v.portfolio) seconds
    ∙ ap (λ z. airing v.account.state (v.account.windows + 1) (v.account.seconds + v.bill.seconds) (v.account.cents + z) v.portfolio) cents
    ∙ ap aired same in
    subst (CarriedOut o) (sym value) (record { bounded = bounded_carry_out o (subst Due same due); goes_on = carry_out_goes_on o })

-- what is owed of an outcome that is reported
pub record OutcomeMade (m : Model) (w : Airing) (k : ℕ) (a : Account) : Type 0 where
  pub told : Reported m w k a
  pub may : MayReport m w k
  pub bounded : Bounded a
  pub goes_on : Continues (on_air w) (record { call = report m k; reply = goes_on Open }) (opened a)

pub outcome_book : (m : Model) (w v : Airing) (k : ℕ) (o : Outcome) → Lawful m → v ≡ w → Bounded v.account
    → slice_get (outcomes_of m w.account.state w.portfolio) k ≡ Some o → OutcomeMade m w k (moved v.account o.next)
outcome_book m w v k o lawful same bounded there =
    let told = outcome_told m w k o there in
    subst (λ z. OutcomeMade m w k (moved z.account o.next)) (sym same) (record {
      told = told;
      may = reported_may m w k (moved w.account o.next) told;
      bounded = bounded_report m w k (moved w.account o.next) (subst (λ z. Bounded z.account) same bounded) told;
      goes_on = report_goes_on m w k (moved w.account o.next) lawful told;
    })
