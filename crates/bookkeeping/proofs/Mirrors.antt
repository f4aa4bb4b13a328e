-- What the log of a past says, stage by stage, of its book and of the window that is held.
use Rattle.std.proofs.Common.{◌≡◌, ℕ, List, ◌∷◌, length, Option, Some, None, sym, refl, ap, ◌∙◌, subst, arith}
use Rattle.std.specs.List.{slice_get}
use Rattle.std.proofs.lemmas.List.Sums.{sum_by-cons}
use Rattle.interface.specs.Plants.{Model, Lawful, named, outcomes_of}
use Rattle.bookkeeping.specs.declared.stage.Stage.TheVariants.{Open, Issued, OnAir}
use Rattle.bookkeeping.specs.Books.{Account, Order, Airing, Book, opened, issued, on_air, booked, aired}
use Rattle.bookkeeping.specs.Calls.{MayIssue, IssueRefused, ordered, Reported, ReportRefused}
use Rattle.bookkeeping.specs.Log.{Note, Log, Call, issue, carry_out, report, Reply, goes_on, refused, reply, after, after_reply, report_reply, noted_seconds, noted_cents}
use Rattle.bookkeeping.specs.LookingBack.{Allowed, Ending, Trail}
use Rattle.bookkeeping.proofs.Replies.{says, issue_says, refusal_says, report_says, no_report_says, reported_may}

-- an account's numbers are those of the notes
pub record Sums (a : Account) (ws : List Note) : Type 0 where
  pub windows : a.windows ≡ length ws
  pub seconds : a.seconds ≡ noted_seconds ws
  pub cents : a.cents ≡ noted_cents ws

-- the log of an open book
pub record Free (first : ℕ) (l : Log) (es : List Ending) (a : Account) : Type 0 where
  pub notes : List Note
  pub is : l ≡ record { stage = Open; state = a.state; held = None; notes = notes }
  pub sums : Sums a notes
  pub trail : Trail first notes es a.state

-- the log of an issued book
pub record Out (first : ℕ) (l : Log) (es : List Ending) (o : Order) : Type 0 where
  pub notes : List Note
  pub window : Note
  pub is : l ≡ record { stage = Issued; state = o.account.state; held = Some window; notes = notes }
  pub state : window.state ≡ o.account.state
  pub portfolio : window.portfolio ≡ o.portfolio
  pub allowed : Allowed window
  pub bill : window.plant.bill window.state window.portfolio ≡ o.bill
  pub sums : Sums o.account notes
  pub trail : Trail first notes es o.account.state

-- the log of a book on air
pub record Flying (first : ℕ) (l : Log) (es : List Ending) (w : Airing) : Type 0 where
  pub notes : List Note
  pub window : Note
  pub is : l ≡ record { stage = OnAir; state = w.account.state; held = Some window; notes = window ∷ notes }
  pub state : window.state ≡ w.account.state
  pub portfolio : window.portfolio ≡ w.portfolio
  pub allowed : Allowed window
  pub sums : Sums w.account (window ∷ notes)
  pub trail : Trail first notes es window.state

abbrev pub Mirrors : ℕ → Log → List Ending → Book → Type 0
Mirrors first l es (opened a) = Free first l es a
Mirrors first l es (issued o) = Out first l es o
Mirrors first l es (on_air w) = Flying first l es w

-- what an open book's log answers to an issue
answers_issue : (first : ℕ) (l : Log) (es : List Ending) (a : Account) (m : Model) (ps : List ℕ) (r : Reply) → Free first l es a → says m ps a.state a.windows ≡ r → reply l (issue m ps) ≡ Some r
answers_issue first l es a m ps r free e =
    ap (λ z. reply z (issue m ps)) free.is ∙ ap {B = Option Reply} (λ n. Some (says m ps a.state n)) (sym free.sums.windows) ∙ ap {B = Option Reply} Some e

-- what the log of a book on air answers to a report
answers_report : (first : ℕ) (l : Log) (es : List Ending) (w : Airing) (m : Model) (k : ℕ) (r : Reply) → Flying first l es w → report_reply m k w.account.state w.portfolio ≡ r → reply l (report m k) ≡ Some r
answers_report first l es w m k r flying e =
    ap (λ z. reply z (report m k)) flying.is ∙ ap {B = Option Reply} (λ x. Some (report_reply m k w.account.state x)) flying.portfolio ∙ ap {B = Option Reply} Some e

-- one step: the reply is the log's, and the log goes on as the book does
pub record Stepped (first : ℕ) (l : Log) (c : Call) (r : Reply) (es : List Ending) (b : Book) : Type 0 where
  pub answered : reply l c ≡ Some r
  pub mirrors : Mirrors first (after l c) es b

pub issue_done : (first : ℕ) (l : Log) (es : List Ending) (a : Account) (m : Model) (ps : List ℕ) → Free first l es a → Lawful m → MayIssue m a ps → Stepped first l (issue m ps) (goes_on Issued) es (issued (ordered m a ps))
issue_done first l es a m ps free lawful may =
    let told = answers_issue first l es a m ps (goes_on Issued) free (issue_says m a ps may) in
    record {
      answered = told;
      mirrors = record {
        notes = free.notes;
        window = record { plant = m; state = a.state; portfolio = named ps a.state };
        is = ap (λ z. after_reply l (issue m ps) z) told ∙ ap (λ z. after_reply z (issue m ps) (Some (goes_on Issued))) free.is;
        state = refl;
        portfolio = refl;
        allowed = record { lawful = lawful; feasible = may.feasible };
        bill = refl;
        sums = free.sums;
        trail = free.trail;
      };
    }

pub issue_not_done : (first : ℕ) (l : Log) (es : List Ending) (a : Account) (m : Model) (ps : List ℕ) (n p : ℕ) → Free first l es a → IssueRefused m a ps n p → Stepped first l (issue m ps) (refused n p) es (opened a)
issue_not_done first l es a m ps n p free why =
    let told = answers_issue first l es a m ps (refused n p) free (refusal_says m a ps n p why) in
    record {
      answered = told;
      mirrors = record { notes = free.notes; is = ap (λ z. after_reply l (issue m ps) z) told ∙ free.is; sums = free.sums; trail = free.trail };
    }

-- one window more
sums_more : (a : Account) (o : Order) (n : Note) (ws : List Note) → Sums o.account ws → n.plant.bill n.state n.portfolio ≡ o.bill → Sums (booked o.account o.bill) (n ∷ ws)
sums_more a o n ws sums bill = record {
  windows = omega (arith, sums.windows);
  seconds = omega (arith, sums.seconds, ap (λ b. b.seconds) bill, sum_by-cons (λ (w : Note). (w.plant.bill w.state w.portfolio).seconds) n ws);
  cents = omega (arith, sums.cents, ap (λ b. b.cents) bill, sum_by-cons (λ (w : Note). (w.plant.bill w.state w.portfolio).cents) n ws);
}

pub carried_out : (first : ℕ) (l : Log) (es : List Ending) (o : Order) → Out first l es o → Stepped first l carry_out (goes_on OnAir) es (on_air (aired o))
carried_out first l es o out = record {
  answered = ap (λ z. reply z carry_out) out.is;
  mirrors = record {
    notes = out.notes;
    window = out.window;
    is = ap (λ z. after z carry_out) out.is;
    state = out.state;
    portfolio = out.portfolio;
    allowed = out.allowed;
    sums = sums_more o.account o out.window out.notes out.sums out.bill;
    trail = subst (Trail first out.notes es) (sym out.state) out.trail;
  };
}

pub reported : (first : ℕ) (l : Log) (es : List Ending) (w : Airing) (m : Model) (k : ℕ) (a : Account) → Flying first l es w → Lawful m → Reported m w k a → Stepped first l (report m k) (goes_on Open) (record { plant = m; number = k } ∷ es) (opened a)
reported first l es w m k a flying lawful told =
    let reply_is = answers_report first l es w m k (goes_on Open) flying (report_says m w k (reported_may m w k a told)) in
    let there : slice_get (outcomes_of m w.account.state flying.window.portfolio) k ≡ Some told.outcome =
    ap (λ x. slice_get (outcomes_of m w.account.state x) k) flying.portfolio ∙ told.there in
    let from_window : slice_get (outcomes_of m flying.window.state flying.window.portfolio) k ≡ Some told.outcome =
    ap (λ s. slice_get (outcomes_of m s flying.window.portfolio) k) flying.state ∙ there in
    subst (λ z. Stepped first l (report m k) (goes_on Open) (record { plant = m; number = k } ∷ es) (opened z)) (sym told.moves) (record {
      answered = reply_is;
      mirrors = record {
        notes = flying.window ∷ flying.notes;
        is = ap (λ z. after_reply l (report m k) z) reply_is ∙ ap (λ z. after_reply z (report m k) (Some (goes_on Open))) flying.is ∙ rw there refl;
        sums = record { windows = flying.sums.windows; seconds = flying.sums.seconds; cents = flying.sums.cents };
        trail = (flying.allowed, record { lawful = lawful; outcome = told.outcome; there = from_window; next = refl }, flying.trail);
      };
    })

pub not_reported : (first : ℕ) (l : Log) (es : List Ending) (w : Airing) (m : Model) (k n p : ℕ) → Flying first l es w → ReportRefused m w k n p → Stepped first l (report m k) (refused n p) es (on_air w)
not_reported first l es w m k n p flying why =
    let told = answers_report first l es w m k (refused n p) flying (no_report_says m w k n p why) in
    record {
      answered = told;
      mirrors = record {
        notes = flying.notes;
        window = flying.window;
        is = ap (λ z. after_reply l (report m k) z) told ∙ flying.is;
        state = flying.state;
        portfolio = flying.portfolio;
        allowed = flying.allowed;
        sums = flying.sums;
        trail = flying.trail;
      };
    }
