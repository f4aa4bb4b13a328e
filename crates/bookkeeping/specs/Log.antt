-- The log of a book, which goes by its notes alone.
use Rattle.std.specs.Prelude.{◌≡◌, ℕ, List, [], ◌∷◌, length, Option, Some, None, ◌==◌, nat_lt, nat_le, if◌then◌else◌, slice_get, sum_by, option_map}
use Rattle.interface.specs.Limits.{most_windows}
use Rattle.interface.specs.Plants.{Model, named, outcomes_of}
use Rattle.interface.specs.declared.plant.Outcome.{Outcome}
use Rattle.bookkeeping.specs.declared.stage.Stage.{Stage}
use Rattle.bookkeeping.specs.declared.stage.Stage.TheVariants.{Open, Issued, OnAir}
use Rattle.bookkeeping.specs.Books.{Book, opened, issued, on_air, account_of, held_by}

-- One window that was carried out: the plant beside which it was ordered, the state, and the portfolio.
pub record Note : Type 0 where
  pub plant : Model
  pub state : ℕ
  pub portfolio : ℕ

-- The stage, the state, what is held until its report, and the notes, the newest first.
pub record Log : Type 0 where
  pub stage : Stage
  pub state : ℕ
  pub held : Option Note
  pub notes : List Note

-- A log starts in a state with no notes.
abbrev pub start : ℕ → Log
start s = record { stage = Open; state = s; held = None; notes = [] }

-- What is asked of a book. Orders and reports are each beside a plant.
pub data Call : Type 0 where
  issue : Model → List ℕ → Call
  carry_out : Call
  report : Model → ℕ → Call

-- What it is told: the next stage, or the number and the place of the refusal.
pub data Reply : Type 0 where
  goes_on : Stage → Reply
  refused : ℕ → ℕ → Reply

-- What an issue is told of a policy's entry for a state.
abbrev pub entry_reply : Model → ℕ → ℕ → Reply
entry_reply m s x = if m.feasible s x then goes_on Issued else refused 22 s

-- What an issue is told.
abbrev pub issue_reply : Model → List ℕ → Log → Reply
issue_reply m ps l =
    if nat_le most_windows (length l.notes) then refused 24 0
    else if nat_le m.states l.state then refused 21 l.state
    else if length ps == m.states then entry_reply m l.state (named ps l.state)
    else refused 7 0

-- What a report is told, of a portfolio that is held.
abbrev pub report_reply : Model → ℕ → ℕ → ℕ → Reply
report_reply m k s x =
    if m.feasible s x then (if nat_lt k (length (outcomes_of m s x)) then goes_on Open else refused 23 k)
    else refused 21 s

-- What the log answers to a call: nothing where the call does not fit the stage.
abbrev pub reply_at : Stage → Option Note → Log → Call → Option Reply
reply_at Open h l (issue m ps) = Some (issue_reply m ps l)
reply_at Issued (Some held) l carry_out = Some (goes_on OnAir)
reply_at OnAir (Some held) l (report m k) = Some (report_reply m k l.state held.portfolio)
reply_at s h l c = None

abbrev pub reply : Log → Call → Option Reply
reply l c = reply_at l.stage l.held l c

-- How the log goes on after a call that is not refused. An order is held: the plant, the state and the policy's entry for it.
-- Carried out, it is a note. When its outcome is told, the log stands where that outcome leads and holds nothing.
abbrev pub went_on : Log → Call → Log
went_on l (issue m ps) =
    let note : Note = record { plant = m; state = l.state; portfolio = named ps l.state } in
    record { stage = Issued; state = l.state; held = Some note; notes = l.notes }
went_on l carry_out = record { stage = OnAir; state = l.state; held = l.held; notes = with_held l.held l.notes }
  where
    with_held : Option Note → List Note → List Note
    with_held None notes = notes
    with_held (Some held) notes = held ∷ notes
went_on l (report m k) = record { stage = Open; state = next_state m k l.state l.held; held = None; notes = l.notes }
  where
    next_of : ℕ → Option Outcome → ℕ
    next_of s None = s
    next_of s (Some o) = o.next

    next_state : Model → ℕ → ℕ → Option Note → ℕ
    next_state m k s None = s
    next_state m k s (Some held) = next_of s (slice_get (outcomes_of m s held.portfolio) k)

-- A refusal changes nothing, nor does a call that does not fit.
abbrev pub after_reply : Log → Call → Option Reply → Log
after_reply l c (Some (goes_on s)) = went_on l c
after_reply l c (Some (refused n p)) = l
after_reply l c None = l

abbrev pub after : Log → Call → Log
after l c = after_reply l c (reply l c)

-- The bills of the noted windows, added up.
abbrev pub noted_seconds : List Note → ℕ
noted_seconds notes = sum_by (λ n. (n.plant.bill n.state n.portfolio).seconds) notes

abbrev pub noted_cents : List Note → ℕ
noted_cents notes = sum_by (λ n. (n.plant.bill n.state n.portfolio).cents) notes

abbrev pub stage_of : Book → Stage
stage_of (opened a) = Open
stage_of (issued o) = Issued
stage_of (on_air w) = OnAir

-- A book shows what its log says: where it stands and what it holds, as many windows as there are notes, and the bills of these
-- added up.
pub record Agrees (l : Log) (b : Book) : Type 0 where
  pub stage : stage_of b ≡ l.stage
  pub state : (account_of b).state ≡ l.state
  pub held : held_by b ≡ option_map (λ n. n.portfolio) l.held
  pub windows : (account_of b).windows ≡ length l.notes
  pub seconds : (account_of b).seconds ≡ noted_seconds l.notes
  pub cents : (account_of b).cents ≡ noted_cents l.notes
