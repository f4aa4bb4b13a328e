-- How a book goes through a list window by window, and what a following that ended so says.
use Rattle.std.proofs.Common.{◌≡◌, ℕ, zero, suc, ◌+◌, ◌<◌, ◌≤◌, ◌↔◌, true, List, [], ◌∷◌, length, take, get_or, Option, Some, sym, refl, ap, ◌∙◌, subst, arith}
use Rattle.std.specs.Prelude.{IsNone}
use Rattle.std.proofs.lemmas.Option.{slice_get_within}
use Rattle.interface.specs.Limits.{most_windows}
use Rattle.interface.specs.Plants.{Model, Lawful, named, outcomes_of}
use Rattle.bookkeeping.specs.declared.refusal.Refusal.{Refusal}
use Rattle.bookkeeping.specs.Books.{Account, Airing, Book, opened, on_air, moved, aired}
use Rattle.bookkeeping.specs.Calls.{MayIssue, ordered, IssueRefused, full, no_state, wrong_length, infeasible, Reported, ReportRefused, not_allowed, no_outcome}
use Rattle.bookkeeping.specs.Pasts.{Event, Past, was_issued, issue_was_refused, was_carried_out, was_reported, report_was_refused}
use Rattle.bookkeeping.specs.Refusals.{number_of, place_of}
use Rattle.bookkeeping.proofs.Keeping.{kept}
use Rattle.following.specs.Promises.{Policies, always, GoesThrough}
use Rattle.following.specs.Endings.{WentThrough, WindowRefused, not_issued, not_reported, Ends, through, stopped, CanGo, windows, last_calls, calls, Follows}
use Rattle.following.proofs.Charging.{run, gone, goes}

-- one window more
pub one_more : (m : Model) (ps : List ℕ) (j : ℕ) (a : Account) (ks : List ℕ) (i : ℕ) (b c : Account) → i < length ks
    → GoesThrough m (always ps) j a (take i ks) b → WentThrough m ps b (get_or ks i 0) c → GoesThrough m (always ps) j a (take (suc i) ks) c
one_more m ps j a [] i b c l h w = absurd (omega arith)
one_more m ps j a (k ∷ ks) zero b c l h w = let v = subst (λ z. WentThrough m ps z k c) h w in (v.may, c, v.reported, refl)
one_more m ps j a (k ∷ ks) (suc i) b c l h w = (h.0, h.1, h.2, one_more m ps (suc j) h.1 ks i b c (omega arith) h.3 w)

pub take_whole : (ks : List ℕ) → take (length ks) ks ≡ ks
take_whole [] = refl
take_whole (k ∷ ks) = ap (λ z. k ∷ z) (take_whole ks)

-- what goes through whole goes through at each of its windows
record Goes (m : Model) (ps : List ℕ) (a : Account) (k : ℕ) : Type 0 where
  next : Account
  went : WentThrough m ps a k next

goes_at : (m : Model) (ps : List ℕ) (j : ℕ) (a : Account) (ks : List ℕ) (z : Account) (i : ℕ) (b : Account) → i < length ks
    → GoesThrough m (always ps) j a ks z → GoesThrough m (always ps) j a (take i ks) b → Goes m ps b (get_or ks i 0)
goes_at m ps j a [] z i b l h g = absurd (omega arith)
goes_at m ps j a (k ∷ ks) z zero b l h g = subst (λ y. Goes m ps y k) (sym g) (record { next = h.1; went = record { may = h.0; reported = h.2 } })
goes_at m ps j a (k ∷ ks) z (suc i) b l h g =
    let o = (h.2).outcome in
    let p = (g.2).outcome in
    let e : o ≡ p = cc ((h.2).there, (g.2).there) in
    let same : h.1 ≡ g.1 = (h.2).moves ∙ ap (λ q. moved (aired (ordered m a ps)).account q.next) e ∙ sym (g.2).moves in
    goes_at m ps (suc j) g.1 ks z i b (omega arith) (subst (λ y. GoesThrough m (always ps) (suc j) y ks z) same h.3) g.3

-- what goes through had room for each window
had_room : (m : Model) (ps : Policies) (j : ℕ) (a : Account) (ks : List ℕ) (b : Account) → a.windows ≤ most_windows → GoesThrough m ps j a ks b
    → a.windows + length ks ≤ most_windows
had_room m ps j a [] b few h = omega (arith, few)
had_room m ps j a (k ∷ ks) b few h =
    let c = h.1 in
    let more : c.windows ≡ a.windows + 1 = ap (λ z. z.windows) (h.2).moves in
    let rest = had_room m ps (suc j) c ks b (omega (arith, more, (h.0).room)) h.3 in
    omega (arith, more, rest)

-- an order that may be issued is not refused, nor a report that is one
no_order_refused : (m : Model) (a : Account) (ps : List ℕ) (n p : ℕ) → MayIssue m a ps → IssueRefused m a ps n p → ⊥
no_order_refused m a ps n p may (full h) = omega (arith, may.room)
no_order_refused m a ps n p may (no_state h g) = omega (arith, may.state)
no_order_refused m a ps n p may (wrong_length h g e) = e may.policy
no_order_refused m a ps n p may (infeasible h g e f) = let z : ◌≡◌ {A = ℕ} 0 1 = cc (may.feasible, f) in omega (arith, z)

no_outcome_refused : (m : Model) (w : Airing) (k n p : ℕ) (b : Account) → m.feasible w.account.state w.portfolio ≡ true → Reported m w k b → ReportRefused m w k n p → ⊥
no_outcome_refused m w k n p b f h (not_allowed e) = let z : ◌≡◌ {A = ℕ} 0 1 = cc (f, e) in omega (arith, z)
no_outcome_refused m w k n p b f h (no_outcome e l) = let t = slice_get_within (outcomes_of m w.account.state w.portfolio) k h.outcome h.there in omega (arith, t, l)

not_refused : (m : Model) (ps : List ℕ) (a : Account) (k : ℕ) (c : Book) (r : Refusal) → Goes m ps a k → WindowRefused m ps a k c r → ⊥
not_refused m ps a k c r g (not_issued h) = no_order_refused m a ps _ _ (g.went).may h
not_refused m ps a k c r g (not_reported may h) = no_outcome_refused m (aired (ordered m a ps)) k _ _ g.next (g.went).may.feasible (g.went).reported h

-- what was refused, as the calls of a book say it
pub order_refused : (m : Model) (ps : List ℕ) (a b : Account) (k : ℕ) (r : Refusal) → b ≡ a → IssueRefused m a ps (number_of r) (place_of r) → WindowRefused m ps a k (opened b) r
order_refused m ps a b k r e h = subst (λ z. WindowRefused m ps a k (opened z) r) (sym e) (not_issued h)

pub outcome_refused : (m : Model) (ps : List ℕ) (a : Account) (w : Airing) (k : ℕ) (r : Refusal) → w ≡ aired (ordered m a ps) → MayIssue m a ps
    → ReportRefused m (aired (ordered m a ps)) k (number_of r) (place_of r) → WindowRefused m ps a k (on_air w) r
outcome_refused m ps a w k r e may h = subst (λ z. WindowRefused m ps a k (on_air z) r) (sym e) (not_reported may h)

module _ (m : Model) (ps : List ℕ) (a : Account) (ks : List ℕ) where
  pub all_or_not : (n : ℕ) (b : Book) (o : Option Refusal) → Ends m ps a ks n b o → IsNone o ↔ (n ≡ length ks)
  all_or_not n b o (through h) = (λ e. refl, λ e. refl)
  all_or_not n b o (stopped l h w) = (λ e. let z : ◌≡◌ {A = ℕ} 0 1 = cc in absurd (omega (arith, z)), λ e. absurd (omega (arith, l, e)))

  goes_whole : Lawful m → length ps ≡ m.states → ((s : ℕ) → s < m.states → m.feasible s (named ps s) ≡ true) → CanGo m ps a ks
      → (n : ℕ) (b : Book) (o : Option Refusal) → Ends m ps a ks n b o → IsNone o
  goes_whole lawful long feasible can n b o (through h) = refl
  goes_whole lawful long feasible can n b o (stopped {b = c} {r = r} l h w) =
      let all = goes m lawful (always ps) (λ j. long) (λ j. feasible) ks [] a can.state can.room can.meets in
      absurd (not_refused m ps c (get_or ks n 0) b r (goes_at m ps 0 a ks (run m (always ps) 0 a ks) n c l all h) w)

  -- and so exactly such a list goes through whole
  pub whole_exactly : Lawful m → length ps ≡ m.states → ((s : ℕ) → s < m.states → m.feasible s (named ps s) ≡ true) → a.state < m.states → a.windows ≤ most_windows
      → (n : ℕ) (b : Book) (o : Option Refusal) → Ends m ps a ks n b o → IsNone o ↔ CanGo m ps a ks
  whole_exactly lawful long feasible inside few n b o ends = (went n b o ends, λ can. goes_whole lawful long feasible can n b o ends)
    where
      went : (n : ℕ) (b : Book) (o : Option Refusal) → Ends m ps a ks n b o → IsNone o → CanGo m ps a ks
      went n b o (through {b = c} h) e = record {
        state = inside;
        room = had_room m (always ps) 0 a ks c few h;
        meets = (gone m lawful (always ps) ks [] a c h).0;
      }
      went n b o (stopped l h w) e = let z : ◌≡◌ {A = ℕ} 0 1 = cc in absurd (omega (arith, z))

  module _ (lawful : Lawful m) (first : ℕ) where
    windows_past : (j : ℕ) (d : Account) (ls : List ℕ) (b : Account) (es : List Event) → GoesThrough m (always ps) j d ls b → Past first es (opened d)
        → Past first (windows m ps ls es) (opened b)
    windows_past j d [] b es h past = subst (λ z. Past first es (opened z)) (sym h) past
    windows_past j d (k ∷ ls) b es h past =
        windows_past (suc j) h.1 ls b _ h.3 (was_reported m k h.1 (was_carried_out (was_issued m ps past lawful h.0)) lawful h.2)

    refused_past : (b : Account) (k : ℕ) (c : Book) (r : Refusal) (es : List Event) → WindowRefused m ps b k c r → Past first es (opened b)
        → Past first (last_calls m ps k c (Some r) es) c
    refused_past b k c r es (not_issued h) past = issue_was_refused m ps (number_of r) (place_of r) past lawful h
    refused_past b k c r es (not_reported may h) past = report_was_refused m k (number_of r) (place_of r) (was_carried_out (was_issued m ps past lawful may)) lawful h

    past_on : (n : ℕ) (b : Book) (o : Option Refusal) (es : List Event) → Ends m ps a ks n b o → Past first es (opened a) → Past first (calls m ps ks n b o es) b
    past_on n b o es (through {b = c} h) past = windows_past 0 a (take (length ks) ks) c es (subst (λ ls. GoesThrough m (always ps) 0 a ls c) (sym (take_whole ks)) h) past
    past_on n b o es (stopped {b = c} {r = r} l h w) past =
        refused_past c (get_or ks n 0) b r (windows m ps (take n ks) es) w (windows_past 0 a (take n ks) c es h past)

  pub follows : Lawful m → (n : ℕ) (b : Book) (o : Option Refusal) → Ends m ps a ks n b o → Follows m ps a ks n b o
  follows lawful n b o h first es past =
      let on = past_on lawful first n b o es h past in
      (on, kept first (calls m ps ks n b o es) b on)
