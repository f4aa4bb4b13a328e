-- What one more question and its answer add to a service.
use Rattle.std.proofs.Common.{◌≡◌, ℕ, suc, ◌<◌, ◌≤◌, List, [], ◌∷◌, ◌++◌, length, Option, Some, None, refl, sym, ap, ◌∙◌, subst}
use Rattle.std.proofs.lemmas.List.{append-nil}
use Rattle.std.proofs.lemmas.List.Elements.{All-nil, All-cons}
use Rattle.interface.specs.Plants.{Model}
use Rattle.bookkeeping.specs.declared.stage.Stage.TheVariants.{Open}
use Rattle.bookkeeping.specs.Books.{Account, Book, opened, issued, on_air, fresh, aired, account_of, held_by}
use Rattle.bookkeeping.specs.Calls.{MakeRefused, no_state, MayIssue, ordered, Reported}
use Rattle.bookkeeping.specs.Log.{Log, Call, Reply, goes_on, refused, Agrees, noted_seconds, noted_cents}
use Rattle.bookkeeping.specs.LookingBack.{GoesOn, Continues}
use Rattle.bookkeeping.specs.Pasts.{Event, Past, made, was_issued, issue_was_refused, was_carried_out, was_reported, report_was_refused, log_of}
use Rattle.following.specs.Promises.{GoesThrough, always}
use Rattle.service.specs.Services.{Turn, asks, tells, Shown, shown, shown_by, IsBy, AllBy, to_make, ask_of, outcomes_in, WentBy, NoneMade, InService}

abbrev show : ℕ → ℕ → ℕ → ℕ → Option ℕ → Shown
show s w d c h = record { account = record { state = s; windows = w; seconds = d; cents = c }; held = h }

-- what a book shows is what its log shows
shown_is : (l : Log) (b : Book) → Agrees l b → shown b ≡ shown_by l
shown_is l b agrees =
    let a = account_of b in
    let h = held_by b in
    let ws = length l.notes in
    ap (λ (z : ℕ). show z a.windows a.seconds a.cents h) agrees.state
    ∙ ap (λ (z : ℕ). show l.state z a.seconds a.cents h) agrees.windows
    ∙ ap (λ (z : ℕ). show l.state ws z a.cents h) agrees.seconds
    ∙ ap (λ (z : ℕ). show l.state ws (noted_seconds l.notes) z h) agrees.cents
    ∙ ap (λ (z : Option ℕ). show l.state ws (noted_seconds l.notes) (noted_cents l.notes) z) agrees.held

-- one window more
through_more : (m : Model) (ps : List ℕ) (j : ℕ) (a b c : Account) (ks : List ℕ) (k : ℕ) → GoesThrough m (always ps) j a ks b → MayIssue m b ps
    → Reported m (aired (ordered m b ps)) k c → GoesThrough m (always ps) j a (ks ++ k ∷ []) c
through_more m ps j a b c [] k is may told =
    (subst (λ z. MayIssue m z ps) is may, c, subst (λ z. Reported m (aired (ordered m z ps)) k c) is told, refl)
through_more m ps j a b c (x ∷ ks) k went may told = (went.0, went.1, went.2, through_more m ps (suc j) went.1 b c ks k went.3 may told)

-- a book whose orders all go by a policy beside one plant goes through the outcomes that were reported
pub went_by : (m : Model) (ps : List ℕ) (first : ℕ) (es : List Event) (b : Book) → Past first es b → AllBy m ps es → WentBy m ps first (outcomes_in es) b
went_by m ps first es b (made p lawful inside) by = refl
went_by m ps first es b (was_issued {es = earlier} {a = a} p qs before lawful may) by =
    let so_far = went_by m ps first earlier (opened a) before by.1 in
    let ks = outcomes_in earlier in
    let same : MayIssue m a ps = subst (λ z. MayIssue m a z) by.0.1 (subst (λ z. MayIssue z a qs) by.0.0 may) in
    let order = ap (λ z. ordered z a qs) by.0.0 ∙ ap (ordered m a) by.0.1 in
    subst (λ z. WentBy m ps first z (issued (ordered p a qs))) (sym (append-nil ks)) (a, so_far, same, order)
went_by m ps first es b (issue_was_refused {es = earlier} {a = a} p qs n q before lawful why) by =
    subst (λ z. WentBy m ps first z (opened a)) (sym (append-nil (outcomes_in earlier))) (went_by m ps first earlier (opened a) before by.1)
went_by m ps first es b (was_carried_out {es = earlier} {o = o} before) by =
    let so_far = went_by m ps first earlier (issued o) before by.1 in
    subst (λ z. WentBy m ps first z (on_air (aired o))) (sym (append-nil (outcomes_in earlier))) (so_far.0, so_far.1, so_far.2, ap aired so_far.3)
went_by m ps first es b (was_reported {es = earlier} {w = w} p k a before lawful told) by =
    let so_far = went_by m ps first earlier (on_air w) before by.1 in
    let here : Reported m (aired (ordered m so_far.0 ps)) k a = subst (λ z. Reported m z k a) so_far.3 (subst (λ z. Reported z w k a) by.0 told) in
    through_more m ps 0 (fresh first) so_far.0 a (outcomes_in earlier) k so_far.1 so_far.2 here
went_by m ps first es b (report_was_refused {es = earlier} {w = w} p k n q before lawful why) by =
    subst (λ z. WentBy m ps first z (on_air w)) (sym (append-nil (outcomes_in earlier))) (went_by m ps first earlier (on_air w) before by.1)

pub none_yet : (m : Model) (from : List Turn) → NoneMade m from from
none_yet m from = record { unknown = []; none_known = All-nil (λ s. m.states ≤ s); turns = refl }

-- one more state that the plant does not have
pub one_more : (m : Model) (from to now : List Turn) (s : ℕ) → NoneMade m from to → m.states ≤ s
    → now ≡ tells (record { reply = refused 21 s; shown = None }) ∷ asks (to_make s) ∷ to → NoneMade m from now
one_more m from to now s none out turn = record {
  unknown = s ∷ none.unknown;
  none_known = All-cons (λ n. m.states ≤ n) s none.unknown out none.none_known;
  turns = turn ∙ ap (λ z. tells (record { reply = refused 21 s; shown = None }) ∷ asks (to_make s) ∷ z) none.turns;
}

-- a book was made
pub first_book : (m : Model) (ps : List ℕ) (from to now : List Turn) (s : ℕ) → NoneMade m from to → s < m.states → GoesOn s [] (opened (fresh s))
    → now ≡ tells (record { reply = goes_on Open; shown = Some (shown (opened (fresh s))) }) ∷ asks (to_make s) ∷ to → InService m ps from now (opened (fresh s))
first_book m ps from to now s none inside past turn = record {
  unmade = to;
  none_made = none;
  first = s;
  known = inside;
  events = [];
  past = past;
  by = tt;
  turns = turn;
  went = refl;
}

-- a call was asked and answered
pub one_call : (m : Model) (ps : List ℕ) (from to now : List Turn) (b d : Book) (c : Call) (r : Reply) → InService m ps from to b
    → IsBy m ps c → Continues b (record { call = c; reply = r }) d
    → now ≡ tells (record { reply = r; shown = Some (shown d) }) ∷ asks (ask_of c) ∷ to → InService m ps from now d
one_call m ps from to now b d c r so_far by goes turn =
    let e : Event = record { call = c; reply = r } in
    let es = e ∷ so_far.events in
    let past = goes so_far.first so_far.events so_far.past.0 in
    record {
      unmade = so_far.unmade;
      none_made = so_far.none_made;
      first = so_far.first;
      known = so_far.known;
      events = es;
      past = past;
      by = (by, so_far.by);
      turns = turn ∙ ap (λ z. tells (record { reply = r; shown = Some z }) ∷ asks (ask_of c) ∷ to) (shown_is (log_of so_far.first es) d past.1.agrees)
          ∙ ap (λ z. tells (record { reply = r; shown = Some (shown_by (log_of so_far.first es)) }) ∷ asks (ask_of c) ∷ z) so_far.turns;
      went = went_by m ps so_far.first es d past.0 (by, so_far.by);
    }

-- a book that is not made: the plant has no such state
pub not_made_is : (m : Model) (s n p : ℕ) → MakeRefused m s n p → (m.states ≤ s) × (refused n p ≡ refused 21 s)
not_made_is m s n p (no_state out) = (out, refl)
