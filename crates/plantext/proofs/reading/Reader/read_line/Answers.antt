use Rattle.std.proofs.Common.{◌≡◌, ℕ, ◌+◌, List, Ok, Err, Result, sym, ap, ◌∙◌, rules}
use Rattle.std.specs.Result.{MatchResult, IsErrAnd}
use Rattle.lines.specs.Line.{pair, line_at, rest_at, said, taken}
use Rattle.plantext.specs.declared.refusal.Fault.{Fault}
use Rattle.plantext.specs.declared.refusal.PlanRefusal.{PlanRefusal}
use Rattle.plantext.specs.declared.refusal.PlanRefusal.TheVariants.{AtLine}
use Rattle.plantext.specs.Progress.{Progress, TakesDue, Judged, ReadsLine}
use Rattle.plantext.specs.Reading.{pair_fault, line_fault}
use Rattle.plantext.proofs.reading.Reader.read_line.Goals as goal

-- a line that is taken is read, and the fault of one that is not is placed there
read_taken : {Q : Fault → PlanRefusal → Type 0} (places : ℕ) (a b : Progress) (text rest k v : List ℕ) (line line' : ℕ) (t : Result (Unit {0}) Fault) (r : Result (Unit {0}) PlanRefusal) → line_at text ≡ pair k v → rest ≡ rest_at text → line' ≡ line + 1 → Judged t (pair_fault places a.due k v) (TakesDue places a.due v a b) → MatchResult t (λ x. r ≡ Ok x) (λ e. IsErrAnd r (Q e)) → ((e : Fault) (y : PlanRefusal) → Q e y → y ≡ AtLine e (line + 1)) → ReadsLine places a b text rest line line' r
read_taken places a b text rest k v line line' (Ok u) (Ok w) is left count j m told = (record { key = k; value = v; said = is; good = j.0; takes = j.1; left = left }, count)
read_taken places a b text rest k v line line' (Ok u) (Err y) is left count j m told = cc
read_taken places a b text rest k v line line' (Err e) (Ok w) is left count j m told = absurd m
read_taken places a b text rest k v line line' (Err e) (Err y) is left count j m told = (e, (ap (line_fault places a.due) is ∙ j, told e y m))

pub returns-in-Pair-clause-line : goal.returns-in-Pair-clause-line
returns-in-Pair-clause-line g c =
    let read = c.next_line-place.ensures in
    let pair_is = ap said c.in-Pair.is in
    read_taken _ _ _ _ _ _ _ _ _ _ _ (sym read.line ∙ pair_is) read.rest (read.count ∙ ap (λ s. c.args.lines.now.place + taken s) pair_is) c.take.ensures.judged c.map_err.ensures.cases (λ e y l. search rules)
