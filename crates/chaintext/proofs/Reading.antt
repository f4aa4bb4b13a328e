-- What a line that is taken goes on to, and why one is refused.
use Rattle.std.proofs.Common.{◌≡◌, ℕ, ◌+◌, List, Ok, Err, Result, sym, refl, ap, ◌∙◌, subst, arith}
use Rattle.lines.specs.Line.{Said, pair, fault, line_at, rest_at, taken}
use Rattle.reading.specs.declared.rules.Rule.{Rule}
use Rattle.chaintext.specs.declared.reader.ChainReader.{ChainReader}
use Rattle.chaintext.specs.declared.reader.Stage.TheVariants as stage
use Rattle.chaintext.specs.Reads.{line_step}
use Rattle.chaintext.specs.Counted.{CountedEnding, complete_at, refused_at, CountedReads, done_at, stop_at, more_at}
use Rattle.chaintext.specs.Steps.{Step, Took}

pub took_err : {U : Type 0} (s : Step) (old new : ChainReader) (r : Result U Rule) (e : Rule) → r ≡ Err e → Took s old new r → s ≡ Err e
took_err (Ok d) old new (Ok u) e q h = let z : ◌≡◌ {A = ℕ} 0 1 = cc in absurd (omega arith)
took_err (Ok d) old new (Err x) e q h = absurd h
took_err (Err y) old new (Ok u) e q h = absurd h
took_err (Err y) old new (Err x) e q h = let same : x ≡ e = cc in ap Err (sym h.0 ∙ same)

-- a step that is not refused
pub took_ok : {U : Type 0} (s : Step) (old new : ChainReader) (r : Result U Rule) → ((e : Rule) → r ≡ Err e → ⊥) → Took s old new r → s ≡ Ok new
took_ok (Ok d) old new (Ok u) q h = ap Ok (sym h)
took_ok (Ok d) old new (Err x) q h = absurd h
took_ok (Err y) old new (Ok u) q h = absurd h
took_ok (Err y) old new (Err x) q h = absurd (q x refl)

pub one_taken : (d e : ChainReader) (l : Said) → line_step d l ≡ Ok e → taken l ≡ 1
one_taken d e (pair k v) h = refl
one_taken d e (fault n) h = let z : ◌≡◌ {A = ℕ} 0 1 = cc in absurd (omega arith)

-- a line that is read from here, by the names that a call gives to what it left
module _ (d : ChainReader) (text : List ℕ) (place : ℕ) (going : d.stage ≡ stage.Done → ⊥) (rest : List ℕ) (count : ℕ) (left : rest ≡ rest_at text) (counted : count ≡ place + taken (line_at text)) where
  pub refused_here : (rule : Rule) (line : ℕ) → line ≡ place + 1 → line_step d (line_at text) ≡ Err rule → CountedReads d text place (refused_at rule line rest count)
  refused_here rule line at step = subst (CountedReads d text place) (λ i. refused_at rule (sym at i) (sym left i) (sym counted i)) (stop_at going step)

  count_more : (e : ChainReader) → line_step d (line_at text) ≡ Ok e → place + 1 ≡ count
  count_more e step = sym (counted ∙ ap (λ n. place + n) (one_taken d e (line_at text) step))

  pub further : (e : ChainReader) (o : CountedEnding) → line_step d (line_at text) ≡ Ok e → CountedReads e rest count o → CountedReads d text place o
  further e o step reads = more_at going step (subst (λ n. CountedReads e (rest_at text) n o) (sym (count_more e step)) (subst (λ t. CountedReads e t count o) left reads))

  pub complete_here : (e : ChainReader) → line_step d (line_at text) ≡ Ok e → e.stage ≡ stage.Done → CountedReads d text place (complete_at e rest count) × (place + 1 ≡ count)
  complete_here e step last = (further e (complete_at e rest count) step (done_at last), count_more e step)
