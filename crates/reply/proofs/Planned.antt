-- What the planner answers, as the reply to a request.
use Rattle.std.proofs.Common.{◌≡◌, ℕ, List, map, Ok, Err, Result, MatchResult, subst}
use Rattle.std.specs.Result.{IfOk, IsErrAnd}
use Rattle.interface.specs.Plants.{Model}
use Rattle.interface.specs.Rows.{Row}
use Rattle.interface.specs.Tariffs.{Scale}
use Rattle.interface.specs.declared.claims.Claims.{Claims}
use Rattle.certificate.specs.Certificates.{Sound}
use Rattle.planner.specs.declared.refusal.Refusal.{Refusal as PlannerRefusal}
use Rattle.planner.specs.Answers.{Tables, Answer}
use Rattle.planner.specs.Plans.{PlanAfter}
use Rattle.plantext.specs.Lines.{plan_text}
use Rattle.reply.specs.declared.answer.Refusal.{Refusal}
use Rattle.reply.specs.Plans.{plan_of, PlanFor}

-- the text of a plan that was made
pub plan_for : {A : Type 0} (Q : PlannerRefusal → Refusal → Type 0) (row : A → Row) (m : Model) (t : Scale) (n : ℕ) (b b' : Tables A) (planned : Result (Claims A) PlannerRefusal) (r : Result (Claims A) Refusal) (c : Claims A) (text : List ℕ) → r ≡ Ok c → Answer row m t n b b' planned → IfOk planned (λ k. Sound m t (map row b'.values) b'.policy (row k.low) (row k.high)) → MatchResult planned (λ x. r ≡ Ok x) (λ y. IsErrAnd r (Q y)) → text ≡ plan_text (plan_of row b'.values b'.policy c) → PlanFor m t n text
plan_for Q row m t n b b' (Ok x) r c text is h sound j written =
    let same : x ≡ c = cc in
    record {
      plan = plan_of row b'.values b'.policy c;
      after = subst (λ k. PlanAfter m t n (map row b'.values) b'.policy (row k.low) (row k.high)) same h.2.plan;
      sound = subst (λ k. Sound m t (map row b'.values) b'.policy (row k.low) (row k.high)) same sound;
      written = written;
    }
plan_for Q row m t n b b' (Err y) (Ok z) c text is h sound j written = absurd j
plan_for Q row m t n b b' (Err y) (Err z) c text is h sound j written = cc
