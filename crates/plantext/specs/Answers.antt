-- What reading a plan answers, and what the caller's tables hold then.
use Rattle.std.specs.Prelude.{◌≡◌, ℕ, List, map, length, replicate, Some, None, Ok, Err, Result}
use Rattle.interface.specs.Rows.{Row, zeros}
use Rattle.interface.specs.declared.claims.Claims.{Claims}
use Rattle.plantext.specs.declared.refusal.PlanRefusal.{PlanRefusal}
use Rattle.plantext.specs.declared.refusal.PlanRefusal.TheVariants.{AtLine, WrongLength}
use Rattle.plantext.specs.Lines.{Plan, Lawful, plan_text}
use Rattle.plantext.specs.Reading.{refusal}

-- the caller's tables
pub record Tables (A : Type 0) : Type 0 where
  pub values : List A
  pub policy : List ℕ

-- what the tables and the claims mean
abbrev pub plan_of : {A : Type 0} → (A → Row) → Tables A → Claims A → Plan
plan_of row t c = record { values = map row t.values; policy = t.policy; low = row c.low; high = row c.high }

-- zero rows and zero portfolios, as many as before
pub record Zeroed {A : Type 0} (row : A → Row) (places : ℕ) (t t' : Tables A) : Type 0 where
  pub values : map row t'.values ≡ replicate (length t.values) (zeros places)
  pub policy : t'.policy ≡ replicate (length t.policy) 0

-- the text is that of the plan, which is lawful and fills the tables
pub record PlanText (places : ℕ) (text : List ℕ) (p : Plan) : Type 0 where
  pub lawful : Lawful places p
  pub text_is : text ≡ plan_text p

-- t before, t' after: an accepted text is that of its result, and a refused one is refused as the definition says
abbrev pub PlanAnswer : {A : Type 0} → (A → Row) → ℕ → List ℕ → Tables A → Tables A → Result (Claims A) PlanRefusal → Type 0
PlanAnswer row places text t t' (Ok c) = (refusal places (length t.values) (length t.policy) text ≡ None) × PlanText places text (plan_of row t' c)
PlanAnswer row places text t t' (Err (AtLine f line)) = (refusal places (length t.values) (length t.policy) text ≡ Some (AtLine f line)) × Zeroed row places t t'
PlanAnswer row places text t t' (Err WrongLength) = (refusal places (length t.values) (length t.policy) text ≡ Some WrongLength) × (t' ≡ t)

-- the same before the tables are cleared
abbrev pub PlanRead : {A : Type 0} → (A → Row) → ℕ → List ℕ → Tables A → Tables A → Result (Claims A) PlanRefusal → Type 0
PlanRead row places text t t' (Ok c) = (refusal places (length t.values) (length t.policy) text ≡ None) × PlanText places text (plan_of row t' c)
PlanRead row places text t t' (Err (AtLine f line)) = refusal places (length t.values) (length t.policy) text ≡ Some (AtLine f line)
PlanRead row places text t t' (Err WrongLength) = (refusal places (length t.values) (length t.policy) text ≡ Some WrongLength) × (t' ≡ t)

-- the plan is given back
abbrev pub Gives : {A : Type 0} → (A → Row) → Tables A → Plan → Result (Claims A) PlanRefusal → Type 0
Gives row t q (Ok c) = plan_of row t c ≡ q
Gives row t q (Err e) = ⊥

-- the text of any lawful plan that fills the tables is accepted, and the plan is given back
abbrev pub GivesBack : {A : Type 0} → (A → Row) → ℕ → List ℕ → Tables A → Tables A → Result (Claims A) PlanRefusal → Type 0
GivesBack row places text t t' r = (q : Plan) → Lawful places q → length q.values ≡ length t.values → length q.policy ≡ length t.policy → text ≡ plan_text q → Gives row t' q r
