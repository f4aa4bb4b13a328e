-- A whole text: its first line, and the lines behind it.
use Rattle.std.proofs.Common.{◌≡◌, ℕ, ◌+◌, Bool, true, false, cond, ◌&&◌, eqb, List, [], ◌∷◌, ◌++◌, length, Some, None, Err, Option, Result, sym, ap, ◌∙◌, subst, arith}
use Rattle.std.proofs.lemmas.Bool.{eq-eqb, and_from, cond-true}
use Rattle.interface.specs.Rows.{Row}
use Rattle.interface.specs.declared.claims.Claims.{Claims}
use Rattle.lines.specs.Line.{Said, pair, line_at, rest_at}
use Rattle.plantext.specs.declared.refusal.Fault.{Fault}
use Rattle.plantext.specs.declared.refusal.PlanRefusal.{PlanRefusal}
use Rattle.plantext.specs.declared.refusal.PlanRefusal.TheVariants.{AtLine, WrongLength}
use Rattle.plantext.specs.declared.stage.Stage.{Stage}
use Rattle.plantext.specs.declared.stage.Stage.TheVariants.{States}
use Rattle.plantext.specs.Answers.{Tables, PlanRead}
use Rattle.plantext.specs.Lines.{line, states_line}
use Rattle.plantext.specs.Progress.{Progress, TakesStates, TakesDue, TakesLine}
use Rattle.plantext.specs.Reading.{pair_fault, line_fault, stages_behind, at_line, first_fault, states_said, refusal}
use Rattle.plantext.specs.Values.{count_of, is}
use Rattle.plantext.proofs.Fronts.{line_cut, good_line}
use Rattle.plantext.proofs.ValueLaws.{count_back}

module _ (places n m : ℕ) (a b : Progress) (text k v : List ℕ) (said : line_at text ≡ pair k v) (good : pair_fault places (Some States) k v ≡ None) (t : TakesStates v a b) (values : b.states ≡ n) where
  -- where the tables have the lengths that the first line says, the rest of the text decides
  pub behind_first : b.states ≡ m → refusal places n m text ≡ first_fault places (stages_behind n) 2 (rest_at text)
  behind_first policy =
      let judged : (s : Said) → Option PlanRefusal = λ s. at_line 1 (line_fault places (Some States) s) (cond (is n (states_said s) && is m (states_said s)) (first_fault places (stages_behind n) 2 (rest_at text)) (Some WrongLength)) in
      let both : (is n (count_of v) && is m (count_of v)) ≡ true = and_from _ _ (ap (is n) t.said ∙ eq-eqb _ _ values) (ap (is m) t.said ∙ eq-eqb _ _ policy) in
      ap judged said
      ∙ ap (λ f. at_line 1 f (cond (is n (count_of v) && is m (count_of v)) (first_fault places (stages_behind n) 2 (rest_at text)) (Some WrongLength))) good
      ∙ cond-true _ _ _ both

  pub first_line : text ≡ states_line n ++ rest_at text
  first_line =
      let g = good_line places States k v good in
      let w = count_back v b.states t.said in
      let key = g.key in
      let value = w.0 in
      line_cut text k v said ∙ (λ i. line (key i) (value i) ++ rest_at text) ∙ ap (λ j. states_line j ++ rest_at text) values

-- what the first line leaves to be read: n states in both tables, the next line is line i + 1
pub record Leaves (places n m : ℕ) (text rest : List ℕ) (k i : ℕ) : Type 0 where
  pub faults : refusal places n m text ≡ first_fault places (stages_behind k) (i + 1) rest
  pub text_is : text ≡ states_line k ++ rest

pub first_told : (places n m k i : ℕ) (a b : Progress) (text text' rest : List ℕ) → TakesLine places a b text' rest → text' ≡ text → a.due ≡ Some States → b.states ≡ n → b.states ≡ m → k ≡ n → i ≡ 1 → Leaves places n m text rest k i
first_told places n m k i a b text text' rest l from due values policy long one =
    let good = subst (λ d. pair_fault places d l.key l.value ≡ None) due l.good in
    let t : TakesStates l.value a b = subst (λ d. TakesDue places d l.value a b) due l.takes in
    let said = ap line_at (sym from) ∙ l.said in
    let left : rest_at text ≡ rest = sym (l.left ∙ ap rest_at from) in
    let line : 2 ≡ i + 1 = omega arith in
    let same = sym long in
    record {
      faults = behind_first places n m a b text l.key l.value said good t values policy ∙ (λ d. first_fault places (stages_behind (same d)) (line d) (left d));
      text_is = first_line places n m a b text l.key l.value said good t values ∙ (λ d. states_line (same d) ++ left d);
    }

-- lines are refused at their places
at_place : (j : ℕ) (f : Option Fault) (o : Option PlanRefusal) (e : PlanRefusal) → (o ≡ Some e → (g : Fault) × ((i : ℕ) × (e ≡ AtLine g i))) → at_line j f o ≡ Some e → (g : Fault) × ((i : ℕ) × (e ≡ AtLine g i))
at_place j None o e rest h = rest h
at_place j (Some f) o e rest h = (f, (j, cc))

none_some : {P : Type 0} (e : PlanRefusal) → None ≡ Some e → P
none_some e h = let z : ◌≡◌ {A = ℕ} 0 1 = cc in absurd (omega arith)

over_place : (j : ℕ) (f : Option Fault) (t : Bool) (e : PlanRefusal) → cond t None (at_line j f None) ≡ Some e → (g : Fault) × ((i : ℕ) × (e ≡ AtLine g i))
over_place j f true e h = none_some e h
over_place j f false e h = at_place j f None e (none_some e) h

pub fault_place : (places : ℕ) (dues : List Stage) (j : ℕ) (text : List ℕ) (e : PlanRefusal) → first_fault places dues j text ≡ Some e → (g : Fault) × ((i : ℕ) × (e ≡ AtLine g i))
fault_place places [] j text e h = over_place j (line_fault places None (line_at text)) (eqb (length text) 0) e h
fault_place places (d ∷ ds) j text e h = at_place j (line_fault places (Some d) (line_at text)) (first_fault places ds (j + 1) (rest_at text)) e (fault_place places ds (j + 1) (rest_at text) e) h

-- a text that is refused at a line
pub read_refused : {A : Type 0} (row : A → Row) (places : ℕ) (text : List ℕ) (t t' : Tables A) (r : Result (Claims A) PlanRefusal) (y e : PlanRefusal) → r ≡ Err y → y ≡ e → (g : Fault) × ((i : ℕ) × (e ≡ AtLine g i)) → refusal places (length t.values) (length t.policy) text ≡ Some e → PlanRead row places text t t' r
read_refused row places text t t' r y e is same at h = subst (PlanRead row places text t t') (sym (is ∙ ap Err (same ∙ at.1.1))) (h ∙ ap Some at.1.1)
