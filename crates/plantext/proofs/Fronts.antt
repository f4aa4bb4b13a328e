-- A plan that is read up to some line: the lines before it are those of the plan so far.
use Rattle.std.proofs.Common.{◌≡◌, ℕ, zero, suc, ◌+◌, ◌-◌, ◌<◌, ◌≤◌, Bool, true, false, cond, eqb, ltb, ◌≢◌, List, [], ◌∷◌, ◌++◌, map, length, get_or, is_some, Some, None, Err, codes, Option, Result, sym, refl, ap, ◌∙◌, subst, arith, rules, below_more}
use Rattle.std.specs.List.{range_with_len}
use Rattle.std.specs.Str.{bytes_eq}
use Rattle.std.proofs.lemmas.List.FromFn.{map-range_with_len_more}
use Rattle.std.proofs.lemmas.Slice.Eq.{bytes_eq-Decides}
use Rattle.std.proofs.lemmas.List.{append_assoc, append-nil, map-append, length-set, get_or-set_same, get_or-set_other, nil_from_length}
use Rattle.std.proofs.lemmas.Bool.{ltb-true, ltb-false, eqb-true, cond-true}
use Rattle.interface.specs.Limits.{most_states}
use Rattle.lines.specs.Fields.{fields, joined}
use Rattle.lines.specs.Line.{equals_sign, line_end, pair, line_at, rest_at}
use Rattle.lines.proofs.FieldLaws.{joined_fields}
use Rattle.lines.proofs.LineLaws.{line_begins}
use Rattle.plantext.specs.declared.refusal.Fault.{Fault}
use Rattle.plantext.specs.declared.refusal.Fault.TheVariants.{NotDue}
use Rattle.plantext.specs.declared.refusal.PlanRefusal.{PlanRefusal}
use Rattle.plantext.specs.declared.refusal.PlanRefusal.TheVariants.{AtLine}
use Rattle.plantext.specs.declared.stage.Stage.{Stage}
use Rattle.plantext.specs.declared.stage.Stage.TheVariants.{States, Low, High, Row, End}
use Rattle.plantext.specs.Lines.{Plan, Held, Lawful, most_portfolio, line, states_line, low_line, high_line, row_line, stages, stage_line, concat, plan_text}
use Rattle.plantext.specs.Progress.{Progress, after_row, TakesLow, TakesHigh, TakesRow, TakesEnd, TakesDue, TakesLine, InsideDue, ReadsBehind}
use Rattle.plantext.specs.Reading.{key_of, value_fault, pair_fault, line_fault, stages_behind, at_line, first_fault}
use Rattle.plantext.proofs.ValueLaws.{amount_back, amount_text, Entered, entry_back}

-- the lines that are still due
abbrev pub remaining : ℕ → Option Stage → List Stage
remaining n None = []
remaining n (Some States) = stages n
remaining n (Some Low) = stages_behind n
remaining n (Some High) = High ∷ (map Row (range_with_len 0 n) ++ (End ∷ []))
remaining n (Some (Row s)) = map Row (range_with_len s (n - s)) ++ (End ∷ [])
remaining n (Some End) = End ∷ []

-- the lines that were read
abbrev pub before : ℕ → Option Stage → List Stage
before n None = stages n
before n (Some States) = []
before n (Some Low) = States ∷ []
before n (Some High) = States ∷ (Low ∷ [])
before n (Some (Row s)) = States ∷ (Low ∷ (High ∷ map Row (range_with_len 0 s)))
before n (Some End) = States ∷ (Low ∷ (High ∷ map Row (range_with_len 0 n)))

-- the rows of the states below s can stand in a text
abbrev pub Rows : ℕ → Plan → ℕ → Type 0
Rows places p s = (k : ℕ) → k < s → Held places (get_or p.values k []) × (get_or p.policy k 0 ≤ most_portfolio)

-- so can all that was read; the first line was
abbrev pub Right : ℕ → ℕ → Plan → Option Stage → Type 0
Right places n p None = Held places p.low × (Held places p.high × Rows places p n)
Right places n p (Some States) = ⊥
Right places n p (Some Low) = Unit {0}
Right places n p (Some High) = Held places p.low
Right places n p (Some (Row s)) = Held places p.low × (Held places p.high × Rows places p s)
Right places n p (Some End) = Held places p.low × (Held places p.high × Rows places p n)

-- whole is the text, total what it is refused for
pub record SoFar (places n : ℕ) (whole : List ℕ) (total : Option PlanRefusal) (due : Option Stage) (p : Plan) (j : ℕ) (rest : List ℕ) : Type 0 where
  pub faults : first_fault places (remaining n due) j rest ≡ total
  pub inside : InsideDue n due
  pub values_long : length p.values ≡ n
  pub policy_long : length p.policy ≡ n
  pub text : whole ≡ concat (map (stage_line p) (before n due)) ++ rest
  pub right : Right places n p due

concat_append : (xs ys : List (List ℕ)) → concat (xs ++ ys) ≡ concat xs ++ concat ys
concat_append [] ys = refl
concat_append (x ∷ xs) ys = ap (λ t. x ++ t) (concat_append xs ys) ∙ sym (append_assoc x (concat xs) (concat ys))

-- one line more was read
front_more : (p q : Plan) (ss ts : List Stage) (d : Stage) (whole text rest : List ℕ) → ts ≡ ss ++ (d ∷ []) → map (stage_line p) ss ≡ map (stage_line q) ss → whole ≡ concat (map (stage_line p) ss) ++ text → text ≡ stage_line q d ++ rest → whole ≡ concat (map (stage_line q) ts) ++ rest
front_more p q ss ts d whole text rest more same is cut =
    let one : concat (map (stage_line q) ts) ≡ concat (map (stage_line q) ss) ++ stage_line q d =
    ap (λ z. concat (map (stage_line q) z)) more ∙ ap concat (map-append (stage_line q) ss (d ∷ [])) ∙ concat_append (map (stage_line q) ss) (stage_line q d ∷ [])
    ∙ ap (λ t. concat (map (stage_line q) ss) ++ t) (append-nil (stage_line q d)) in
    is ∙ (λ i. concat (same i) ++ cut i) ∙ sym (append_assoc (concat (map (stage_line q) ss)) (stage_line q d) rest) ∙ ap (λ t. t ++ rest) (sym one)

-- the first line of a text, cut off
pub line_cut : (text k v : List ℕ) → line_at text ≡ pair k v → text ≡ line k v ++ rest_at text
line_cut text k v e =
    (line_begins text k v e).whole
    ∙ ap (λ t. k ++ (equals_sign ∷ t)) (sym (append_assoc v (line_end ∷ []) (rest_at text)))
    ∙ sym (append_assoc k (equals_sign ∷ (v ++ (line_end ∷ []))) (rest_at text))

-- a line without a fault has the key that is due
pub record Good (places : ℕ) (due : Stage) (k v : List ℕ) : Type 0 where
  pub key : k ≡ key_of due
  pub value : value_fault places due v ≡ None

pub good_line : (places : ℕ) (due : Stage) (k v : List ℕ) → pair_fault places (Some due) k v ≡ None → Good places due k v
good_line places due k v h = by (bytes_eq k (key_of due)) refl h
  where
    by : (t : Bool) → bytes_eq k (key_of due) ≡ t → cond t (value_fault places due v) (Some NotDue) ≡ None → Good places due k v
    by true q e = record { key = (bytes_eq-Decides k (key_of due)).0 q; value = e }
    by false q e = let z : ◌≡◌ {A = ℕ} 0 1 = cc in absurd (omega arith)

pub plan_word : (v : List ℕ) → cond (bytes_eq v (codes "plan")) None (Some NotDue) ≡ None → v ≡ codes "plan"
plan_word v h = by (bytes_eq v (codes "plan")) refl h
  where
    by : (t : Bool) → bytes_eq v (codes "plan") ≡ t → cond t None (Some NotDue) ≡ None → v ≡ codes "plan"
    by true q e = (bytes_eq-Decides v (codes "plan")).0 q
    by false q e = let z : ◌≡◌ {A = ℕ} 0 1 = cc in absurd (omega arith)

-- the same lines of two plans
same_rows : (f g : ℕ → List ℕ) (a n : ℕ) → ((k : ℕ) → a ≤ k → k < a + n → f k ≡ g k) → map f (range_with_len a n) ≡ map g (range_with_len a n)
same_rows f g a zero h = refl
same_rows f g a (suc n) h = λ i. h a (omega arith) (omega arith) i ∷ same_rows f g (a + 1) n (λ k l m. h k (omega arith) (omega arith)) i

map_map : {A B C : Type 0} (f : B → C) (g : A → B) (xs : List A) → map f (map g xs) ≡ map (λ x. f (g x)) xs
map_map f g [] = refl
map_map f g (x ∷ xs) = ap (λ t. f (g x) ∷ t) (map_map f g xs)

module _ (places n : ℕ) (whole : List ℕ) (total : Option PlanRefusal) (j : ℕ) (text k v : List ℕ) (said : line_at text ≡ pair k v) where
  -- what is said of the lines behind a good one
  faults_behind : (due : Stage) (dues behind : List Stage) → dues ≡ due ∷ behind → pair_fault places (Some due) k v ≡ None → first_fault places dues j text ≡ total → first_fault places behind (j + 1) (rest_at text) ≡ total
  faults_behind due dues behind more good h =
      sym (ap (λ ds. first_fault places ds j text) more
      ∙ ap (λ s. at_line j (line_fault places (Some due) s) (first_fault places behind (j + 1) (rest_at text))) said
      ∙ ap (λ f. at_line j f (first_fault places behind (j + 1) (rest_at text))) good)
      ∙ h

  -- the line is that of the plan
  cut_at : (due : Stage) (q : Plan) (key value : List ℕ) → k ≡ key → v ≡ value → line key value ≡ stage_line q due → text ≡ stage_line q due ++ rest_at text
  cut_at due q key value e f is = line_cut text k v said ∙ ap (λ t. t ++ rest_at text) ((λ i. line (e i) (f i)) ∙ is)

  module _ (a b : Progress) where
    low_step : 0 < places → SoFar places n whole total (Some Low) a.plan j text → pair_fault places (Some Low) k v ≡ None → TakesLow places v a b → SoFar places n whole total (Some High) b.plan (j + 1) (rest_at text)
    low_step some h good t =
        let g = good_line places Low k v good in
        let u = amount_back places (fields v) b.plan.low t.said in
        record {
          faults = faults_behind Low (stages_behind n) _ refl good h.faults;
          inside = tt;
          values_long = ap length t.values ∙ h.values_long;
          policy_long = ap length t.policy ∙ h.policy_long;
          text = front_more a.plan b.plan (States ∷ []) _ Low whole text _ refl (ap (λ m. states_line m ∷ []) (ap length (sym t.values))) h.text (cut_at Low b.plan _ _ g.key (amount_text v b.plan.low u.0) refl);
          right = u.1;
        }

    high_step : 1 ≤ n → SoFar places n whole total (Some High) a.plan j text → pair_fault places (Some High) k v ≡ None → TakesHigh places v a b → SoFar places n whole total (Some (Row 0)) b.plan (j + 1) (rest_at text)
    high_step some h good t =
        let g = good_line places High k v good in
        let u = amount_back places (fields v) b.plan.high t.said in
        let all : n - 0 ≡ n = omega arith in
        record {
          faults = faults_behind High _ _ (ap (λ m. High ∷ (map Row (range_with_len 0 m) ++ (End ∷ []))) (sym all)) good h.faults;
          inside = some;
          values_long = ap length t.values ∙ h.values_long;
          policy_long = ap length t.policy ∙ h.policy_long;
          text = front_more a.plan b.plan (States ∷ (Low ∷ [])) _ High whole text _ refl (let vs = sym t.values in let low = sym t.low in λ i. states_line (length (vs i)) ∷ (low_line (low i) ∷ [])) h.text (cut_at High b.plan _ _ g.key (amount_text v b.plan.high u.0) refl);
          right = (subst (Held places) (sym t.low) h.right, (u.1, λ i l. absurd (omega arith)));
        }

    end_step : SoFar places n whole total (Some End) a.plan j text → pair_fault places (Some End) k v ≡ None → TakesEnd a b → SoFar places n whole total None b.plan (j + 1) (rest_at text)
    end_step h good t =
        let g = good_line places End k v good in
        subst (λ p. SoFar places n whole total None p (j + 1) (rest_at text)) (sym t.plan) (record {
          faults = faults_behind End (End ∷ []) [] refl good h.faults;
          inside = tt;
          values_long = h.values_long;
          policy_long = h.policy_long;
          text = front_more a.plan a.plan (before n (Some End)) _ End whole text _ refl refl h.text (cut_at End a.plan _ _ g.key (plan_word v g.value) refl);
          right = h.right;
        })

    module _ (s : ℕ) (h : SoFar places n whole total (Some (Row s)) a.plan j text) (good : pair_fault places (Some (Row s)) k v ≡ None) (t : TakesRow places s v a b) where
      row_faults : first_fault places (map Row (range_with_len (s + 1) (n - (s + 1))) ++ (End ∷ [])) (j + 1) (rest_at text) ≡ total
      row_faults =
          let left : n - s ≡ suc (n - (s + 1)) = omega (arith, h.inside) in
          faults_behind (Row s) _ _ (ap (λ m. map Row (range_with_len s m) ++ (End ∷ [])) left) good h.faults

      entered_here : Entered places s (fields v) (record { portfolio = t.portfolio; value = t.value })
      entered_here = entry_back places s (fields v) _ t.said

      value_here : get_or b.plan.values s [] ≡ t.value
      value_here = ap (λ xs. get_or xs s []) t.values ∙ get_or-set_same a.plan.values s t.value [] (omega (arith, h.inside, h.values_long))

      portfolio_here : get_or b.plan.policy s 0 ≡ t.portfolio
      portfolio_here = ap (λ xs. get_or xs s 0) t.policy ∙ get_or-set_same a.plan.policy s t.portfolio 0 (omega (arith, h.inside, h.policy_long))

      value_before : (i : ℕ) → i < s → get_or b.plan.values i [] ≡ get_or a.plan.values i []
      value_before i l = let other : i ≢ s = omega arith in ap (λ xs. get_or xs i []) t.values ∙ get_or-set_other a.plan.values s i t.value [] other

      portfolio_before : (i : ℕ) → i < s → get_or b.plan.policy i 0 ≡ get_or a.plan.policy i 0
      portfolio_before i l = let other : i ≢ s = omega arith in ap (λ xs. get_or xs i 0) t.policy ∙ get_or-set_other a.plan.policy s i t.portfolio 0 other

      values_kept : length b.plan.values ≡ length a.plan.values
      values_kept = ap length t.values ∙ length-set a.plan.values s t.value

      rows_more : Rows places b.plan (s + 1)
      rows_more = below_more (λ i. Held places (get_or b.plan.values i []) × (get_or b.plan.policy i 0 ≤ most_portfolio)) s
          (λ i l. let was = h.right.1.1 i l in (subst (Held places) (sym (value_before i l)) was.0, subst (λ x. x ≤ most_portfolio) (sym (portfolio_before i l)) was.1))
          (subst (Held places) (sym value_here) entered_here.held, subst (λ x. x ≤ most_portfolio) (sym portfolio_here) entered_here.low)

      same_before : map (stage_line a.plan) (before n (Some (Row s))) ≡ map (stage_line b.plan) (before n (Some (Row s)))
      same_before =
          let long = sym values_kept in
          let low = sym t.low in
          let high = sym t.high in
          let rows : map (stage_line a.plan) (map Row (range_with_len 0 s)) ≡ map (stage_line b.plan) (map Row (range_with_len 0 s)) =
          map_map (stage_line a.plan) Row (range_with_len 0 s)
          ∙ same_rows (λ i. stage_line a.plan (Row i)) (λ i. stage_line b.plan (Row i)) 0 s (λ i l m. let below : i < s = omega arith in let xs = sym (portfolio_before i below) in let us = sym (value_before i below) in λ d. row_line i (xs d) (us d))
          ∙ sym (map_map (stage_line b.plan) Row (range_with_len 0 s)) in
          λ i. states_line (long i) ∷ (low_line (low i) ∷ (high_line (high i) ∷ rows i))

      row_text : text ≡ stage_line b.plan (Row s) ++ rest_at text
      row_text =
          let g = good_line places (Row s) k v good in
          let x = sym portfolio_here in
          let u = sym value_here in
          cut_at (Row s) b.plan _ _ g.key (sym (joined_fields v) ∙ ap joined entered_here.fields_are) (λ i. row_line s (x i) (u i))

      front_row : (ts : List Stage) → ts ≡ before n (Some (Row s)) ++ (Row s ∷ []) → whole ≡ concat (map (stage_line b.plan) ts) ++ rest_at text
      front_row ts more = front_more a.plan b.plan (before n (Some (Row s))) ts (Row s) whole text (rest_at text) more same_before h.text row_text

      held_row : Held places b.plan.low × (Held places b.plan.high × Rows places b.plan (s + 1))
      held_row = (subst (Held places) (sym t.low) h.right.0, (subst (Held places) (sym t.high) h.right.1.0, rows_more))

      counted_more : States ∷ (Low ∷ (High ∷ map Row (range_with_len 0 (s + 1)))) ≡ before n (Some (Row s)) ++ (Row s ∷ [])
      counted_more = ap (λ z. States ∷ (Low ∷ (High ∷ z))) (map-range_with_len_more Row 0 s s (omega arith))

      row_step : (c : Bool) → ltb (s + 1) n ≡ c → SoFar places n whole total (Some (cond c (Row (s + 1)) End)) b.plan (j + 1) (rest_at text)
      row_step true e = record {
        faults = row_faults;
        inside = ltb-true _ _ e;
        values_long = values_kept ∙ h.values_long;
        policy_long = ap length t.policy ∙ length-set a.plan.policy s t.portfolio ∙ h.policy_long;
        text = front_row _ counted_more;
        right = held_row;
      }
      row_step false e =
          let last : s + 1 ≡ n = omega (arith, ltb-false _ _ e, h.inside) in
          let none : n - (s + 1) ≡ 0 = omega arith in
          record {
            faults = sym (ap (λ m. first_fault places (map Row (range_with_len (s + 1) m) ++ (End ∷ [])) (j + 1) (rest_at text)) none) ∙ row_faults;
            inside = tt;
            values_long = values_kept ∙ h.values_long;
            policy_long = ap length t.policy ∙ length-set a.plan.policy s t.portfolio ∙ h.policy_long;
            text = front_row _ (ap (λ m. States ∷ (Low ∷ (High ∷ map Row (range_with_len 0 m)))) (sym last) ∙ counted_more);
            right = subst (λ m. Held places b.plan.low × (Held places b.plan.high × Rows places b.plan m)) last held_row;
          }

    -- one line more
    pub line_step : (due : Option Stage) → 0 < places → 1 ≤ n → SoFar places n whole total due a.plan j text → pair_fault places due k v ≡ None → TakesDue places due v a b → SoFar places n whole total b.due b.plan (j + 1) (rest_at text)
    line_step None some any h good t = absurd t
    line_step (Some States) some any h good t = absurd h.right
    line_step (Some Low) some any h good t = subst (λ d. SoFar places n whole total d b.plan (j + 1) (rest_at text)) (sym t.next) (low_step some h good t)
    line_step (Some High) some any h good t = subst (λ d. SoFar places n whole total d b.plan (j + 1) (rest_at text)) (sym t.next) (high_step any h good t)
    line_step (Some (Row s)) some any h good t =
        subst (λ d. SoFar places n whole total d b.plan (j + 1) (rest_at text)) (sym (t.next ∙ ap (λ m. Some (after_row m s)) h.values_long)) (row_step s h good t (ltb (s + 1) n) refl)
    line_step (Some End) some any h good t = subst (λ d. SoFar places n whole total d b.plan (j + 1) (rest_at text)) (sym t.next) (end_step h good t)

module _ (places n : ℕ) (whole : List ℕ) (total : Option PlanRefusal) where
  pub line_taken : (i j : ℕ) (a b : Progress) (text rest : List ℕ) → 0 < places → 1 ≤ n → SoFar places n whole total a.due a.plan (i + 1) text → TakesLine places a b text rest → j ≡ i + 1 → SoFar places n whole total b.due b.plan (j + 1) rest
  line_taken i j a b text rest some any h t next =
      subst (λ m. SoFar places n whole total b.due b.plan (m + 1) rest) (sym next)
      (subst (λ r. SoFar places n whole total b.due b.plan (i + 1 + 1) r) (sym t.left) (line_step places n whole total (i + 1) text t.key t.value t.said a b a.due some any h t.good t.takes))

  -- a fault in a line that is due refuses the text
  refused_at : (j : ℕ) (text : List ℕ) (d : Stage) (dues behind : List Stage) (f : Fault) → dues ≡ d ∷ behind → line_fault places (Some d) (line_at text) ≡ Some f → first_fault places dues j text ≡ total → total ≡ Some (AtLine f j)
  refused_at j text d dues behind f more bad h = sym h ∙ ap (λ ds. first_fault places ds j text) more ∙ ap (λ o. at_line j o (first_fault places behind (j + 1) (rest_at text))) bad

  pub line_refused : (j : ℕ) (text : List ℕ) (p : Plan) (due : Option Stage) (f : Fault) → is_some due ≡ true → SoFar places n whole total due p j text → line_fault places due (line_at text) ≡ Some f → total ≡ Some (AtLine f j)
  line_refused j text p None f some h bad = let z : false ≡ true = cc in absurd (search rules)
  line_refused j text p (Some States) f some h bad = absurd h.right
  line_refused j text p (Some Low) f some h bad = refused_at j text Low (stages_behind n) _ f refl bad h.faults
  line_refused j text p (Some High) f some h bad = refused_at j text High (remaining n (Some High)) _ f refl bad h.faults
  line_refused j text p (Some (Row s)) f some h bad =
      let left : n - s ≡ suc (n - (s + 1)) = omega (arith, h.inside) in
      refused_at j text (Row s) (remaining n (Some (Row s))) _ f (ap (λ m. map Row (range_with_len s m) ++ (End ∷ [])) left) bad h.faults
  line_refused j text p (Some End) f some h bad = refused_at j text End (End ∷ []) [] f refl bad h.faults

  -- all lines were read, and the text is over
  pub all_read : (j : ℕ) (rest : List ℕ) (p : Plan) (due : Option Stage) → is_some due ≡ false → eqb (length rest) 0 ≡ true → 1 ≤ n → n ≤ most_states → SoFar places n whole total due p j rest → (total ≡ None) × (Lawful places p × (whole ≡ plan_text p))
  all_read j rest p (Some d) none over any few h = let z : true ≡ false = cc in absurd (search rules)
  all_read j rest p None none over any few h =
      let empty = nil_from_length rest (eqb-true _ _ over) in (
        sym h.faults ∙ cond-true _ _ _ over,
        (
          record {
            level = h.policy_long ∙ sym h.values_long;
            some = omega (arith, h.values_long);
            few = omega (arith, h.values_long);
            low = h.right.0;
            high = h.right.1.0;
            rows = λ s l. h.right.1.1 s (omega (arith, h.values_long));
          },
          h.text ∙ ap (λ t. concat (map (stage_line p) (stages n)) ++ t) empty ∙ append-nil _ ∙ ap (λ m. concat (map (stage_line p) (stages m))) (sym h.values_long),
        ),
      )

-- the refusal of a line is that of the text
pub behind_refused : (places n : ℕ) (p : Plan) (text : List ℕ) (line : ℕ) (r : Result (Unit {0}) PlanRefusal) (y e : PlanRefusal) → r ≡ Err y → y ≡ e → first_fault places (stages_behind n) (line + 1) text ≡ Some e → ReadsBehind places n p text line r
behind_refused places n p text line r y e is same h = subst (ReadsBehind places n p text line) (sym is) (h ∙ ap Some (sym same))
