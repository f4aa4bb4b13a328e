-- The lines of a plan by their numbers, and what the call for one of them answers.
use Rattle.std.proofs.Common.{◌≡◌, ℕ, zero, suc, ◌+◌, ◌-◌, ◌<◌, ◌≤◌, Bool, true, false, cond, List, [], ◌∷◌, ◌++◌, map, length, Some, None, Ok, Err, Option, Result, sym, refl, ap, ◌∙◌, add-zero, arith}
use Rattle.std.specs.List.{slice_get, range_with_len}
use Rattle.std.specs.Option.{option_map}
use Rattle.std.proofs.lemmas.Option.{slice_get-map}
use Rattle.lines.specs.Placed.{fits, end_of, placed}
use Rattle.plantext.specs.declared.refusal.LineRefusal.{LineRefusal}
use Rattle.plantext.specs.declared.refusal.LineRefusal.TheVariants.{NoSpace}
use Rattle.plantext.specs.declared.stage.Stage.{Stage}
use Rattle.plantext.specs.declared.stage.Stage.TheVariants.{Row, End}
use Rattle.plantext.specs.Lines.{Plan, stages, stage_line, plan_lines}
use Rattle.plantext.specs.Spaces.{level, line_answer, line_space, AnswersLine}

-- the stages behind the claims
abbrev pub row_stages : ℕ → List Stage
row_stages n = map Row (range_with_len 0 n) ++ (End ∷ [])

-- the same from the row of state s on, with n rows
module _ where
  pub row_stage : (s n i : ℕ) → i < n → slice_get (map Row (range_with_len s n) ++ (End ∷ [])) i ≡ Some (Row (s + i))
  row_stage s zero i l = absurd (omega arith)
  row_stage s (suc n) zero l = ap (λ k. Some (Row k)) (sym (add-zero s))
  row_stage s (suc n) (suc i) l = row_stage (s + 1) n i (omega arith) ∙ ap (λ k. Some (Row k)) (omega arith)

  pub end_stage : (s n : ℕ) → slice_get (map Row (range_with_len s n) ++ (End ∷ [])) n ≡ Some End
  end_stage s zero = refl
  end_stage s (suc n) = end_stage (s + 1) n

  pub no_stage : (s n i : ℕ) → n < i → slice_get (map Row (range_with_len s n) ++ (End ∷ [])) i ≡ None
  no_stage s zero zero l = absurd (omega arith)
  no_stage s zero (suc i) l = refl
  no_stage s (suc n) zero l = absurd (omega arith)
  no_stage s (suc n) (suc i) l = no_stage (s + 1) n i (omega arith)

-- the stage of line j, behind the claims
pub stage_past : (n j : ℕ) → 3 ≤ j → slice_get (stages n) j ≡ slice_get (map Row (range_with_len 0 n) ++ (End ∷ [])) (j - 3)
stage_past n j l = let is : j ≡ suc (suc (suc (j - 3))) = omega arith in ap (slice_get (stages n)) is

-- line j of a plan
pub line_at : (p : Plan) (j : ℕ) → slice_get (plan_lines p) j ≡ option_map (stage_line p) (slice_get (stages (length p.values)) j)
line_at p j = slice_get-map (stage_line p) (stages (length p.values)) j

module _ (p : Plan) (j : ℕ) (space : List ℕ) where
  module _ (h : level (length p.values) (length p.policy) ≡ true) where
    -- a line of the plan, or none, as the tables are level
    told : (o : Option (List ℕ)) → slice_get (plan_lines p) j ≡ o → {space' : List ℕ} {r : Result (Option ℕ) LineRefusal} → r ≡ line_answer true o space → space' ≡ line_space true o space → AnswersLine p j space space' r
    told o is a b = record {
      answer = a ∙ sym (ap (λ t. line_answer t (slice_get (plan_lines p) j) space) h ∙ ap (λ z. line_answer true z space) is);
      after = b ∙ sym (ap (λ t. line_space t (slice_get (plan_lines p) j) space) h ∙ ap (λ z. line_space true z space) is);
    }

    pub past_last : slice_get (plan_lines p) j ≡ None → AnswersLine p j space space (Ok None)
    past_last is = told None is refl refl

    pub line_written : (l space' : List ℕ) (e : ℕ) → slice_get (plan_lines p) j ≡ Some l → end_of l 0 space ≡ Some e → space' ≡ placed l 0 space → AnswersLine p j space space' (Ok (Some e))
    line_written l space' e is ends after = told (Some l) is (roomy (fits l 0 space) ends) after
      where
        roomy : (t : Bool) → cond t (Some (0 + length l)) None ≡ Some e → Ok (Some e) ≡ cond t (Ok (Some (length l))) (Err NoSpace)
        roomy true q = let same : 0 + length l ≡ e = cc in let none : 0 + length l ≡ length l = omega arith in cc
        roomy false q = let z : ◌≡◌ {A = ℕ} 0 1 = cc in absurd (omega arith)

    pub line_too_long : (l space' : List ℕ) → slice_get (plan_lines p) j ≡ Some l → end_of l 0 space ≡ None → space' ≡ placed l 0 space → AnswersLine p j space space' (Err NoSpace)
    line_too_long l space' is ends after = told (Some l) is (full (fits l 0 space) ends) after
      where
        full : (t : Bool) → cond t (Some (0 + length l)) None ≡ None → Err NoSpace ≡ cond t (Ok (Some (length l))) (Err NoSpace)
        full true q = let z : ◌≡◌ {A = ℕ} 0 1 = cc in absurd (omega arith)
        full false q = refl
