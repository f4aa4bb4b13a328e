-- The lines of a plan, one behind the other.
use Rattle.std.proofs.Common.{◌≡◌, ℕ, zero, suc, ◌+◌, ◌-◌, ◌<◌, ◌≤◌, Bool, true, false, cond, List, [], ◌∷◌, ◌++◌, map, length, take, Some, None, Ok, Err, Option, Result, sym, refl, ap, ◌∙◌, add-one, arith}
use native.Mathlib.Nat.{sub-zero}
use Rattle.std.specs.List.{slice_get, range_with_len}
use Rattle.std.proofs.lemmas.List.{append_assoc, append-nil, length-append, length-map}
use Rattle.std.proofs.lemmas.List.FromFn.{length-map-range_with_len}
use Rattle.std.proofs.lemmas.Option.{slice_get-get_or}
use Rattle.std.proofs.lemmas.Bool.{le-leb, eq-eqb}
use Rattle.interface.specs.Limits.{most_states}
use Rattle.lines.specs.Placed.{fits, end_of, placed}
use Rattle.lines.proofs.PlaceLaws.{placed_between}
use Rattle.plantext.specs.declared.refusal.LineRefusal.{LineRefusal}
use Rattle.plantext.specs.declared.refusal.LineRefusal.TheVariants.{WrongLength, NoSpace}
use Rattle.plantext.specs.declared.stage.Stage.TheVariants.{Row, End}
use Rattle.plantext.specs.Lines.{Plan, stages, plan_lines, concat, plan_text, stage_line}
use Rattle.plantext.specs.Spaces.{level, line_room, line_answer, line_space, AnswersLine, Tight}

-- a plan has a line for each state and four more
pub lines_long : (p : Plan) → length (plan_lines p) ≡ length p.values + 4
lines_long p =
    let n = length p.values in
    let rows = map Row (range_with_len 0 n) in
    omega (arith, length-map (stages n) (stage_line p), length-append rows (End ∷ []), length-map-range_with_len Row 0 n)

concat_more : (ls : List (List ℕ)) (j : ℕ) (l : List ℕ) → slice_get ls j ≡ Some l → concat (take (suc j) ls) ≡ concat (take j ls) ++ l
concat_more [] j l e = let z : ◌≡◌ {A = ℕ} 0 1 = cc in absurd (omega arith)
concat_more (k ∷ ls) zero l e = let is : k ≡ l = cc in append-nil k ∙ is
concat_more (k ∷ ls) (suc j) l e = ap (λ t. k ++ t) (concat_more ls j l e) ∙ sym (append_assoc k (concat (take j ls)) l)

concat_all : (ls : List (List ℕ)) (j : ℕ) → length ls ≤ j → concat (take j ls) ≡ concat ls
concat_all [] zero h = refl
concat_all [] (suc j) h = refl
concat_all (k ∷ ls) zero h = absurd (omega arith)
concat_all (k ∷ ls) (suc j) h = ap (λ t. k ++ t) (concat_all ls j (omega arith))

-- Line j of a plan stands at the front of a space.
pub record Written (p : Plan) (j : ℕ) (space : List ℕ) (long : ℕ) : Type 0 where
  pub line : List ℕ
  pub is : slice_get (plan_lines p) j ≡ Some line
  pub front : take long space ≡ line

-- Line j of a plan was put behind what stood before.
pub record Pushed (p : Plan) (j : ℕ) (before after : List ℕ) : Type 0 where
  pub line : List ℕ
  pub is : slice_get (plan_lines p) j ≡ Some line
  pub behind : after ≡ before ++ line

-- a line stands at the front of the space, up to its end; all behind is as it was
record Put (l : List ℕ) (space space' : List ℕ) (end : ℕ) : Type 0 where
  pub ends : end_of l 0 space ≡ Some end
  pub after : space' ≡ placed l 0 space

put_front : {l s t : List ℕ} {e : ℕ} → Put l s t e → take (e - 0) t ≡ l
put_front {l} {s} {t} {e} p = ap (take (e - 0)) p.after ∙ placed_between l s 0 e p.ends

-- a line that was answered stands at the front of the space
module _ (p : Plan) (j : ℕ) (space space' : List ℕ) where
  put_of : (n : ℕ) (t : Bool) (o : Option (List ℕ)) → Ok (Some n) ≡ line_answer t o space → space' ≡ line_space t o space → (l : List ℕ) × ((o ≡ Some l) × Put l space space' n)
  put_of n false o e q = let z : ◌≡◌ {A = ℕ} 0 1 = cc in absurd (omega arith)
  put_of n true None e q = let z : ◌≡◌ {A = ℕ} 0 1 = cc in absurd (omega arith)
  put_of n true (Some l) e q = (l, (refl, tested (fits l 0 space) refl e))
    where
      tested : (t : Bool) → fits l 0 space ≡ t → Ok (Some n) ≡ cond t (Ok (Some (length l))) (Err NoSpace) → Put l space space' n
      tested true r e = let is : n ≡ length l = cc in record { ends = ap (λ t. cond t (Some (0 + length l)) None) r ∙ ap Some (omega (arith, is)); after = q }
      tested false r e = let z : ◌≡◌ {A = ℕ} 0 1 = cc in absurd (omega arith)

  pub written : (n : ℕ) → AnswersLine p j space space' (Ok (Some n)) → Written p j space' n
  written n h =
      let l = put_of n (level (length p.values) (length p.policy)) (slice_get (plan_lines p) j) h.answer h.after in
      record { line = l.0; is = l.1.0; front = ap (λ k. take k space') (sym (sub-zero n)) ∙ put_front l.1.1 }

  module _ (some : 1 ≤ length p.values) (few : length p.values ≤ most_states) (even : length p.policy ≡ length p.values) (inside : j < length p.values + 4) (wide : length space ≡ line_room) where
    levelled : level (length p.values) (length p.policy) ≡ true
    levelled =
        let same = eq-eqb (length p.policy) (length p.values) even in
        let least = le-leb 1 (length p.values) some in
        let most = le-leb (length p.values) most_states few in
        simp (same, least, most)

    -- so there is a line, and it is not refused
    not_absent : AnswersLine p j space space' (Ok None) → ⊥
    not_absent h = absent (slice_get (plan_lines p) j) refl (h.answer ∙ ap (λ t. line_answer t (slice_get (plan_lines p) j) space) levelled)
      where
        absent : (o : Option (List ℕ)) → slice_get (plan_lines p) j ≡ o → Ok None ≡ line_answer true o space → ⊥
        absent None q e = let found = slice_get-get_or (plan_lines p) j [] (omega (arith, lines_long p)) in cc
        absent (Some l) q e = tested (fits l 0 space) e
          where
            tested : (t : Bool) → Ok None ≡ cond t (Ok (Some (length l))) (Err NoSpace) → ⊥
            tested true e = let z : ◌≡◌ {A = ℕ} 0 1 = cc in omega arith
            tested false e = let z : ◌≡◌ {A = ℕ} 0 1 = cc in omega arith

    not_refused : (x : LineRefusal) → AnswersLine p j space space' (Err x) → Tight space (Err x) → ⊥
    not_refused NoSpace h t = omega (arith, t, wide)
    not_refused WrongLength h t = wrong (slice_get (plan_lines p) j) (h.answer ∙ ap (λ t. line_answer t (slice_get (plan_lines p) j) space) levelled)
      where
        wrong : (o : Option (List ℕ)) → Err WrongLength ≡ line_answer true o space → ⊥
        wrong None e = let z : ◌≡◌ {A = ℕ} 0 1 = cc in omega arith
        wrong (Some l) e = tested (fits l 0 space) e
          where
            tested : (t : Bool) → Err WrongLength ≡ cond t (Ok (Some (length l))) (Err NoSpace) → ⊥
            tested true e = let z : ◌≡◌ {A = ℕ} 0 1 = cc in omega arith
            tested false e = let z : ◌≡◌ {A = ℕ} 0 1 = cc in omega arith

    -- it is answered by its length
    pub answered : (r : Result (Option ℕ) LineRefusal) → AnswersLine p j space space' r → Tight space r → (n : ℕ) × (r ≡ Ok (Some n))
    answered (Ok (Some n)) h t = (n, refl)
    answered (Ok None) h t = absurd (not_absent h)
    answered (Err x) h t = absurd (not_refused x h t)

-- a written line is put behind the others
pub pushed : (p : Plan) (j n : ℕ) (space before after : List ℕ) → Written p j space n → after ≡ before ++ take (n - 0) space → Pushed p j before after
pushed p j n space before after w e = record { line = w.line; is = w.is; behind = e ∙ ap (λ t. before ++ t) (ap (λ k. take k space) (sub-zero n) ∙ w.front) }

-- and so are all lines in turn
pub one_more : (p : Plan) (j : ℕ) (start before after : List ℕ) → before ≡ start ++ concat (take j (plan_lines p)) → Pushed p j before after → after ≡ start ++ concat (take (j + 1) (plan_lines p))
one_more p j start before after e h =
    h.behind ∙ ap (λ t. t ++ h.line) e ∙ append_assoc start (concat (take j (plan_lines p))) h.line ∙ ap (λ t. start ++ t) (sym (concat_more (plan_lines p) j h.line h.is) ∙ ap (λ k. concat (take k (plan_lines p))) (sym (add-one j)))

pub all_lines : (p : Plan) (j : ℕ) (start out : List ℕ) → length p.values + 4 ≤ j → out ≡ start ++ concat (take j (plan_lines p)) → out ≡ start ++ plan_text p
all_lines p j start out h e = e ∙ ap (λ t. start ++ t) (concat_all (plan_lines p) j (omega (arith, lines_long p)))
