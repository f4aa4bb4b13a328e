use Rattle.std.proofs.Common.{◌≡◌, ℕ, List, map, length, Some, None, Option, sym, ap, ◌∙◌, subst}
use Rattle.std.specs.List.{slice_get}
use Rattle.std.specs.Option.{option_map, ok_or}
use Rattle.std.proofs.lemmas.List.{length-map}
use Rattle.std.proofs.lemmas.Result.{err_from_is_err_and}
use Rattle.interface.specs.Rows.{Row}
use Rattle.interface.specs.declared.claims.Claims.{Claims}
use Rattle.lines.specs.Placed.{end_of, placed}
use Rattle.plantext.specs.declared.refusal.LineRefusal.TheVariants.{NoSpace}
use Rattle.plantext.specs.declared.stage.Stage.{Stage}
use Rattle.plantext.specs.Answers.{plan_of}
use Rattle.plantext.specs.Lines.{Plan, stages, stage_line, plan_lines}
use Rattle.plantext.specs.Spaces.{level, HeldLine}
use Rattle.plantext.proofs.LineLaws.{line_at, past_last, line_written, line_too_long}
use Rattle.plantext.proofs.writing.plan_line.Goals as goal

-- the tables are level as rows too
level_rows : {A B : Type 0} (row : A → B) (xs : List A) (m : ℕ) {t : _} → t ≡ level (length xs) m → level (length (map row xs)) m ≡ t
level_rows row xs m h = ap (λ n. level n m) (length-map xs row) ∙ sym h

-- the line at a stage that was found
line_found : {A : Type 0} (p : Plan) (xs : List A) (j : ℕ) (o : Option Stage) → length p.values ≡ length xs → o ≡ slice_get (stages (length xs)) j → slice_get (plan_lines p) j ≡ option_map (stage_line p) o
line_found p xs j o same is = line_at p j ∙ ap (option_map (stage_line p)) (ap (λ n. slice_get (stages n) j) same ∙ sym is)

-- a view of the tables is the plan that they mean
same_plan : {A : Type 0} (row : A → Row) {vs vs' : List A} {xs xs' : List ℕ} {c c' : Claims A} → vs ≡ vs' → xs ≡ xs' → c ≡ c' → plan_of row (record { values = vs; policy = xs }) c ≡ plan_of row (record { values = vs'; policy = xs' }) c'
same_plan row a b d = cc

-- a stage that was found is the only one
stage_held : {A : Type 0} (places : ℕ) (p : Plan) (xs : List A) (j : ℕ) (a b : Stage) → length p.values ≡ length xs → Some a ≡ slice_get (stages (length xs)) j → slice_get (stages (length p.values)) j ≡ Some b → HeldLine places p a → HeldLine places p b
stage_held places p xs j a b same found is h =
    let one : Some a ≡ Some b = found ∙ ap (λ n. slice_get (stages n) j) (sym same) ∙ is in
    let equal : a ≡ b = cc in
    subst (HeldLine places p) equal h

pub returns-in_default-clause-line : goal.returns-in_default-clause-line
returns-in_default-clause-line g c =
    let p = plan_of g.T.Tariff.row (record { values = c.args.values.now; policy = c.args.policy.now }) c.args.claims in
    let h = level_rows g.T.Tariff.row c.args.values.now (length c.args.policy.now) c.in_ok-plan.ensures.told in
    past_last p c.args.j c.args.space.now h (line_found p c.args.values.now c.args.j None (length-map c.args.values.now g.T.Tariff.row) c.in_default.ensures.value)

pub returns-in_err-end-clause-line : goal.returns-in_err-end-clause-line
returns-in_err-end-clause-line g c =
    let p = plan_of g.T.Tariff.row (record { values = c.args.values.now; policy = c.args.policy.now }) c.args.claims in
    let same = c.in_ok-plan.ensures.ok in
    let h = level_rows g.T.Tariff.row c.args.values.now (length c.args.policy.now) c.in_ok-plan.ensures.told in
    let is = line_found p c.args.values.now c.args.j (Some c.in-Some.stage) (length-map c.args.values.now g.T.Tariff.row) c.in-Some.ensures.value in
    let text = c.as_slice.ensures.text ∙ c.line-line.ensures.text ∙ ap (λ q. stage_line q c.in-Some.stage) (same_plan g.T.Tariff.row same.0 same.1 same.2) in
    let wrote = c.write_bytes.ensures in
    let e = err_from_is_err_and c.from_residual-in_err-end.result c.from_residual-in_err-end.ensures.1 in
    let told = c.in_err-end.ensures.value ∙ ap (λ o. ok_or o NoSpace) c.in_err-end.ensures.ok_part in
    let no_space : e.0 ≡ NoSpace = cc in
    rw (e.1, no_space) (line_too_long p c.args.j c.args.space.now h (stage_line p c.in-Some.stage) c.write_bytes.new.out is (sym (sym c.in_err-end.ensures.ok_part ∙ wrote.end ∙ ap (λ t. end_of t 0 c.args.space.now) text)) (wrote.after ∙ ap (λ t. placed t 0 c.args.space.now) text))

pub returns-clause-line : goal.returns-clause-line
returns-clause-line g c =
    let p = plan_of g.T.Tariff.row (record { values = c.args.values.now; policy = c.args.policy.now }) c.args.claims in
    let same = c.in_ok-plan.ensures.ok in
    let h = level_rows g.T.Tariff.row c.args.values.now (length c.args.policy.now) c.in_ok-plan.ensures.told in
    let is = line_found p c.args.values.now c.args.j (Some c.in-Some.stage) (length-map c.args.values.now g.T.Tariff.row) c.in-Some.ensures.value in
    let text = c.as_slice.ensures.text ∙ c.line-line.ensures.text ∙ ap (λ q. stage_line q c.in-Some.stage) (same_plan g.T.Tariff.row same.0 same.1 same.2) in
    let wrote = c.write_bytes.ensures in
    line_written p c.args.j c.args.space.now h (stage_line p c.in-Some.stage) c.write_bytes.new.out c.in_ok-end.end is (sym (sym c.in_ok-end.ensures.ok_part ∙ wrote.end ∙ ap (λ t. end_of t 0 c.args.space.now) text)) (wrote.after ∙ ap (λ t. placed t 0 c.args.space.now) text)

pub returns-clause-held : goal.returns-clause-held
returns-clause-held g c =
    let p = plan_of g.T.Tariff.row (record { values = c.args.values.now; policy = c.args.policy.now }) c.args.claims in
    let places = (g.T.Tariff.scale c.args.tariff.now).places in
    let same = c.in_ok-plan.ensures.ok in
    let held = subst (λ q. HeldLine places q c.in-Some.stage) (same_plan g.T.Tariff.row same.0 same.1 same.2) c.line-line.ensures.held in
    λ st e. stage_held places p c.args.values.now c.args.j c.in-Some.stage st (length-map c.args.values.now g.T.Tariff.row) c.in-Some.ensures.value e held
