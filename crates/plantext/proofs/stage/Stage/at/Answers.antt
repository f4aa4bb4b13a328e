use Rattle.std.proofs.Common.{◌-◌, ◌≤◌, Some, sym, ap, ◌∙◌, zero-add, arith}
use Rattle.std.specs.List.{slice_get}
use Rattle.std.proofs.lemmas.Cmp.{ranked}
use Rattle.plantext.specs.declared.stage.Stage.TheVariants.{Row}
use Rattle.plantext.proofs.LineLaws.{row_stage, end_stage, no_stage, stage_past, row_stages}
use Rattle.plantext.proofs.stage.Stage.at.Goals as goal

pub returns-in-Less-clause-value : goal.returns-in-Less-clause-value
returns-in-Less-clause-value c =
    let past : 3 ≤ c.args.j = omega arith in
    let below = ranked _ _ _ (sym c.in-Less.is ∙ c.cmp.ensures) in
    sym (stage_past c.args.states c.args.j past ∙ row_stage 0 c.args.states (c.args.j - 3) below ∙ ap (λ k. Some (Row k)) (zero-add (c.args.j - 3)))

pub returns-in-Equal-clause-value : goal.returns-in-Equal-clause-value
returns-in-Equal-clause-value c =
    let past : 3 ≤ c.args.j = omega arith in
    let is = ranked _ _ _ (sym c.in-Equal.is ∙ c.cmp.ensures) in
    sym (stage_past c.args.states c.args.j past ∙ ap (slice_get (row_stages c.args.states)) is ∙ end_stage 0 c.args.states)

pub returns-in-Greater-clause-value : goal.returns-in-Greater-clause-value
returns-in-Greater-clause-value c =
    let past : 3 ≤ c.args.j = omega arith in
    let beyond = ranked _ _ _ (sym c.in-Greater.is ∙ c.cmp.ensures) in
    sym (stage_past c.args.states c.args.j past ∙ no_stage 0 c.args.states (c.args.j - 3) beyond)
