use Rattle.std.proofs.Common.{◌≡◌, Some, Ok, IsSome, sym, refl, ap, ◌∙◌, subst, arith}
use Rattle.std.proofs.lemmas.List.{length-map}
use Rattle.plantext.specs.Spaces.{AnswersLine}
use Rattle.reply.specs.Plans.{plan_of}
use Rattle.reply.proofs.PlanLines.{written, answered, pushed, one_more, all_lines}
use Rattle.reply.proofs.writing.push_plan.Goals as goal

pub unwrap-length-requires : goal.unwrap-length-requires
unwrap-length-requires g c =
    let same = length-map c.args.values.now g.T.Tariff.row in
    let line = c.plan_line-written in
    let h = answered (plan_of g.T.Tariff.row c.args.values.now c.args.policy.now c.args.claims) c.loop-j.j c.loop-j.space line.new.space (omega arith) (omega arith) (omega arith) (omega arith) c.loop-j-test.array_long line.result line.ensures.line line.ensures.tight in
    let both = sym c.unwrap.ensures ∙ h.1 in
    let is : c.unwrap.result ≡ Some h.0 = cc in
    subst IsSome (sym is) refl

pub loop-j-preserved : goal.loop-j-preserved
loop-j-preserved g c =
    let p = plan_of g.T.Tariff.row c.args.values.now c.args.policy.now c.args.claims in
    let line = c.plan_line-written in
    let is = subst (AnswersLine p c.loop-j.j c.loop-j.space line.new.space) (c.unwrap.ensures ∙ ap Ok c.unwrap-length.ensures) line.ensures.line in
    one_more p c.loop-j.j _ _ _ c.loop-j.invariant (pushed p c.loop-j.j c.unwrap-length.result line.new.space _ _ (written p c.loop-j.j c.loop-j.space line.new.space c.unwrap-length.result is) c.in_ok-extend_from_slice.ensures.items)

pub returns : goal.returns
returns g c =
    let same = length-map c.args.values.now g.T.Tariff.row in
    all_lines (plan_of g.T.Tariff.row c.args.values.now c.args.policy.now c.args.claims) c.loop-j.j _ _ (omega arith) c.loop-j.invariant
