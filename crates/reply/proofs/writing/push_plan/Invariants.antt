use Rattle.std.proofs.Common.{◌≡◌, ◌++◌, take, vec_items}
use Rattle.plantext.specs.Lines.{plan_lines, concat}
use Rattle.reply.specs.Plans.{plan_of}
use Rattle.reply.proofs.writing.push_plan.Given as goal

abbrev pub invariant-loop-j : goal.invariant-loop-j
invariant-loop-j g l = vec_items l.out ≡ vec_items l.initial.out ++ concat (take l.j (plan_lines (plan_of g.T.Tariff.row l.values l.policy l.claims)))
