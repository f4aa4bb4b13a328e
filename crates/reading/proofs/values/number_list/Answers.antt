use Rattle.std.proofs.Common.{◌∙◌, arith}
use Rattle.reading.proofs.ListLaws.{field_read, list_ended}
use Rattle.reading.proofs.ValueLaws.{list_law}
use Rattle.reading.proofs.values.number_list.Goals as goal

pub loop-number-preserved : goal.loop-number-preserved
loop-number-preserved g c =
    field_read _ _ c.args.most c.args.count c.loop-number.number-index _ c.loop-number.invariant _ _ c.in_ok-next.ensures.steps _ (omega arith) (omega arith) c.in_ok-number.ensures.value

pub returns-clause-value : goal.returns-clause-value
returns-clause-value g c =
    let ended = list_ended c.args.value.now g.row.N c.args.most c.args.count c.loop-number.number-index c.loop-number.number-items _ _ c.next-2.result c.is_none.result c.loop-number.invariant (omega arith) (omega arith) (omega arith) c.next-2.ensures.steps c.is_none.ensures in
    c.then_some.ensures ∙ ended

pub returns-then-count-clause-law : goal.returns-then-count-clause-law
returns-then-count-clause-law g c = list_law _ _ _ (omega arith)

pub returns-clause-law : goal.returns-clause-law
returns-clause-law g c = list_law _ _ _ (omega arith)
