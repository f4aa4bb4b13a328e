use Rattle.std.proofs.Common.{◌≡◌, ◌-◌, take}
use Rattle.lines.specs.Fields.{further}
use Rattle.reading.specs.Values.{numbers_of, list_of}
use Rattle.reading.proofs.ListLaws.{onto}
use Rattle.reading.proofs.values.number_list.Given as goal

abbrev pub invariant-loop-number : goal.invariant-loop-number
invariant-loop-number g l =
    list_of l.value l.most l.count ≡ onto (take l.number-index l.number-items) (numbers_of (further l.fields.rest) l.most (l.count - l.number-index))
