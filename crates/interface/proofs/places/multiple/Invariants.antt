use Rattle.std.proofs.Common.{◌≡◌, ◌++◌, take, drop}
use Rattle.interface.specs.Rows.{times}
use Rattle.interface.proofs.places.multiple.Given as goal

abbrev pub invariant-loop-place : goal.invariant-loop-place
invariant-loop-place g l = l.place-items ≡ take l.place-index (times l.factor l.fn.a) ++ drop l.place-index l.fn.a
