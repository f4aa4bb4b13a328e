use Rattle.std.proofs.Common.{length}
use Rattle.reading.proofs.values.+take_numbers.Given as goal

abbrev pub decreases-take_numbers : goal.decreases-take_numbers
decreases-take_numbers l = length l.out.now
