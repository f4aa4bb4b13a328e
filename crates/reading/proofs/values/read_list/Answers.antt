use Rattle.std.proofs.Common.{arith}
use Rattle.reading.proofs.ValueLaws.{list_law}
use Rattle.reading.proofs.values.read_list.Goals as goal

pub returns-clause-law : goal.returns-clause-law
returns-clause-law c = list_law _ _ _ (omega arith)
