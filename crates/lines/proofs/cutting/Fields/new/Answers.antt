use Rattle.lines.proofs.FieldLaws.{fields_law}
use Rattle.lines.proofs.cutting.Fields.new.Goals as goal

pub returns-clause-law : goal.returns-clause-law
returns-clause-law c = fields_law c.args.text.now
