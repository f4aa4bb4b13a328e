use Rattle.std.proofs.Common.{ap, ◌∙◌, length, arith}
use Rattle.lines.specs.Fields.{further}
use Rattle.lines.proofs.FieldLaws.{first_fields}
use Rattle.lines.proofs.cutting.FieldsIterator.next.Goals as goal

pub returns-clause-steps : goal.returns-clause-steps
returns-clause-steps c = ap further c.in_ok-self.was ∙ first_fields c.in_ok-self.field-0.now c.first_field.result c.first_field.ensures

pub returns-clause-goes : goal.returns-clause-goes
returns-clause-goes c =
    let step = ap further c.in_ok-self.was ∙ first_fields c.in_ok-self.field-0.now c.first_field.result c.first_field.ensures in
    record { on = λ f. (tt, tt, omega (arith, ap length step)); keeps = tt; rests = λ f. tt }
