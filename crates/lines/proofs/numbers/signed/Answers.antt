use Rattle.std.proofs.Common.{◌≡◌, rules, get_or, ◌∙◌}
use Rattle.lines.specs.Numeral.{minus_sign}
use Rattle.lines.proofs.NumeralLaws.{signed_minus, signed_at}
use Rattle.lines.proofs.numbers.signed.Goals as goal

pub returns-in_err-number-in-45-clause-law : goal.returns-in_err-number-in-45-clause-law
returns-in_err-number-in-45-clause-law c =
    let led : get_or c.args.text.now 0 0 ≡ minus_sign = search rules in
    signed_at _ _ (c.from_residual.ensures ∙ signed_minus c.args.text.now _ led c.in_err-number-in-45.ensures.value)

pub returns-in_ok-number-in-45-clause-law : goal.returns-in_ok-number-in-45-clause-law
returns-in_ok-number-in-45-clause-law c =
    let led : get_or c.args.text.now 0 0 ≡ minus_sign = search rules in
    signed_at _ _ (c.negate.ensures ∙ signed_minus c.args.text.now _ led c.in_ok-number-in-45.ensures.value)
