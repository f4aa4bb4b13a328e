use Rattle.std.proofs.Common.{◌≡◌, ◌<◌, length, rules, None, sym, ap, ◌∙◌, arith}
use Rattle.std.proofs.lemmas.Bool.Decides.{nat_tests}
use Rattle.lines.specs.Numeral.{numeral, pushed}
use Rattle.lines.proofs.FoldLaws.{tried_by_fold}
use Rattle.lines.proofs.NumeralLaws.{read_on, numeral_read, number_at}
use Rattle.lines.proofs.numbers.number.Goals as goal

pub returns-then-is_empty-clause-law : goal.returns-then-is_empty-clause-law
returns-then-is_empty-clause-law c =
    let same : None ≡ numeral c.args.text.now c.args.most = search rules in
    number_at _ _ _ c.ranges.most.fits same

pub returns : goal.returns
returns c =
    let some : 0 < length c.args.text.now = grind (arith, nat_tests) in
    let read = tried_by_fold _ (λ v d. pushed v d c.args.most) (λ v x r q k. search rules) 0 _ c.try_fold.ensures.ran in
    let same : c.try_fold.result ≡ numeral c.args.text.now c.args.most = read ∙ ap (read_on c.args.most 0) c.iter.ensures.rest ∙ sym (numeral_read _ _ some (sym c.if-has_needless_zero.ensures)) in
    record { value = same; law = number_at _ _ _ c.ranges.most.fits same }
