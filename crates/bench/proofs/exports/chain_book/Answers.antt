use Rattle.std.proofs.Common.{inr, refl}
use Rattle.std.proofs.lemmas.Result.{err_from_is_err_and}
use Rattle.bench.proofs.exports.chain_book.Goals as goal

pub returns-in_err-told_book : goal.returns-in_err-told_book
returns-in_err-told_book c =
    let p = err_from_is_err_and c.from_residual-in_err-told_book.result c.from_residual-in_err-told_book.ensures.1 in
    rw (p.1, p.2) (inr (c.in_ok-chain_in.field-0, c.in_ok-chain_in.ensures, (c.in_err-told_book.field-0.0, refl)))
