use Rattle.std.proofs.Common.{◌≡◌, Err, sym, ap, ◌∙◌, subst}
use Rattle.std.proofs.lemmas.Result.{err_from_is_err_and}
use Rattle.chaintext.proofs.ChainTextLaw.{Read, lines_lawful, made_read, refused_read}
use Rattle.chaintext.proofs.Forgets.{chain_of}
use Rattle.chaintext.proofs.SampleLaws.{sample_begins}
use Rattle.chaintext.proofs.read.read_chain.Goals as goal

pub returns-in_err-complete : goal.returns-in_err-complete
returns-in_err-complete c =
    let p = err_from_is_err_and c.from_residual.result c.from_residual.ensures.1 in
    let is : c.from_residual.result ≡ Err c.in_err-complete.field-0.0 = p.1 ∙ ap Err p.2 in
    let r = subst (Read c.args.lines.now.rest.now c.args.lines.now.place c.read_lines.new.lines.rest.now c.read_lines.new.lines.place) (sym is) (refused_read _ _ _ _ c.in_err-complete.field-0.0 c.in_err-complete.ensures) in
    record { reads = chain_of _ _ _ _ c.from_residual.result r.counts; counts = r.counts; law = r.law; sample = sample_begins }

pub make_chain-requires : goal.make_chain-requires
make_chain-requires c = lines_lawful c.args.lines.now.rest.now c.args.lines.now.place c.read_lines.new.lines.rest.now c.read_lines.new.lines.place c.in_ok-complete.complete.reader c.in_ok-complete.ensures.0

pub returns : goal.returns
returns c =
    let r = made_read c.args.lines.now.rest.now c.args.lines.now.place c.read_lines.new.lines.rest.now c.read_lines.new.lines.place c.in_ok-complete.complete c.make_chain.result c.in_ok-complete.ensures c.make_chain.ensures in
    record { reads = chain_of _ _ _ _ c.make_chain.result r.counts; counts = r.counts; law = r.law; sample = sample_begins }
