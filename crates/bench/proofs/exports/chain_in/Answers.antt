use Rattle.std.proofs.Common.{subst}
use Rattle.chaintext.specs.Counted.{CountedChain}
use Rattle.bench.proofs.exports.chain_in.Goals as goal

pub returns : goal.returns
returns c =
    let rest = c.read_chain.new.lines.rest.now in
    let lines = c.read_chain.new.lines.place in
    (rest, (lines, subst (λ place. CountedChain c.args.text.now place rest lines c.read_chain.result) c.new.ensures.place (subst (λ text. CountedChain text c.new.result.place rest lines c.read_chain.result) c.new.ensures.rest c.read_chain.ensures.counts)))
