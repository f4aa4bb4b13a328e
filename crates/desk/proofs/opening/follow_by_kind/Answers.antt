use Rattle.std.proofs.Common.{Ok, Err, sym, refl, ap, ◌∙◌, subst}
use Rattle.std.proofs.lemmas.Result.{err_from_is_err_and}
use Rattle.reply.specs.declared.answer.Refusal.TheVariants.{Broken}
use Rattle.reply.specs.Replies.{AtKind}
use Rattle.reply.proofs.Beginnings.{from_chain, from_pair, chain_requested, pair_requested}
use Rattle.desk.proofs.OpeningLaws.{follows, chain_followed, pair_followed}
use Rattle.desk.proofs.opening.follow_by_kind.Goals as goal

pub returns-in_err-chain-in-Chain : goal.returns-in_err-chain-in-Chain
returns-in_err-chain-in-Chain g c =
    let text = c.args.text.now in
    let start = c.new-lines in
    let e = c.in_err-chain-in-Chain.ensures in
    let p = err_from_is_err_and c.from_residual-in_err-chain-in-Chain.result c.from_residual-in_err-chain-in-Chain.ensures.1 in
    let broken = Err (Broken c.in_err-chain-in-Chain.field-0.0) in
    let reads = from_chain text start.result.rest.now start.result.place start.ensures.rest start.ensures.place c.read_chain.new.lines.rest.now c.read_chain.new.lines.place (Err c.in_err-chain-in-Chain.field-0.0) e.counts e.law broken refl in
    rw (p.1, p.2) (subst (λ q. AtKind text q broken) (ap Ok (sym c.in-Chain.is) ∙ c.in_ok-kind.ensures.value) reads)

pub returns-in_ok-chain-in-Chain : goal.returns-in_ok-chain-in-Chain
returns-in_ok-chain-in-Chain g c =
    let text = c.args.text.now in
    let start = c.new-lines in
    let e = c.in_ok-chain-in-Chain.ensures in
    let rest = c.read_chain.new.lines.rest.now in
    let place = c.read_chain.new.lines.place in
    let chain = c.in_ok-chain-in-Chain.chain in
    let reads = from_chain text start.result.rest.now start.result.place start.ensures.rest start.ensures.place rest place (Ok chain) e.counts e.law in
    let requested = chain_requested text start.result.rest.now start.result.place start.ensures.rest start.ensures.place rest place chain e.law in
    let named = ap Ok (sym c.in-Chain.is) ∙ c.in_ok-kind.ensures.value in
    follows
    c.follow_behind.result
    (λ r h. subst (λ q. AtKind text q r) named (reads r h))
    requested
    (λ desk h. (chain_followed desk.talk.items text start.result.rest.now rest start.ensures.rest chain e.law h.0, h.1))
    c.follow_behind.ensures

pub returns-in_err-pair-in-Pair : goal.returns-in_err-pair-in-Pair
returns-in_err-pair-in-Pair g c =
    let text = c.args.text.now in
    let start = c.new-lines in
    let e = c.in_err-pair-in-Pair.ensures in
    let p = err_from_is_err_and c.from_residual-in_err-pair-in-Pair.result c.from_residual-in_err-pair-in-Pair.ensures.1 in
    let broken = Err (Broken c.in_err-pair-in-Pair.field-0.0) in
    let reads = from_pair text start.result.rest.now start.result.place start.ensures.rest start.ensures.place c.read_pair.new.lines.rest.now c.read_pair.new.lines.place (Err c.in_err-pair-in-Pair.field-0.0) e.answer e.rest e.place e.law broken refl in
    rw (p.1, p.2) (subst (λ q. AtKind text q broken) (ap Ok (sym c.in-Pair.is) ∙ c.in_ok-kind.ensures.value) reads)

pub returns-in_ok-pair-in-Pair : goal.returns-in_ok-pair-in-Pair
returns-in_ok-pair-in-Pair g c =
    let text = c.args.text.now in
    let start = c.new-lines in
    let e = c.in_ok-pair-in-Pair.ensures in
    let rest = c.read_pair.new.lines.rest.now in
    let place = c.read_pair.new.lines.place in
    let pair = c.in_ok-pair-in-Pair.pair in
    let reads = from_pair text start.result.rest.now start.result.place start.ensures.rest start.ensures.place rest place (Ok pair) e.answer e.rest e.place e.law in
    let requested = pair_requested text start.result.rest.now start.result.place start.ensures.rest start.ensures.place rest place pair e.law in
    let named = ap Ok (sym c.in-Pair.is) ∙ c.in_ok-kind.ensures.value in
    follows
    c.follow_behind-in-Pair.result
    (λ r h. subst (λ q. AtKind text q r) named (reads r h))
    requested
    (λ desk h. (pair_followed desk.talk.items text start.result.rest.now rest start.ensures.rest pair e.law h.0, h.1))
    c.follow_behind-in-Pair.ensures
