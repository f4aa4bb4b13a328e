use Rattle.reply.proofs.Beginnings.{follows}
use Rattle.reply.proofs.Requested.{reply_law}
use Rattle.reply.proofs.replying.reply_to.Goals as goal

pub returns-clause-law : goal.returns-clause-law
returns-clause-law c = follows c.reply_by_kind.result (reply_law c.args.text.now) (λ w. w) c.reply_by_kind.ensures
