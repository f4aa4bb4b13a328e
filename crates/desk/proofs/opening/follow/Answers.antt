use Rattle.reply.proofs.Requested.{reply_law}
use Rattle.desk.proofs.OpeningLaws.{follows}
use Rattle.desk.proofs.opening.follow.Goals as goal

pub returns-clause-law : goal.returns-clause-law
returns-clause-law g c = follows c.follow_by_kind.result (reply_law c.args.text.now) (λ w. w) (λ desk h. h) c.follow_by_kind.ensures
