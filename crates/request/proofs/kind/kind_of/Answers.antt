use Rattle.std.proofs.Common.{◌≡◌, rules}
use Rattle.request.specs.Requests.{read_kind}
use Rattle.request.proofs.Written.{kind_read}
use Rattle.request.proofs.kind.kind_of.Goals as goal

pub returns-clause-law : goal.returns-clause-law
returns-clause-law c =
    let value : c.read_due.result ≡ read_kind c.args.text.now = search rules in
    kind_read _ _ value
