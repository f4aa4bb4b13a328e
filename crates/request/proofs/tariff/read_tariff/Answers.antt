use Rattle.std.proofs.Common.{◌≡◌, rules}
use Rattle.request.specs.Requests.{read_tariff}
use Rattle.request.proofs.Written.{tariff_read}
use Rattle.request.proofs.tariff.read_tariff.Goals as goal

pub returns-clause-law : goal.returns-clause-law
returns-clause-law c =
    let value : c.read_due.result ≡ read_tariff c.args.lines.now.rest.now c.args.lines.now.place = search rules in
    tariff_read _ _ c.args.lines.now.place _ value c.next_line.ensures.rest
