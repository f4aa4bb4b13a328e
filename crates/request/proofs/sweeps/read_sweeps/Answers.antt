use Rattle.std.proofs.Common.{◌≡◌, rules}
use Rattle.request.specs.Requests.{read_sweeps}
use Rattle.request.proofs.Written.{sweeps_read}
use Rattle.request.proofs.sweeps.read_sweeps.Goals as goal

pub returns-clause-law : goal.returns-clause-law
returns-clause-law c =
    let value : c.map.result ≡ read_sweeps c.args.lines.now.rest.now c.args.lines.now.place = search rules in
    sweeps_read _ _ c.args.lines.now.place _ value c.next_line-read.ensures.rest
