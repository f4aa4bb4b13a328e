use Rattle.desk.specs.Streams.{said_line}
use Rattle.desk.proofs.HistoryLaws.{entered}
use Rattle.desk.proofs.streams.StreamsTerminal.say.Goals as goal

pub returns-clause-said : goal.returns-clause-said
returns-clause-said g c = entered said_line c.args.self.now.said.items c.and-self.result.items c.args.line.now c.and-self.ensures
