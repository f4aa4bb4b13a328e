use Rattle.std.proofs.Common.{◌+◌, ◌++◌, length}
use Rattle.plantext.specs.Lines.{states_line}
use Rattle.plantext.specs.Progress.{progress}
use Rattle.plantext.specs.Reading.{first_fault, stages_behind}
use Rattle.plantext.proofs.Fronts.{SoFar}
use Rattle.plantext.proofs.reading.Reader.read_behind.Given as goal

abbrev pub invariant-loop-self : goal.invariant-loop-self
invariant-loop-self g l =
    let places = (g.T.Tariff.scale l.tariff).places in
    let n = length l.initial.values in
    SoFar places n (states_line n ++ l.initial.lines.rest.now) (first_fault places (stages_behind n) (l.initial.lines.place + 1) l.initial.lines.rest.now) l.self.due (progress g.T.Tariff.row l.self l.values l.policy).plan (l.lines.place + 1) l.lines.rest.now

abbrev pub decreases-loop-self : goal.decreases-loop-self
decreases-loop-self g l = length l.lines.rest.now
