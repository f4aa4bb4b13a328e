use Rattle.std.proofs.Common.{◌≡◌, ◌*◌, Some, rules, sym}
use Rattle.pair.specs.Pairs.{moved_by}
use Rattle.pair.specs.Outcomes.{some_outcome}
use Rattle.pair.specs.States.{grades_of}
use Rattle.pair.specs.Units.{hundredths}
use Rattle.pair.proofs.plant.PairPlant.outcome.Goals as goal

pub returns : goal.returns
returns c =
    let n = c.args.self.now.numbers in
    let units = c.in_ok-rows.ensures.units in
    let moved = c.in_ok-rows.ensures.rows in
    let next : Some c.in_ok-next.next ≡ grades_of n c.args.k = search rules in
    let weight : c.weight.result ≡ hundredths n.one (moved_by n c.args.state c.args.portfolio).one c.in_ok-next.next.one * hundredths n.two (moved_by n c.args.state c.args.portfolio).two c.in_ok-next.next.two = rw (← moved.0, ← moved.1, ← units.0, ← units.1) c.weight.ensures in
    some_outcome n c.args.state c.args.portfolio c.args.k c.weight.result c.in_ok-next.next (sym c.in_ok-rows.ensures.present) next weight
