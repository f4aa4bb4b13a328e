use Rattle.std.proofs.Common.{Ok}
use Rattle.reply.proofs.NextLines.{at_end, tail}
use Rattle.desk.proofs.OpeningLaws.{follows, behind}
use Rattle.desk.proofs.opening.follow_behind.Goals as goal

pub returns : goal.returns
returns g c =
    let t = c.in_ok-tariff.ensures in
    let s = c.in_ok-sweeps.ensures in
    let e = c.in_ok-read_end.ensures in
    let m = g.P.Plant.model c.args.plant.now in
    let text = c.args.lines.now.rest.now in
    follows
    c.follow_under.result
    (λ r h. at_end m text c.args.lines.now.place c.in_ok-tariff.tariff t.value c.read_tariff.new.lines.rest.now c.read_tariff.new.lines.place t.rest t.count r c.in_ok-sweeps.sweeps s.value c.read_sweeps.new.lines.rest.now c.read_sweeps.new.lines.place s.rest s.count (Ok tt) e.value h)
    (λ u. tail text c.read_tariff.new.lines.rest.now c.read_sweeps.new.lines.rest.now c.in_ok-tariff.tariff c.in_ok-sweeps.sweeps t.law s.law e.law)
    (λ desk h. (behind m desk.talk.items text c.read_tariff.new.lines.rest.now c.read_sweeps.new.lines.rest.now c.in_ok-tariff.tariff c.in_ok-sweeps.sweeps t.law s.law e.law h.0, h.1))
    c.follow_under.ensures
