use Rattle.std.proofs.Common.{◌∷◌, ap, ◌∙◌}
use Rattle.desk.specs.declared.talk.Turn.TheVariants.{Told}
use Rattle.desk.specs.Talks.{turns_in, shows_in}
use Rattle.desk.proofs.HistoryLaws.{entered}
use Rattle.desk.proofs.TalkLaws.{goes_on}
use Rattle.desk.proofs.desk.Desk.say.Goals as goal

pub invariant_of-self : goal.invariant_of-self
invariant_of-self g c =
    let heard = g.L.Terminal.heard in
    let said = g.L.Terminal.said in
    let old = c.args.self.now in
    let line = c.say.ensures.said ∙ ap (λ l. l ∷ said old.terminal) c.line.ensures in
    record { is_talk = goes_on (heard old.terminal) (said old.terminal) (heard c.say.new.self) (said c.say.new.self) old.talk.items c.and-self.result.items (Told c.args.told, tt) old.is_talk c.say.ensures.heard line c.and-self.ensures }

pub returns-clause-turns : goal.returns-clause-turns
returns-clause-turns g c = entered turns_in c.args.self.now.talk.items c.and-self.result.items (Told c.args.told) c.and-self.ensures

pub returns-clause-shown : goal.returns-clause-shown
returns-clause-shown g c = entered shows_in c.args.self.now.talk.items c.and-self.result.items (Told c.args.told) c.and-self.ensures
