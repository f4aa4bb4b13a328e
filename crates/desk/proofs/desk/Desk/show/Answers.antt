use Rattle.std.proofs.Common.{List, ℕ, ◌∷◌, ap, ◌∙◌}
use Rattle.desk.specs.declared.talk.Turn.TheVariants.{Shown}
use Rattle.desk.specs.Talks.{turns_in, shows_in}
use Rattle.desk.proofs.HistoryLaws.{entered}
use Rattle.desk.proofs.TalkLaws.{goes_on}
use Rattle.desk.proofs.desk.Desk.show.Goals as goal

pub invariant_of-self : goal.invariant_of-self
invariant_of-self g c =
    let heard = g.L.Terminal.heard in
    let said = g.L.Terminal.said in
    let old = c.args.self.now in
    let f = c.args.lines in
    let heard_same = c.say-4.ensures.heard ∙ c.say-3.ensures.heard ∙ c.say-2.ensures.heard ∙ c.say.ensures.heard in
    let low = f.low.bytes.items in
    let high = f.high.bytes.items in
    let top = f.top.bytes.items in
    let bottom = f.bottom.bytes.items in
    let said_all = c.say-4.ensures.said ∙ ap (λ (z : List (List ℕ)). bottom ∷ z) c.say-3.ensures.said
    ∙ ap (λ (z : List (List ℕ)). bottom ∷ top ∷ z) c.say-2.ensures.said ∙ ap (λ (z : List (List ℕ)). bottom ∷ top ∷ high ∷ z) c.say.ensures.said in
    record { is_talk = goes_on (heard old.terminal) (said old.terminal) (heard c.say-4.new.self) (said c.say-4.new.self) old.talk.items c.and-self.result.items (Shown f, tt) old.is_talk heard_same said_all c.and-self.ensures }

pub returns-clause-turns : goal.returns-clause-turns
returns-clause-turns g c = entered turns_in c.args.self.now.talk.items c.and-self.result.items (Shown c.args.lines) c.and-self.ensures

pub returns-clause-shown : goal.returns-clause-shown
returns-clause-shown g c = entered shows_in c.args.self.now.talk.items c.and-self.result.items (Shown c.args.lines) c.and-self.ensures
