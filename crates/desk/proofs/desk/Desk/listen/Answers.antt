use Rattle.std.proofs.Common.{[], ◌∷◌, ◌++◌, length, Err, sym, ap, ◌∙◌}
use Rattle.desk.specs.Asking.{asked}
use Rattle.desk.specs.Saying.{refusal_line}
use Rattle.desk.specs.Talks.{shows_in, refuses_by}
use Rattle.desk.specs.declared.talk.Turn.TheVariants.{Heard}
use Rattle.desk.proofs.HistoryLaws.{entered}
use Rattle.desk.proofs.TalkLaws.{goes_on, asks_heard}
use Rattle.desk.proofs.desk.Desk.listen.Goals as goal

pub invariant_of-self-in-Err : goal.invariant_of-self-in-Err
invariant_of-self-in-Err g c =
    let heard = g.L.Terminal.heard in
    let said = g.L.Terminal.said in
    let old = c.args.self.now in
    let line = c.lines-line.result in
    let turn = Heard c.args.due c.in_ok-heard.heard in
    let asks = sym c.in-Err.is ∙ c.asked-asked.ensures.value ∙ ap (asked c.args.due) c.as_slice.ensures.value in
    let counted = c.lines-line.ensures ∙ ap length (sym c.say.ensures.heard) in
    let refused = c.say.ensures.said ∙ ap (λ us. us ++ said c.hear.new.self) (ap (λ l. l ∷ []) (c.refusal_line.ensures ∙ ap (λ n. refusal_line n line) c.number.ensures) ∙ ap (refuses_by line) asks) ∙ ap (λ us. refuses_by line (asked c.args.due c.in_ok-heard.heard.items) ++ us) c.in_ok-heard.ensures.said
    ∙ ap (λ n. refuses_by n (asked c.args.due c.in_ok-heard.heard.items) ++ said old.terminal) counted in
    record { is_talk = goes_on (heard old.terminal) (said old.terminal) (heard c.say.new.self) (said c.say.new.self) old.talk.items c.and-self.result.items (turn, tt) old.is_talk (c.say.ensures.heard ∙ c.in_ok-heard.ensures.heard) refused c.and-self.ensures }

pub invariant_of-self-in_default : goal.invariant_of-self-in_default
invariant_of-self-in_default g c =
    let heard = g.L.Terminal.heard in
    let said = g.L.Terminal.said in
    let old = c.args.self.now in
    let turn = Heard c.args.due c.in_ok-heard.heard in
    let asks = sym c.in_default.is ∙ c.asked-asked.ensures.value ∙ ap (asked c.args.due) c.as_slice.ensures.value in
    let nothing = c.in_ok-heard.ensures.said ∙ ap (λ r. refuses_by (length (heard c.hear.new.self)) r ++ said old.terminal) asks in
    record { is_talk = goes_on (heard old.terminal) (said old.terminal) (heard c.hear.new.self) (said c.hear.new.self) old.talk.items c.and-self.result.items (turn, tt) old.is_talk c.in_ok-heard.ensures.heard nothing c.and-self.ensures }

pub returns-in-Err-clause-turns : goal.returns-in-Err-clause-turns
returns-in-Err-clause-turns g c =
    asks_heard c.args.self.now.talk.items c.and-self.result.items c.args.due c.in_ok-heard.heard (Err c.in-Err.rule) c.and-self.ensures
    (sym c.in-Err.is ∙ c.asked-asked.ensures.value ∙ ap (asked c.args.due) c.as_slice.ensures.value)

pub returns-in-Err-clause-shown : goal.returns-in-Err-clause-shown
returns-in-Err-clause-shown g c = entered shows_in c.args.self.now.talk.items c.and-self.result.items (Heard c.args.due c.in_ok-heard.heard) c.and-self.ensures

pub returns-in_default-clause-turns : goal.returns-in_default-clause-turns
returns-in_default-clause-turns g c =
    asks_heard c.args.self.now.talk.items c.and-self.result.items c.args.due c.in_ok-heard.heard c.asked-asked.result c.and-self.ensures
    (c.asked-asked.ensures.value ∙ ap (asked c.args.due) c.as_slice.ensures.value)

pub returns-in_default-clause-shown : goal.returns-in_default-clause-shown
returns-in_default-clause-shown g c = entered shows_in c.args.self.now.talk.items c.and-self.result.items (Heard c.args.due c.in_ok-heard.heard) c.and-self.ensures
