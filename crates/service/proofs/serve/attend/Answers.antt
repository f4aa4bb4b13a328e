use Rattle.std.proofs.Common.{ap, ◌∙◌, ◌∷◌, subst, Some}
use Rattle.std.specs.Option.{IfSome}
use Rattle.bookkeeping.specs.LookingBack.{Continues}
use Rattle.bookkeeping.specs.Standings.{asked, book_of, reply_of, event_of}
use Rattle.service.specs.Services.{tells, shown}
use Rattle.service.proofs.Serving.{one_call}
use Rattle.service.proofs.serve.attend.Goals as goal

pub loop-call-preserved : goal.loop-call-preserved
loop-call-preserved g c =
    let m = g.P.Plant.model c.args.plant.now in
    let call = asked m c.in-Some.call in
    let asks = c.in-Some.ensures.asked m in
    let next = book_of c.call-next.result.0 in
    let goes = subst (λ z. IfSome z (λ answer. Continues (book_of c.loop-call.book) (event_of call answer) next)) c.unwrap.ensures c.call-next.ensures.past in
    record {
      served = λ from start.
          one_call m c.args.policy.now from (g.O.Operator.turns c.loop-call.operator) _ (book_of c.loop-call.book) next call (reply_of c.unwrap.result)
          (c.loop-call.invariant.served from start) asks.1 goes
          (c.tell.ensures.turns ∙ ap (λ z. tells (record { reply = reply_of c.unwrap.result; shown = Some (shown next) }) ∷ z) asks.2);
      shown = λ rows was. c.tell.ensures.shown rows (c.next_call.ensures.shown rows (c.loop-call.invariant.shown rows was));
    }
