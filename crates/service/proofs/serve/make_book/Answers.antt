use Rattle.std.proofs.Common.{ap, ◌∙◌, ◌∷◌, refl, None}
use Rattle.bookkeeping.specs.Log.{Reply, refused}
use Rattle.bookkeeping.specs.Refusals.{number_of, place_of}
use Rattle.service.specs.Services.{tells}
use Rattle.service.proofs.Serving.{not_made_is, one_more}
use Rattle.service.proofs.serve.make_book.Goals as goal

pub loop-state-preserved : goal.loop-state-preserved
loop-state-preserved g c =
    let m = g.P.Plant.model c.args.plant.now in
    let turns = g.O.Operator.turns in
    let s = c.in_ok-state.state in
    let why = c.in-Err.why in
    let none = not_made_is m s (number_of why) (place_of why) ((c.in-Err.ensures.refused (number_of why) (place_of why)).0 (refl, refl)) in
    record {
      none = one_more m (turns c.args.operator.now) (turns c.loop-state.operator) _ s c.loop-state.invariant.none none.0
          (c.not_made.ensures.turns
          ∙ ap (λ (r : Reply). tells (record { reply = r; shown = None }) ∷ turns c.state.new.self) none.1
          ∙ ap (λ z. tells (record { reply = refused 21 s; shown = None }) ∷ z) c.in_ok-state.ensures.turns);
      shown = λ rows was. c.not_made.ensures.shown rows (c.in_ok-state.ensures.shown rows (c.loop-state.invariant.shown rows was));
    }
