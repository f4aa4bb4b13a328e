use Rattle.std.proofs.Common.{◌≡◌, min, rules, tests}
use Rattle.std.proofs.lemmas.Iterator.{YieldsList-from_slice}
use Rattle.std.proofs.lemmas.Iterator.Consumers.{YieldsList-from_filter_map}
use Rattle.std.specs.List.{filter_map, reduce}
use Rattle.workorder.proofs.Arcs.{alone, cheapest, usable_alone}
use Rattle.workorder.proofs.Leasts.{reduced, reduced_below}
use Rattle.workorder.proofs.cheapest_arc.Goals as goal

picked : (c : goal.After-reduce) → c.reduce.result ≡ reduce min (filter_map (λ a. (alone c.args.done c.args.part a).0) c.args.arcs.now)
picked c =
    reduced _ (λ a x b q k. search (rules, tests)) _ _ c.reduce.ensures.ran
    (YieldsList-from_filter_map _ _ (YieldsList-from_slice c.args.arcs.now cc) c.filter_map.ensures.closure (λ x r q k. search (rules, tests, usable_alone)))

pub returns-clause-least : goal.returns-clause-least
returns-clause-least c = rw (picked c) (cheapest c.args.done c.args.part c.args.arcs.now)

pub returns-clause-small : goal.returns-clause-small
returns-clause-small c =
    let below = reduced_below _ (λ a x b q k. search (rules, tests)) _ _ c.reduce.ensures.runs in
    search rules
