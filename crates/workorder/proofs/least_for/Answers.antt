use Rattle.std.proofs.Common.{◌≡◌, min, rules, tests}
use Rattle.std.proofs.lemmas.Iterator.Consumers.{YieldsList-at, YieldsList-from_filter_map}
use Rattle.std.specs.List.{filter_map, reduce}
use Rattle.workorder.proofs.Leasts.{least_of_list, reduced, reduced_below}
use Rattle.workorder.proofs.Parts.{from_to, given, in_from_to}
use Rattle.workorder.proofs.WorkOrders.{ending, ending_only, least_of_endings}
use Rattle.workorder.proofs.least_for.Goals as goal
use Rattle.workorder.specs.Orders.{max_parts}
use Rattle.workorder.specs.Steps.{EndsWith}

picked : (c : goal.After-reduce) → c.reduce.result ≡ reduce min (filter_map (λ i. (ending c.args.arcs.now c.args.portfolio c.args.table.now c.requires.right i).0) (from_to 1 max_parts))
picked c =
    let only = ending_only c.args.arcs.now c.args.portfolio c.args.table.now c.requires.right in
    let parts = given 1 max_parts c.new.ensures.start c.new.ensures.end c.new.ensures.exhausted in
    reduced _ (λ a x b q k. search (rules, tests)) _ _ c.reduce.ensures.ran
    (YieldsList-from_filter_map _ (λ i. (ending c.args.arcs.now c.args.portfolio c.args.table.now c.requires.right i).0) (YieldsList-at c.filter_map.ensures.source parts) c.filter_map.ensures.closure (λ x r q k. search (rules, tests, only)))

pub returns-clause-least : goal.returns-clause-least
returns-clause-least c =
    let arcs = c.args.arcs.now in
    let x = c.args.portfolio in
    let least = ending arcs x c.args.table.now c.requires.right in
    rw (picked c)
    (least_of_endings arcs max_parts x (from_to 1 max_parts) _ c.requires.in_range.0 c.requires.in_range.1 (in_from_to 1 max_parts)
    (least_of_list (EndsWith arcs x) least (from_to 1 max_parts)))

pub returns-clause-small : goal.returns-clause-small
returns-clause-small c =
    let below = reduced_below _ (λ a x b q k. search (rules, tests)) _ _ c.reduce.ensures.runs in
    search rules
