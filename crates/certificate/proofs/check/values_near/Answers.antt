use Rattle.std.proofs.Common.{◌≡◌, true, false, cond, leb, map, Some, None, sym, ap, ◌∙◌}
use Rattle.std.proofs.lemmas.Bool.{le-leb, lt-leb}
use Rattle.interface.specs.Rows.{reach}
use Rattle.interface.specs.Limits.{most_value}
use Rattle.lookahead.specs.Gains.{value_of}
use Rattle.certificate.specs.declared.refusal.Refusal.TheVariants.{BeyondReach}
use Rattle.certificate.specs.Refusals.{value_fault}
use Rattle.certificate.proofs.Faults.{fault_at, fault_more, value_read}
use Rattle.certificate.proofs.check.values_near.Goals as goal

pub returns-then-reach-gt-MOST_VALUE : goal.returns-then-reach-gt-MOST_VALUE
returns-then-reach-gt-MOST_VALUE g c =
    let row = g.T.Tariff.row in
    let t = g.T.Tariff.scale c.args.tariff.now in
    let vs = map row c.args.table.now.amounts.now in
    let s = c.loop-s.s in
    let is : c.reach.result ≡ reach (value_of t vs s) =
    c.reach.ensures ∙ sym (ap reach (value_read row t c.args.table.now.amounts.now s c.value-item.result c.loop-s-test.true c.value-item.is)) in
    let no_way : leb (reach (value_of t vs s)) most_value ≡ false = sym (ap (λ n. leb n most_value) is) ∙ lt-leb c.reach.result most_value c.if-reach-gt-MOST_VALUE.true in
    sym (fault_at (value_fault t vs) _ s (BeyondReach s) c.loop-s-test.true c.loop-s.invariant (ap (λ z. cond z None (Some (BeyondReach s))) no_way))

pub loop-s-preserved : goal.loop-s-preserved
loop-s-preserved g c =
    let row = g.T.Tariff.row in
    let t = g.T.Tariff.scale c.args.tariff.now in
    let vs = map row c.args.table.now.amounts.now in
    let s = c.loop-s.s in
    let is : c.reach.result ≡ reach (value_of t vs s) =
    c.reach.ensures ∙ sym (ap reach (value_read row t c.args.table.now.amounts.now s c.value-item.result c.loop-s-test.true c.value-item.is)) in
    let near : leb (reach (value_of t vs s)) most_value ≡ true = sym (ap (λ n. leb n most_value) is) ∙ le-leb c.reach.result most_value c.if-reach-gt-MOST_VALUE.false in
    fault_more (value_fault t vs) s c.loop-s.invariant (ap (λ z. cond z None (Some (BeyondReach s))) near)
