use Rattle.std.proofs.Common.{◌≡◌, ◌<◌, ◌≤◌, ◌≢◌, map, length, set, refl, sym, ◌∙◌, subst, arith, below_more}
use Rattle.std.proofs.lemmas.List.{length-map}
use Rattle.interface.specs.Rows.{reach}
use Rattle.interface.specs.Limits.{most_value}
use Rattle.lookahead.proofs.Bounds.{fits_map}
use Rattle.certificate.proofs.Soundness.{near_from_each}
use Rattle.planner.specs.Sweeps.{Fresh, NewValue}
use Rattle.planner.proofs.Shares.{shared_reach, written_here, written_elsewhere}
use Rattle.planner.proofs.sweep.sweep_into.Goals as goal

pub apart-value-requires : goal.apart-value-requires
apart-value-requires g c =
    let row = g.T.Tariff.row in
    let m = g.P.Plant.model c.args.valued.now.plant.now in
    let t = g.T.Tariff.scale c.args.valued.now.tariff.now in
    let fit = fits_map row t.places (g.met.T.Tariff.fits c.args.valued.now.tariff.now) c.args.valued.now.table.amounts.now in
    let near = shared_reach m (g.met.P.Plant.lawful c.args.valued.now.plant.now) t (g.met.T.Tariff.lawful c.args.valued.now.tariff.now) (map row c.args.valued.now.table.amounts.now) c.args.valued.now.within fit in
    omega (arith, near c.loop-state.state (row c.least_share.result) c.least_share.ensures, near 0 (row c.least_share-base.result) c.least_share-base.ensures)

pub returns-then-reach-gt-MOST_VALUE : goal.returns-then-reach-gt-MOST_VALUE
returns-then-reach-gt-MOST_VALUE g c =
    let row = g.T.Tariff.row in
    record {
      swept = tt;
      near = tt;
      stopped = record {
        state = c.loop-state.state;
        told = refl;
        stuck = record {
          inside = omega arith;
          value = row c.apart-value.result;
          new = record {
            own = row c.least_share.result;
            base = row c.least_share-base.result;
            own_is = c.least_share.ensures;
            base_is = c.least_share-base.ensures;
            is = c.apart-value.ensures;
          };
          far = omega arith;
          first = λ k l. let fresh = c.loop-state.invariant k l in (_, fresh.new, fresh.near);
        };
      };
    }

pub loop-state-preserved : goal.loop-state-preserved
loop-state-preserved g c =
    let row = g.T.Tariff.row in
    let m = g.P.Plant.model c.args.valued.now.plant.now in
    let t = g.T.Tariff.scale c.args.valued.now.tariff.now in
    let vs = map row c.args.valued.now.table.amounts.now in
    let ws = c.loop-state.working in
    let s = c.loop-state.state in
    let v = c.apart-value.result in
    let inside : s < length ws = omega arith in
    let new : NewValue m t vs s (row v) = record {
      own = row c.least_share.result;
      base = row c.least_share-base.result;
      own_is = c.least_share.ensures;
      base_is = c.least_share-base.ensures;
      is = c.apart-value.ensures;
    } in
    let near : reach (row v) ≤ most_value = omega arith in
    let here = written_here row t ws s v inside in
    below_more (λ k. Fresh m t vs (map row (set ws s v)) k) s
    (λ k l.
    let fresh = c.loop-state.invariant k l in
    let other : k ≢ s = omega arith in
    let same = sym (written_elsewhere row t ws s v k other) in
    record { new = subst (NewValue m t vs k) same fresh.new; near = subst (λ w. reach w ≤ most_value) same fresh.near })
    (record { new = subst (NewValue m t vs s) (sym here) new; near = subst (λ w. reach w ≤ most_value) (sym here) near })

pub returns : goal.returns
returns g c =
    let row = g.T.Tariff.row in
    let m = g.P.Plant.model c.args.valued.now.plant.now in
    let t = g.T.Tariff.scale c.args.valued.now.tariff.now in
    let ws = c.loop-state.working in
    let long : length ws ≡ m.states = omega arith in
    let many = length-map ws row in
    record {
      swept = record { long = many ∙ long; each = λ s l. (c.loop-state.invariant s (omega arith)).new };
      near = near_from_each t.places (map row ws) (λ s l. (c.loop-state.invariant s (omega arith)).near);
      stopped = tt;
    }
