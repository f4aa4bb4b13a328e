use Rattle.std.proofs.Common.{◌≤◌, refl, sym, arith}
use Rattle.bench.proofs.Cuts.{front_length}
use Rattle.bench.proofs.planning.told_plan.Goals as goal

pub slice_bounds-plan_into-end : goal.slice_bounds-plan_into-end
slice_bounds-plan_into-end g c =
    let law = (g.met.P.Plant.lawful c.args.plant.now).few_states in
    let few : c.states-states.result ≤ 4096 = omega arith in
    sym (front_length _ _ _ few refl)

pub slice_bounds-plan_into-end-2 : goal.slice_bounds-plan_into-end-2
slice_bounds-plan_into-end-2 g c =
    let law = (g.met.P.Plant.lawful c.args.plant.now).few_states in
    let few : c.states-states.result ≤ 4096 = omega arith in
    sym (front_length _ _ _ few refl)

pub returns : goal.returns
returns g c =
    let law = (g.met.P.Plant.lawful c.args.plant.now).few_states in
    let few : c.states-states.result ≤ 4096 = omega arith in
    let is = c.states-states.ensures in
    (_, _, record { values = front_length _ _ _ few is; working = front_length _ _ _ few is; policy = front_length _ _ _ few is }, c.plan_into.ensures)
