use Rattle.std.proofs.Common.{◌≡◌, ℕ, ◌+◌, ◌*◌, ◌/◌, ◌<◌, ◌≤◌, Decides, length, get_or, sym, ap, subst, ◌∙◌, arith, rules, length-append}
use Rattle.chain.proofs.Numbered.{numbered_turn, numbered_end}
use Rattle.chain.proofs.Places.{hazard_at, life_at}
use Rattle.chain.proofs.Turns.{Next, SoFar, next_unfailed, number_fits, one_more, stuck, total_fits, width_fits}
use Rattle.chain.proofs.plant.Chain.coming_window.Goals as goal
use Rattle.chain.proofs.plant.Chain.coming_window.Goals.{After-holds-renewed, After-start_age, In_ok-start, In-Some, In-None}
use Rattle.chain.specs.LawsLemmas.{lives_in_range}
use Rattle.chain.specs.Limits.{most_life}
use Rattle.chain.specs.Parts.{blank, hazard, life}
use Rattle.chain.specs.Portfolios.{start_age}
use Rattle.chain.specs.declared.numbers.Part.{Part}
use Rattle.workorder.specs.Orders.{Holds}

-- the number and the part of this turn
turned : (c : goal.In-Some) → let n = c.args.self.now.numbers in let i = length c.loop-number.yielded in (c.in-Some.number ≡ i + 1) × (i < n.count) × (c.in-Some.part.now.life ≡ life n (i + 1)) × ((age : ℕ) → get_or c.in-Some.part.now.hazards age 0 ≡ hazard n (i + 1) age)
turned c =
    let n = c.args.self.now.numbers in
    let i = length c.loop-number.yielded in
    let here = numbered_turn c.parts.result.now c.loop-number.yielded c.into_iter-number-iterator.result c.loop-number.number-iterator c.next.new.self _ (search rules) (search rules) c.loop-number.yielded_by _ c.in-Some.is c.next.ensures.steps in (
      here.0,
      omega (arith, here.1, c.parts.ensures.long),
      ap (λ (p : Part). p.life) (here.2 blank) ∙ life_at n c.parts.result.now i c.parts.ensures.value c.parts.ensures.long here.1,
      λ age. ap (λ (p : Part). get_or p.hazards age 0) (here.2 blank) ∙ hazard_at n c.parts.result.now i c.parts.ensures.value c.parts.ensures.long here.1 age,
    )

-- its life is one that a part may have
living : (c : goal.In-Some) → (0 < c.in-Some.part.now.life) × (c.in-Some.part.now.life ≤ most_life)
living c =
    let t = turned c in
    let l = lives_in_range c.args.self.now.numbers c.args.self.now.ranges (length c.loop-number.yielded + 1) (omega arith) (omega (arith, t.1)) in
    (omega (arith, t.2, l.0), omega (arith, t.2, l.1))

pub nonzero_rem-rest : goal.nonzero_rem-rest
nonzero_rem-rest c = omega (arith, (living (goal.at.nonzero_rem-rest c).In-Some).0)

next : (c : goal.After-start_age) → Next c.args.self.now.numbers c.args.portfolio (length c.loop-number.yielded) c.in-Some.part.now.life c.holds-renewed.result
next c =
    let t = turned (goal.at.After-start_age c).In-Some in
    record {
      inside = t.1;
      long = t.2;
      held = subst (λ (z : ℕ). Decides c.holds-renewed.result (Holds c.args.portfolio z)) t.0 c.holds-renewed.ensures;
    }

pub returns-in_err-start : goal.returns-in_err-start
returns-in_err-start c =
    let a = (goal.at.returns-in_err-start c).After-start_age in
    rw c.from_residual.ensures (stuck c.args.self.now.numbers c.args.self.now.ranges c.args.state c.args.portfolio (length c.loop-number.yielded) c.loop-number.rest c.loop-number.width c.loop-number.total c.loop-number.hazards
    c.in-Some.part.now.life c.holds-renewed.result c.loop-number.invariant.all (next a) (sym c.in_err-start.was ∙ c.start_age.ensures))

pub bounds-part-start : goal.bounds-part-start
bounds-part-start c = let l = living (goal.at.bounds-part-start c).In-Some in grind arith

pub offset_bounds-part-start : goal.offset_bounds-part-start
offset_bounds-part-start c = let l = living (goal.at.offset_bounds-part-start c).In-Some in grind arith

abbrev risk : goal.In_ok-start → ℕ
risk c = get_or c.in-Some.part.now.hazards c.in_ok-start.start 0

-- with the part of this turn, and its hazard
turn : (c : goal.In_ok-start) → let l = c.in-Some.part.now.life in let i = length c.loop-number.yielded in SoFar c.args.self.now.numbers c.args.state c.args.portfolio (i + 1) (c.loop-number.rest / l) (c.loop-number.width * l) (c.loop-number.total + c.in_ok-start.start * c.loop-number.width) (c.loop-number.hazards + risk c) × (risk c ≡ hazard c.args.self.now.numbers (i + 1) (start_age c.args.self.now.numbers c.args.state c.args.portfolio (i + 1))) × (i + 1 ≤ c.args.self.now.numbers.count)
turn c =
    let o = goal.at.In_ok-start c in
    let t = turned o.In-Some in
    let more = one_more c.args.self.now.numbers c.args.self.now.ranges c.args.state c.args.portfolio (length c.loop-number.yielded) c.loop-number.rest c.loop-number.width c.loop-number.total c.loop-number.hazards
    c.in-Some.part.now.life c.holds-renewed.result c.loop-number.invariant.all (next o.After-start_age) c.in_ok-start.start (risk c) (sym c.in_ok-start.was ∙ c.start_age.ensures) (t.3 c.in_ok-start.start) in
    (more.0, more.1, omega (arith, t.1))

pub overflow_add-hazards : goal.overflow_add-hazards
overflow_add-hazards c = let t = turn (goal.at.overflow_add-hazards c).In_ok-start in omega (arith, t.0.few, t.2, c.args.self.now.ranges.terms.0.1)

pub overflow_mul-total : goal.overflow_mul-total
overflow_mul-total c = let t = turn (goal.at.overflow_mul-total c).In_ok-start in omega (arith, total_fits c.args.self.now.numbers c.args.self.now.ranges c.args.state c.args.portfolio _ _ _ _ _ t.0 t.2)

pub overflow_add-total : goal.overflow_add-total
overflow_add-total c = let t = turn (goal.at.overflow_add-total c).In_ok-start in omega (arith, total_fits c.args.self.now.numbers c.args.self.now.ranges c.args.state c.args.portfolio _ _ _ _ _ t.0 t.2)

pub nonzero_div-rest-in-loop-number : goal.nonzero_div-rest-in-loop-number
nonzero_div-rest-in-loop-number c = omega (arith, (living (goal.at.nonzero_div-rest-in-loop-number c).In-Some).0)

pub overflow_mul-width : goal.overflow_mul-width
overflow_mul-width c = let t = turn (goal.at.overflow_mul-width c).In_ok-start in omega (arith, width_fits c.args.self.now.numbers c.args.self.now.ranges c.args.state c.args.portfolio _ _ _ _ _ t.0 t.2)

pub loop-number-preserved-then-number-asked : goal.loop-number-preserved-then-number-asked
loop-number-preserved-then-number-asked c =
    let n = c.args.self.now.numbers in
    let s = c.args.state in
    let x = c.args.portfolio in
    let at = goal.at.loop-number-preserved-then-number-asked c in
    let now = turn at.In_ok-start in
    let here : length c.loop-number.yielded + 1 ≡ c.args.asked = omega (arith, (turned at.In-Some).0, c.if-number-asked.true) in
    rw length-append (record { all = now.0; one = λ some most. now.1 ∙ ap (λ j. hazard n j (start_age n s x j)) here })

pub loop-number-preserved : goal.loop-number-preserved
loop-number-preserved c =
    let at = goal.at.loop-number-preserved c in
    let now = turn at.In_ok-start in
    rw length-append (record { all = now.0; one = λ some most. c.loop-number.invariant.one some (omega (arith, (turned at.In-Some).0, c.if-number-asked.false)) })

-- with all parts
all : (c : goal.In-None) → (length c.loop-number.yielded ≡ c.args.self.now.numbers.count) × SoFar c.args.self.now.numbers c.args.state c.args.portfolio c.args.self.now.numbers.count c.loop-number.rest c.loop-number.width c.loop-number.total c.loop-number.hazards
all c =
    let ended = numbered_end c.parts.result.now c.loop-number.yielded c.into_iter-number-iterator.result c.loop-number.number-iterator c.next.new.self _ (search rules) (search rules) c.loop-number.yielded_by c.in-None.is c.next.ensures.steps (omega (arith, c.parts.ensures.long, c.args.self.now.ranges.terms.0.1)) in
    let end : length c.loop-number.yielded ≡ c.args.self.now.numbers.count = omega (arith, ended, c.parts.ensures.long) in
    (end, rw end at c.loop-number.invariant.all)

pub overflow_mul-result : goal.overflow_mul-result
overflow_mul-result c = omega (arith, number_fits c.args.self.now.numbers c.args.self.now.ranges c.args.state c.args.portfolio _ _ _ _ (all c).1)

pub returns : goal.returns
returns c =
    let n = c.args.self.now.numbers in
    let so = all c in
    (so.1.renewed, record { all = so.1.sum; one = λ some most. c.loop-number.invariant.one some (omega (arith, so.0)); unfailed = next_unfailed n (start_age n c.args.state c.args.portfolio) c.loop-number.total so.1.older })
